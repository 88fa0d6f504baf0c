-- Trials of numbers and hex, with characters that are no digits.
-- Assumes nothing.
use Rattle.std.specs.Prelude.{ℕ, ◌≡◌, true, false, List, [], ◌∷◌, Some, None, Ok, Err}
use Rattle.format.specs.Answer.{Refused}
use Rattle.vectors.specs.Vectors.{is_colon, is_number, spelt, number_of, hex_fault, unhexed, hexed, unread_line, vector_line}
use Rattle.vectors.specs.declared.Fault.TheVariants.{Digit, Half}

-- text read and written; above the statements stands the text that their bytes spell
unfoldable pub spellings : List (Type 0)
spellings =
    -- ": 3", ":3", ":"
    (is_colon (58 ∷ 32 ∷ 51 ∷ []) ≡ true)
    ∷ (is_colon (58 ∷ 51 ∷ []) ≡ false)
    ∷ (is_colon (58 ∷ []) ≡ false)
    -- "", "0", "1x", "w"
    ∷ (is_number [] ≡ false)
    ∷ (is_number (48 ∷ []) ≡ true)
    ∷ (is_number (49 ∷ 120 ∷ []) ≡ false)
    ∷ (is_number (119 ∷ []) ≡ false)
    -- "0", "1024", "4294967295", "9999999999", and the last two and "" again
    ∷ (spelt (48 ∷ []) 0 ≡ 0)
    ∷ (spelt (49 ∷ 48 ∷ 50 ∷ 52 ∷ []) 0 ≡ 1024)
    ∷ (spelt (52 ∷ 50 ∷ 57 ∷ 52 ∷ 57 ∷ 54 ∷ 55 ∷ 50 ∷ 57 ∷ 53 ∷ []) 0 ≡ 4294967295)
    ∷ (spelt (57 ∷ 57 ∷ 57 ∷ 57 ∷ 57 ∷ 57 ∷ 57 ∷ 57 ∷ 57 ∷ 57 ∷ []) 0 ≡ 4294967296)
    ∷ (number_of (52 ∷ 50 ∷ 57 ∷ 52 ∷ 57 ∷ 54 ∷ 55 ∷ 50 ∷ 57 ∷ 53 ∷ []) ≡ Some 4294967295)
    ∷ (number_of (57 ∷ 57 ∷ 57 ∷ 57 ∷ 57 ∷ 57 ∷ 57 ∷ 57 ∷ 57 ∷ 57 ∷ []) ≡ None)
    ∷ (number_of [] ≡ None)
    -- "", "ff80", "Ff80", "Fg80", "ff8", "ff 80"
    ∷ (hex_fault [] ≡ Ok tt)
    ∷ (hex_fault (102 ∷ 102 ∷ 56 ∷ 48 ∷ []) ≡ Ok tt)
    ∷ (hex_fault (70 ∷ 102 ∷ 56 ∷ 48 ∷ []) ≡ Ok tt)
    ∷ (hex_fault (70 ∷ 103 ∷ 56 ∷ 48 ∷ []) ≡ Err Digit)
    ∷ (hex_fault (102 ∷ 102 ∷ 56 ∷ []) ≡ Err Half)
    ∷ (hex_fault (102 ∷ 102 ∷ 32 ∷ 56 ∷ 48 ∷ []) ≡ Err Digit)
    -- "", "00ff9a", "Ff80"
    ∷ (◌≡◌ {A = List ℕ} (unhexed []) [])
    ∷ (unhexed (48 ∷ 48 ∷ 102 ∷ 102 ∷ 57 ∷ 97 ∷ []) ≡ 0 ∷ 255 ∷ 154 ∷ [])
    ∷ (unhexed (70 ∷ 102 ∷ 56 ∷ 48 ∷ []) ≡ 255 ∷ 128 ∷ [])
    ∷ (hexed (0 ∷ 255 ∷ 154 ∷ []) ≡ 48 ∷ 48 ∷ 102 ∷ 102 ∷ 57 ∷ 97 ∷ [])
    -- "a: unread half", and "a: " where nothing is wrong
    ∷ (unread_line (97 ∷ []) (Err Half) ≡ 97 ∷ 58 ∷ 32 ∷ 117 ∷ 110 ∷ 114 ∷ 101 ∷ 97 ∷ 100 ∷ 32 ∷ 104 ∷ 97 ∷ 108 ∷ 102 ∷ 10 ∷ [])
    ∷ (unread_line (97 ∷ []) (Ok tt) ≡ 97 ∷ 58 ∷ 32 ∷ 10 ∷ [])
    -- "a: no 1 0 0 aa"
    ∷ (vector_line (97 ∷ []) (Refused 1 0 0) (170 ∷ []) ≡ 97 ∷ 58 ∷ 32 ∷ 110 ∷ 111 ∷ 32 ∷ 49 ∷ 32 ∷ 48 ∷ 32 ∷ 48 ∷ 32 ∷ 97 ∷ 97 ∷ 10 ∷ [])
    ∷ []
