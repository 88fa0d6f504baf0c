-- Packets and sheets as text, one a line: each definition is total, so that no byte is taken for granted.
-- Assumes nothing.
use Rattle.std.specs.Prelude.{ℕ, zero, suc, ◌+◌, ◌-◌, ◌*◌, ◌/◌, ◌%◌, min, Bool, true, ◌&&◌, cond, List, [], ◌∷◌, ◌++◌, ltb, leb, eqb, length, get_or, drop, Option, Some, None, Result, Ok, Err}
use Rattle.format.specs.Answer.{Answer}
use Rattle.printing.specs.Printing.{answer_text}
use Rattle.vectors.specs.declared.Fault.{Fault}
use Rattle.vectors.specs.declared.Fault.TheVariants.{Form, Number, Digit, Half, Length}

-- a colon and a space
unfoldable pub is_colon : List ℕ → Bool
is_colon s = eqb (get_or s 0 0) 58 && eqb (get_or s 1 0) 32

unfoldable pub is_digit : ℕ → Bool
is_digit c = leb 48 c && leb c 57

unfoldable pub are_digits : List ℕ → Bool
are_digits [] = true
are_digits (c ∷ s) = is_digit c && are_digits s

-- digits, one at least
unfoldable pub is_number : List ℕ → Bool
is_number s = are_digits s && ltb 0 (length s)

-- the value of a digit; a byte that is none counts as 0
unfoldable pub digit_value : ℕ → ℕ
digit_value c = cond (is_digit c) (c - 48) 0

-- a number with one more digit; 2^32 stands for any that 4 bytes do not hold
unfoldable pub with_digit : ℕ → ℕ → ℕ
with_digit n c = min 4294967296 (n * 10 + digit_value c)

-- the number n, with the digits s behind it
unfoldable pub spelt : List ℕ → ℕ → ℕ
spelt [] n = n
spelt (c ∷ s) n = spelt s (with_digit n c)

-- the number that text spells in digits, one at least, where 4 bytes hold it
unfoldable pub number_of : List ℕ → Option ℕ
number_of s = cond (is_number s && leb (spelt s 0) 4294967295) (Some (spelt s 0)) None

-- the value of a hex digit, 0 to 9, A to F or a to f; 16 for a byte that is none
unfoldable pub nibble : ℕ → ℕ
nibble c = cond (leb 48 c && leb c 57) (c - 48) (cond (leb 65 c && leb c 70) (c - 55) (cond (leb 97 c && leb c 102) (c - 87) 16))

-- hex digits alone
unfoldable pub is_hex : List ℕ → Bool
is_hex [] = true
is_hex (c ∷ s) = ltb (nibble c) 16 && is_hex s

-- what keeps text from being bytes in hex: a character that is no digit, or else a digit that is left over
unfoldable pub hex_fault : List ℕ → Result (Unit {0}) Fault
hex_fault s = cond (is_hex s) (cond (eqb (length s % 2) 0) (Ok tt) (Err Half)) (Err Digit)

-- the k bytes that the first k pairs of s spell
unfoldable pub pairs : ℕ → List ℕ → List ℕ
pairs zero s = []
pairs (suc k) s = (nibble (get_or s 0 0) * 16 + nibble (get_or s 1 0)) ∷ pairs k (drop 2 s)

-- the bytes that pairs of hex digits spell
unfoldable pub unhexed : List ℕ → List ℕ
unhexed s = pairs (length s / 2) s

-- the lowercase hex digit of a number below 16
unfoldable pub hex_digit : ℕ → ℕ
hex_digit d = cond (ltb d 10) (48 + d) (87 + d)

-- bytes in hex
unfoldable pub hexed : List ℕ → List ℕ
hexed [] = []
hexed (x ∷ s) = hex_digit (x / 16) ∷ hex_digit (x % 16) ∷ hexed s

-- what is said of a line that is not read: "unread" and a word; nothing where nothing is wrong
unfoldable pub fault_text : Result (Unit {0}) Fault → List ℕ
fault_text (Ok _) = []
fault_text (Err Form) = 117 ∷ 110 ∷ 114 ∷ 101 ∷ 97 ∷ 100 ∷ 32 ∷ 102 ∷ 111 ∷ 114 ∷ 109 ∷ []
fault_text (Err Number) = 117 ∷ 110 ∷ 114 ∷ 101 ∷ 97 ∷ 100 ∷ 32 ∷ 110 ∷ 117 ∷ 109 ∷ 98 ∷ 101 ∷ 114 ∷ []
fault_text (Err Digit) = 117 ∷ 110 ∷ 114 ∷ 101 ∷ 97 ∷ 100 ∷ 32 ∷ 100 ∷ 105 ∷ 103 ∷ 105 ∷ 116 ∷ []
fault_text (Err Half) = 117 ∷ 110 ∷ 114 ∷ 101 ∷ 97 ∷ 100 ∷ 32 ∷ 104 ∷ 97 ∷ 108 ∷ 102 ∷ []
fault_text (Err Length) = 117 ∷ 110 ∷ 114 ∷ 101 ∷ 97 ∷ 100 ∷ 32 ∷ 108 ∷ 101 ∷ 110 ∷ 103 ∷ 116 ∷ 104 ∷ []

-- the line that says so: the line's name, a colon, a space, and what is said of it
unfoldable pub unread_line : List ℕ → Result (Unit {0}) Fault → List ℕ
unread_line name f = name ++ (58 ∷ 32 ∷ []) ++ fault_text f ++ (10 ∷ [])

-- the line that answers a vector: its name, a colon, a space, the answer, a space, the sheet in hex
unfoldable pub vector_line : List ℕ → Answer → List ℕ → List ℕ
vector_line name a sheet = name ++ (58 ∷ 32 ∷ []) ++ answer_text a ++ (32 ∷ hexed sheet) ++ (10 ∷ [])
