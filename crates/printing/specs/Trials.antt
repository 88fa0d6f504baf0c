-- Trials of what is printed: numbers, and the two results that document 01 prints.
-- Assumes nothing.
use Rattle.std.specs.Prelude.{ℕ, ◌≡◌, List, [], ◌∷◌, negsuc}
use Rattle.format.specs.Edition.{as_edition}
use Rattle.format.specs.Reader.{sheet}
use Rattle.format.specs.Trials.{read3}
use Rattle.format.specs.Samples.{version3, printed as sample}
use Rattle.printing.specs.Printing.{decimal, signed_decimal, printed}

-- numbers; 4294967295 is the largest of 4 bytes, and -90000000 the least latitude
unfoldable pub numbers_printed : List (Type 0)
numbers_printed =
    (decimal 0 ≡ 48 ∷ [])
    ∷ (decimal 9 ≡ 57 ∷ [])
    ∷ (decimal 10 ≡ 49 ∷ 48 ∷ [])
    ∷ (decimal 4294967295 ≡ 52 ∷ 50 ∷ 57 ∷ 52 ∷ 57 ∷ 54 ∷ 55 ∷ 50 ∷ 57 ∷ 53 ∷ [])
    ∷ (signed_decimal (negsuc 0) ≡ 45 ∷ 49 ∷ [])
    ∷ (signed_decimal (negsuc 89999999) ≡ 45 ∷ 57 ∷ 48 ∷ 48 ∷ 48 ∷ 48 ∷ 48 ∷ 48 ∷ 48 ∷ [])
    ∷ []

-- what the program prints of a packet
abbrev pub program : List ℕ → List ℕ
program l = printed (read3 l) (sheet (as_edition 3) l)

-- "A bare 32-byte header with P2 32 prints `ok 0 0 0 33`", and the 92-byte packet "prints whole" `ok 1 1 1 166` and `-351563 359648438`
unfoldable pub results_printed : List (Type 0)
results_printed =
    (program (version3 []) ≡ 111 ∷ 107 ∷ 32 ∷ 48 ∷ 32 ∷ 48 ∷ 32 ∷ 48 ∷ 32 ∷ 51 ∷ 51 ∷ 10 ∷ [])
    ∷ (program sample
    ≡ 111 ∷ 107 ∷ 32 ∷ 49 ∷ 32 ∷ 49 ∷ 32 ∷ 49 ∷ 32 ∷ 49 ∷ 54 ∷ 54 ∷ 10
    ∷ 45 ∷ 51 ∷ 53 ∷ 49 ∷ 53 ∷ 54 ∷ 51 ∷ 32 ∷ 51 ∷ 53 ∷ 57 ∷ 54 ∷ 52 ∷ 56 ∷ 52 ∷ 51 ∷ 56 ∷ 10 ∷ [])
    ∷ []
