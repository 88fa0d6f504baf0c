-- What the program prints: "It prints `ok` segments dwells targets sheet length, then each target's latitude and longitude on a line, or
-- `no` number segment field" (document 01, 'Trials'), in ASCII.
-- Assumes nothing.
use Rattle.std.specs.Prelude.{ℕ, zero, suc, ◌+◌, ◌/◌, ◌%◌, cond, List, [], ◌∷◌, ◌++◌, eqb, ℤ, pos, negsuc, take, drop}
use Rattle.octets.specs.Octets.{be, signed}
use Rattle.octets.specs.Layout.{total}
use Rattle.mask.specs.Fields.{target_widths}
use Rattle.format.specs.Answer.{Answer, Accepted, Refused}
use Rattle.format.specs.Sheet.{Record}
use Rattle.format.specs.Writer.{listed}

-- the digit of a number below 10: '0' is 48
abbrev pub digit : ℕ → ℕ
digit d = 48 + d

-- the digits of n, highest first, none for 0; k is at least n, so that the recursion ends
unfoldable pub digits : ℕ → ℕ → List ℕ
digits zero n = []
digits (suc k) zero = []
digits (suc k) (suc n) = digits k (suc n / 10) ++ (digit (suc n % 10) ∷ [])

-- a number in as few digits as it takes: those in front of the last, and the last, which 0 has too
unfoldable pub decimal : ℕ → List ℕ
decimal n = digits n (n / 10) ++ (digit (n % 10) ∷ [])

-- a signed number: '-', 45, in front of a negative one. (`negsuc n` is -(n + 1).)
unfoldable pub signed_decimal : ℤ → List ℕ
signed_decimal (pos n) = decimal n
signed_decimal (negsuc n) = 45 ∷ decimal (suc n)

-- numbers, each after a space
unfoldable pub spaced : List ℕ → List ℕ
spaced [] = []
spaced (n ∷ ns) = 32 ∷ (decimal n ++ spaced ns)

-- "`ok` segments dwells targets sheet length" or "`no` number segment field"
unfoldable pub answer_text : Answer → List ℕ
answer_text (Accepted segments dwells targets n) = 111 ∷ 107 ∷ spaced (segments ∷ dwells ∷ targets ∷ n ∷ [])
answer_text (Refused number segment field) = 110 ∷ 111 ∷ spaced (number ∷ segment ∷ field ∷ [])

-- with the end of its line
unfoldable pub answer_line : Answer → List ℕ
answer_line a = answer_text a ++ (10 ∷ [])

-- "each target's latitude and longitude on a line", of the body of a kind 4: "D32.1 to D32.18 (absent ones zero), latitude 4 signed,
-- longitude 4"
unfoldable pub target_line : List ℕ → List ℕ
target_line b =
    let at = total target_widths in
    signed_decimal (signed 4 (drop at b)) ++ spaced (be 4 (drop (at + 4) b) ∷ []) ++ (10 ∷ [])

-- a record's line: none but for a target
unfoldable pub record_line : Record → List ℕ
record_line r = cond (eqb r.kind 4) (target_line r.body) []

-- the lines of the targets among records, in their order
unfoldable pub target_lines : List Record → List ℕ
target_lines [] = []
target_lines (r ∷ rs) = record_line r ++ target_lines rs

-- all that is printed: the answer and, where it accepts, the targets of the sheet, which has the answer's length
unfoldable pub printed : Answer → List ℕ → List ℕ
printed (Accepted segments dwells targets n) lent = answer_line (Accepted segments dwells targets n) ++ target_lines (listed (take n lent)).records
printed (Refused number segment field) lent = answer_line (Refused number segment field)
