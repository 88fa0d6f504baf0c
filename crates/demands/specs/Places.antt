-- The places of a sheet at which the two readings of a packet differ (demand 3), byte by byte.
-- Assumes nothing.
use Rattle.std.specs.Prelude.{ℕ, zero, suc, ◌+◌, ◌-◌, Bool, false, cond, ◌&&◌, ◌||◌, List, [], ◌∷◌, ltb, leb, eqb, length}
use Rattle.octets.specs.Layout.{width, offset}
use Rattle.format.specs.Sheet.{Record}
use Rattle.demands.specs.Filled.{dwell_body_widths, job_body_widths}

-- whether byte i of a body lies in its field n, by the table of the body's widths from field 1 on
unfoldable pub is_in_field : List ℕ → ℕ → ℕ → Bool
is_in_field ws n i = leb (offset 1 ws n) i && ltb i (offset 1 ws n + width 1 ws n)

-- whether it lies in one of two fields
abbrev pub is_in_either : List ℕ → ℕ → ℕ → ℕ → Bool
is_in_either ws n mark i = is_in_field ws n i || is_in_field ws mark i

-- whether byte i of a record's body is one of "those of fields D27 and J26 and their marks": D27 and its mark stand in a kind 3, J26
-- and its mark in a kind 8
unfoldable pub is_withheld_in : Record → ℕ → Bool
is_withheld_in r i = cond (eqb r.kind 3) (is_in_either dwell_body_widths 27 32 i) (cond (eqb r.kind 8) (is_in_either job_body_widths 26 29 i) false)

-- so for byte i of the records' bytes: each has its kind, then its body, then the next one
unfoldable pub is_withheld_at : List Record → ℕ → Bool
is_withheld_at [] i = false
is_withheld_at (r ∷ rs) zero = false
is_withheld_at (r ∷ rs) (suc i) = cond (ltb i (length r.body)) (is_withheld_in r i) (is_withheld_at rs (i - length r.body))
