-- The records behind the first of a segment, as the code hands them on.
-- Assumes nothing.
use Prim.Native.Nat.{ℕ, ◌+◌, ◌-◌}
use native.Mathlib.Omega.{arith}
use mathlib.Core.Path.{◌≡◌, ap, ◌∙◌}
use mathlib.Core.List.{List, [], ◌∷◌}
use lib.ListN.{length, take, drop, length-drop}
use Rattle.octets.proofs.Parts.{tail-is}
use Rattle.format.specs.declared.Reading.{Reading}
use Rattle.format.specs.Sheet.{body_length, dwell_record, hrr_record, record_bytes}
use Rattle.format.specs.Lengths.{record_length}
use Rattle.format.proofs.Lengths.{length-one}

-- the record of a dwell
pub dwell-length : (r : Reading) (b : List ℕ) → length (record_bytes (dwell_record r b ∷ [])) ≡ record_length 3
unfolding dwell_record body_length
dwell-length r b = length-one 3 _

-- the record of an HRR segment
pub hrr-length : (b : List ℕ) → length (record_bytes (hrr_record b ∷ [])) ≡ record_length 11
unfolding hrr_record body_length
hrr-length b = length-one 11 _

-- what is left of x behind n bytes
pub left-length : (n m : ℕ) (x : List ℕ) → length x ≡ n + m → length (take (length x - n) (drop n x)) ≡ m
left-length n m x h = ap length (tail-is n x) ∙ length-drop n x ∙ omega arith
