-- The four things that are new in Edition 3 (document 01, 'Edition 1 reading of a version 3 packet').
-- Assumes nothing.
use Rattle.std.specs.Prelude.{ℕ, suc, ◌&&◌, cond, List, [], ◌∷◌, eqb, Option, None, Some}
use Rattle.mask.specs.Mask.{new_in_mask}
use Rattle.format.specs.Check.{Passed, Failed}
use Rattle.format.specs.declared.NewThing.{NewThing}
use Rattle.format.specs.Packet.{Segment, J}
use Rattle.format.specs.Dwell.{mask_of}
use Rattle.format.specs.Edition.{is_new_mode}
use Rattle.format.specs.Rows.{Row, row, naming, first_row}

-- nothing, or what is found first: the number of its segment, and its field
pub data New : Type 0 where
  Nothing : New
  Found : ℕ → ℕ → New

-- that of a search by the code: each of its values is one of these, and no two are the same
abbrev pub new_of : Option NewThing → New
new_of None = Nothing
new_of (Some t) = Found t.segment t.field

-- "Four things are new in Edition 3, told by the packet's bytes alone, with the field named: a type 3 segment (0); a mask with some
-- but not all of D28-30 (the lowest-numbered unset); D32.18 set (49); a job definition with J14 among .. (14)"
unfoldable pub new_rows : Segment → List Row
new_rows s =
    row 15 0 (eqb s.type 3)
    ∷ naming 15 (cond (eqb s.type 2) (new_in_mask (mask_of s.body)) 0)
    ∷ row 15 14 (eqb s.type 5 && is_new_mode (J 14 s.body))
    ∷ []

-- demand 3: "names the first segment that holds any, and the field that document 01 gives for it". The segments are numbered from n on
unfoldable pub first_new : ℕ → List Segment → New
first_new n [] = Nothing
first_new n (s ∷ ss) = elim (first_row (new_rows s)) [ Passed ↦ first_new (suc n) ss | Failed number field ↦ Found n field ]
