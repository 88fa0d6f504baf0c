-- A segment's type as a match on it finds it: one of those that are read field by field, or none of them. What an arm shows for the type
-- that it stands for is said of the segment's own.
-- Assumes nothing.
use Prim.Native.Nat.{ℕ, ◌+◌, ◌*◌, ◌≤◌}
use native.Mathlib.Omega.{arith}
use mathlib.Core.Path.{◌≡◌, sym, ap, ◌∙◌}
use mathlib.Core.Bool.{false}
use mathlib.Core.List.{List}
use lib.ListN.{length}
use lib.Seq.{sets}
use Rattle.format.specs.declared.Reading.{Reading}
use Rattle.format.specs.Check.{Check, Passed}
use Rattle.format.specs.Edition.{is_hrr}
use Rattle.format.specs.Sheet.{piece_count, opaque_records, segment_records, record_bytes}
use Rattle.format.specs.Lengths.{record_length}
use Rattle.format.specs.Rows.{first_row, body_rows}
use Rattle.format.proofs.Lengths.{records_of, length-segment, length-opaque}
use Rattle.format.proofs.Types.{other-than-hrr}
use Rattle.format.proofs.ByType.{opaque-passes, opaque-are}
use Rattle.segments.specs.InnerWalk.{bytes_of}

-- none of them, as the last arm of a match knows it
abbrev pub Other : ℕ → Type 0
Other t = ((((((Unit {0} × (t ≡ 1 → ⊥)) × (t ≡ 2 → ⊥)) × (t ≡ 3 → ⊥)) × (t ≡ 5 → ⊥)) × (t ≡ 6 → ⊥)) × (t ≡ 10 → ⊥)) × (t ≡ 13 → ⊥)

module _ (r : Reading) (b : List ℕ) (t : ℕ) where
  -- the first row that applies to the body
  pub row_as : (k : ℕ) {c : Check} → t ≡ k → c ≡ first_row (body_rows r k b) → c ≡ first_row (body_rows r t b)
  row_as k e h = h ∙ sym (ap (λ (n : ℕ). first_row (body_rows r n b)) e)

  pub row_other : Other t → Passed ≡ first_row (body_rows r t b)
  row_other o =
      sym (opaque-passes r b t o.0.0.0.0.0.0.1 o.0.0.0.0.0.1 (other-than-hrr r t o.0.0.0.0.1) o.0.0.0.1 o.0.0.1 o.0.1 o.1)

  -- how many bytes its records have
  pub length-as : (k : ℕ) {n : ℕ} → t ≡ k → n ≡ records_of r k b → n ≡ length (bytes_of r t b)
  length-as k e h = h ∙ sym (length-segment r t b ∙ ap (λ (m : ℕ). records_of r m b) e)

  -- the records are those of an opaque segment: of another type, or of type 3 where it is not read field by field
  pub bytes-other : Other t → bytes_of r t b ≡ record_bytes (opaque_records t b)
  bytes-other o =
      opaque-are r b t o.0.0.0.0.0.0.1 o.0.0.0.0.0.1 (other-than-hrr r t o.0.0.0.0.1) o.0.0.0.1 o.0.0.1 o.0.1 o.1

  pub bytes-three : t ≡ 3 → is_hrr r 3 ≡ false → bytes_of r t b ≡ record_bytes (opaque_records t b)
  unfolding segment_records
  bytes-three e h = rw (e, h)

  module _ (h : bytes_of r t b ≡ record_bytes (opaque_records t b)) where
    -- how many bytes these have
    length_is : length (bytes_of r t b) ≡ record_length 7 + piece_count (length b) * record_length 6
    length_is = ap length h ∙ length-opaque t b

    pub length-as-opaque : {n : ℕ} → n ≡ record_length 7 + piece_count (length b) * record_length 6 → n ≡ length (bytes_of r t b)
    length-as-opaque e = e ∙ sym length_is

    -- the room that they take, and where they are stored
    pub room-as-opaque : (m : ℕ) → length (bytes_of r t b) ≤ m → record_length 7 + piece_count (length b) * record_length 6 ≤ m
    room-as-opaque m e = omega (arith, e, length_is)

    pub laid-as-opaque : (o : List ℕ) {p : List ℕ} → p ≡ sets o 0 (record_bytes (opaque_records t b)) → p ≡ sets o 0 (bytes_of r t b)
    laid-as-opaque o e = e ∙ sym (ap (sets o 0) h)
