-- A segment's rows and records, by its type.
-- Assumes nothing.
use Prim.Native.Nat.{ℕ, ◌≤◌}
use native.Mathlib.Omega.{arith}
use mathlib.Core.Path.{◌≡◌, sym, ap, ◌∙◌}
use mathlib.Core.Bool.{false}
use mathlib.Core.List.{List}
use borrow.Author.Tests.{ne_eqb}
use lib.ListN.{length}
use lib.Seq.{sets}
use Rattle.format.specs.declared.Reading.{Reading}
use Rattle.format.specs.Check.{Passed}
use Rattle.format.specs.Edition.{is_hrr}
use Rattle.format.specs.Sheet.{opaque_records, segment_records, record_bytes}
use Rattle.format.specs.Rows.{first_row, body_rows}
use Rattle.format.proofs.Lengths.{records_of, length-segment}

module _ (r : Reading) (b : List ℕ) (kind : ℕ) where
  -- the bytes of its records, were it of type k
  abbrev pub bytes_as : ℕ → List ℕ
  bytes_as k = record_bytes (segment_records r (record { type = k; body = b }))

  -- its rows are those of its type
  pub rows_as : (k : ℕ) → kind ≡ k → first_row (body_rows r kind b) ≡ Passed → first_row (body_rows r k b) ≡ Passed
  rows_as k e h = sym (ap (λ (t : ℕ). first_row (body_rows r t b)) e) ∙ h

  -- so is the room that its records take
  pub room_as : (k n : ℕ) → kind ≡ k → length (bytes_as kind) ≤ n → records_of r k b ≤ n
  room_as k n e h = omega (arith, h, ap (λ (t : ℕ). length (bytes_as t)) e, length-segment r k b)

  -- and so are the records, stored
  pub laid_as : (k : ℕ) (o : List ℕ) {p : List ℕ} → kind ≡ k → p ≡ sets o 0 (bytes_as k) → p ≡ sets o 0 (bytes_as kind)
  laid_as k o e h = h ∙ sym (ap (λ (t : ℕ). sets o 0 (bytes_as t)) e)

  -- a type that is none of those that are read field by field
  module _ (h1 : kind ≡ 1 → ⊥) (h2 : kind ≡ 2 → ⊥) (h3 : is_hrr r kind ≡ false) (h5 : kind ≡ 5 → ⊥)
      (h6 : kind ≡ 6 → ⊥) (h10 : kind ≡ 10 → ⊥) (h13 : kind ≡ 13 → ⊥) where
    -- no row applies to its body
    pub opaque-passes : first_row (body_rows r kind b) ≡ Passed
    unfolding body_rows first_row
    opaque-passes = rw (ne_eqb kind 1 h1, ne_eqb kind 2 h2, h3, ne_eqb kind 5 h5, ne_eqb kind 6 h6, ne_eqb kind 10 h10, ne_eqb kind 13 h13)

    -- its records are those of an opaque one
    pub opaque-are : bytes_as kind ≡ record_bytes (opaque_records kind b)
    unfolding segment_records
    opaque-are = rw (ne_eqb kind 1 h1, ne_eqb kind 2 h2, h3, ne_eqb kind 5 h5, ne_eqb kind 6 h6, ne_eqb kind 10 h10, ne_eqb kind 13 h13)
