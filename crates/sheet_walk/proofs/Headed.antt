-- Row 17 one record at a time: whole records to the end of a sheet, of which the first alone is a header.
-- Assumes nothing.
use mathlib.Core.Path.{◌≡◌, ap, ◌∙◌}
use mathlib.Core.Bool.{false, and-false}
use Prim.Native.Nat.{ℕ}
use mathlib.Core.List.{List}
use borrow.Author.Tests.{ne_eqb}
use lib.ListN.{drop}
use Rattle.format.specs.Writer.{listed, no_header, is_headed}
use Rattle.sheet_walk.specs.InnerShape.{is_sheet, is_rest}
use Rattle.sheet_walk.proofs.Places.{WholeAt}

-- where a whole record is
module _ (x : List ℕ) (at kind end : ℕ) (w : WholeAt x at kind end) where
  -- the first is a header, or the sheet is none
  pub header-first : kind ≡ 1 → is_sheet (listed (drop at x)) ≡ is_rest (listed (drop end x))
  unfolding is_headed
  header-first e = ap is_sheet w.listed-is ∙ rw e

  pub other-first : (kind ≡ 1 → ⊥) → is_sheet (listed (drop at x)) ≡ false
  unfolding is_headed
  other-first n = ap is_sheet w.listed-is ∙ rw (ne_eqb kind 1 n, and-false)

  -- none behind it is
  pub header-again : kind ≡ 1 → is_rest (listed (drop at x)) ≡ false
  unfolding no_header
  header-again e = ap is_rest w.listed-is ∙ rw (e, and-false)

  pub rest_more : (kind ≡ 1 → ⊥) → is_rest (listed (drop at x)) ≡ is_rest (listed (drop end x))
  unfolding no_header
  rest_more n = ap is_rest w.listed-is ∙ rw (ne_eqb kind 1 n)
