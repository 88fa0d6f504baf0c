-- `hrr_checks::are_widths` meets its contract. The two tests of row 22: at most 2 is not above 2.
-- Assumes nothing.
use mathlib.Core.Path.{◌≡◌, refl, sym, ◌∙◌}
use mathlib.Core.Bool.{Bool, true, false, not}
use Prim.Native.Nat.{ℕ}
use borrow.Author.Tests.{ltb-true, ltb-false, le-leb, lt-leb}
use lib.Dec.{ltb, leb}
use Rattle.hrr_checks.proofs.are_widths.Goals as goal

-- not above is at most
at_most : (m n : ℕ) → leb n m ≡ not (ltb m n)
at_most m n = go (ltb m n) refl
  where
    go : (b : Bool) → ltb m n ≡ b → leb n m ≡ not b
    go true e = lt-leb n m (ltb-true m n e)
    go false e = le-leb n m (ltb-false m n e)

pub returns-then-is_between : goal.returns-then-is_between
returns-then-is_between c = rw (sym c.is_between.ensures ∙ c.if-is_between.true) (at_most 2 c.args.h26)

pub returns-else-is_between : goal.returns-else-is_between
returns-else-is_between c = rw (sym c.is_between.ensures ∙ c.if-is_between.false) c.if-is_between.false
