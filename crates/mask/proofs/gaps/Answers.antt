-- `mask::gaps` meets its contract. The two ways of the test, on each field of the word.
-- Assumes nothing.
use mathlib.Core.Bool.{and-true, and-false}
use borrow.Author.Tests.{eq-eqb, ne_eqb}
use Rattle.mask.proofs.Bit.{set-none}
use Rattle.mask.proofs.gaps.Goals as goal

pub returns-then-mask-set-eq0 : goal.returns-then-mask-set-eq0
returns-then-mask-set-eq0 c n = simp (set-none, eq-eqb _ _ c.if-mask-set-eq0.true, and-false)

pub returns-else-mask-set-eq0 : goal.returns-else-mask-set-eq0
returns-else-mask-set-eq0 c n = simp (ne_eqb _ _ c.if-mask-set-eq0.false, and-true) (c.missing.ensures n)
