-- `mask::in_version1` meets its contract. The test, on each field of the word.
-- Assumes nothing.
use borrow.Author.Tests.{eq-eqb, ne_eqb}
use Rattle.mask.proofs.Bit.{set-none}
use Rattle.mask.proofs.in_version1.Goals as goal

pub returns-then-version-eq1 : goal.returns-then-version-eq1
returns-then-version-eq1 c n = simp (eq-eqb c.args.version 1 c.if-version-eq1.true)

pub returns-else-version-eq1 : goal.returns-else-version-eq1
returns-else-version-eq1 c n = simp (set-none, ne_eqb c.args.version 1 c.if-version-eq1.false)
