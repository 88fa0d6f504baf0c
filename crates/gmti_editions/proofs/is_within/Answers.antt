-- `gmti_editions::is_within` meets its contract. The two tests, in their order.
-- Assumes nothing.
use borrow.Author.Tests.{le-leb, lt-leb}
use Rattle.gmti_editions.proofs.is_within.Goals as goal

pub returns-then-from-i : goal.returns-then-from-i
returns-then-from-i c = let a = c.args in rw (le-leb a.from a.i c.if-from-i.true)

pub returns-else-from-i : goal.returns-else-from-i
returns-else-from-i c = let a = c.args in rw (lt-leb a.from a.i c.if-from-i.false)
