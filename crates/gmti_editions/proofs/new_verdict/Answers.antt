-- `gmti_editions::new_verdict` meets its contract. The two ways of the test.
-- Assumes nothing.
use mathlib.Core.Path.{sym}
use mathlib.Core.Bool.{true, false}
use Rattle.std.proofs.Common.{arith}
use Rattle.gmti_editions.proofs.Cases.{new_said}
use Rattle.gmti_editions.proofs.new_verdict.Goals as goal

pub returns-then-eq : goal.returns-then-eq
returns-then-eq c = let x = c.args in sym (new_said x.first.segment x.first.field x.a true (grind arith))

pub returns-else-eq : goal.returns-else-eq
returns-else-eq c = let x = c.args in sym (new_said x.first.segment x.first.field x.a false (grind arith))
