-- `printing::record_line` meets its contract. A target has a line, every other record none.
-- Assumes nothing.
use native.Mathlib.Omega.{arith}
use borrow.Author.Tests.{ne_eqb}
use Rattle.printing.specs.Printing.{record_line}
use Rattle.printing.proofs.Lines.{put-none, put-within}
use Rattle.printing.proofs.record_line.Goals as goal

pub returns-then-kind-eq-KIND : goal.returns-then-kind-eq-KIND
unfolding record_line
returns-then-kind-eq-KIND c =
    rw c.if-kind-eq-KIND.true c.target_line.ensures

pub returns-else-kind-eq-KIND : goal.returns-else-kind-eq-KIND
unfolding record_line
returns-else-kind-eq-KIND c = rw (ne_eqb _ 4 c.if-kind-eq-KIND.false) (put-within (put-none _ _) (omega arith))

pub target_line-requires : goal.target_line-requires
target_line-requires c = rw c.if-kind-eq-KIND.true at c.requires
