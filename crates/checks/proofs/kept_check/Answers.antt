-- `checks::kept_check` meets its contract. The test of the length, which the size S2 exceeds by 5.
-- Assumes nothing.
use mathlib.Core.Path.{◌∙◌}
use Prim.Native.Nat.{◌+◌}
use native.Mathlib.Omega.{arith}
use borrow.Author.Tests.{eq-eqb, ne_eqb}
use Rattle.format.specs.Packet.{s2}
use Rattle.format.specs.Rows.{first_row, kept_rows}
use Rattle.checks.proofs.kept_check.Goals as goal

pub returns-then-b-n : goal.returns-then-b-n
unfolding first_row kept_rows
returns-then-b-n c =
    c.row.ensures
    ∙ rw (ne_eqb (s2 c.args.b.now) (5 + c.args.n) (λ e. c.if-b-n.true (omega arith)))

pub returns : goal.returns
unfolding first_row kept_rows
returns c = rw (eq-eqb (s2 c.args.b.now) (5 + c.args.n) (omega arith))
