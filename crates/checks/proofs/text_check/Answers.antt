-- `checks::text_check` meets its contract. The rows of a free text's body, in their order.
-- Assumes nothing.
use mathlib.Core.Path.{◌∙◌}
use native.Mathlib.Omega.{arith}
use borrow.Author.Tests.{lt-ltb, le-ltb}
use Rattle.format.specs.Packet.{s2}
use Rattle.format.specs.Rows.{first_row, text_rows}
use Rattle.checks.proofs.text_check.Goals as goal

pub returns-then-b-lt20 : goal.returns-then-b-lt20
unfolding first_row text_rows
returns-then-b-lt20 c =
    c.row.ensures
    ∙ rw (lt-ltb (s2 c.args.b.now) 25 (omega arith))

pub returns : goal.returns
unfolding first_row text_rows
returns c = rw (le-ltb (s2 c.args.b.now) 25 (omega arith)) c.free_text.ensures
