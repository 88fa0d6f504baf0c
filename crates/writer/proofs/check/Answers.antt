-- `writer::check` meets its contract. The answer's equation gives that of the outcome, which leaves nothing.
-- Assumes nothing.
use mathlib.Core.Path.{ap}
use mathlib.Core.List.{[]}
use Rattle.format.specs.Answer.{Answer, outcome}
use Rattle.format.specs.Writer.{check}
use Rattle.writer.proofs.check.Goals as goal

pub returns : goal.returns
unfolding check
returns c = ap (λ (a : Answer). outcome a []) c.write_where_room.ensures.0
