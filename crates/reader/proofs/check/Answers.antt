-- `reader::check` meets its contract. The answer's equation gives that of the outcome, which leaves nothing.
-- Assumes nothing.
use mathlib.Core.Path.{ap}
use mathlib.Core.List.{[]}
use Rattle.format.specs.Answer.{Answer, outcome}
use Rattle.format.specs.Reader.{check}
use Rattle.reader.proofs.check.Goals as goal

pub returns : goal.returns
unfolding check
returns c = ap (λ (a : Answer). outcome a []) c.check_with.ensures
