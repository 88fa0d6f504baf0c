-- `octets::get_u32` meets its contract. Two halves: one law, `joined`.
-- Assumes nothing.
use mathlib.Core.Path.{◌∙◌}
use Rattle.octets.proofs.Laws.{joined}
use Rattle.octets.proofs.get_u32.Goals as goal

pub returns : goal.returns
returns c = joined 2 2 c.args.s.now c.args.at (c.from.ensures ∙ c.get_u16.ensures) (c.from-2.ensures ∙ c.get_u16-2.ensures)
