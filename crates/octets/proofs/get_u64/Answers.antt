-- `octets::get_u64` meets its contract. Four parts: one law, `joined-4`.
-- Assumes nothing.
use mathlib.Core.Path.{◌∙◌}
use Rattle.octets.proofs.Laws.{joined-4}
use Rattle.octets.proofs.get_u64.Goals as goal

pub returns : goal.returns
returns c =
    joined-4 c.args.s.now c.args.at (c.from.ensures ∙ c.get_u16.ensures) (c.from-2.ensures ∙ c.get_u16-2.ensures) (c.from-3.ensures ∙ c.get_u16-3.ensures) (c.from-4.ensures ∙ c.get_u16-4.ensures)
