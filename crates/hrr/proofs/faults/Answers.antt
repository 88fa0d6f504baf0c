-- `hrr::faults` meets its contract. What the mask leaves out of one word, and what it has of the other.
-- Assumes nothing.
use mathlib.Core.Path.{ap₂, ◌∙◌}
use mathlib.Core.Bool.{◌||◌}
use Rattle.mask.proofs.Bit.{set-or}
use Rattle.hrr.proofs.faults.Goals as goal

pub returns : goal.returns
returns c n = set-or c.missing.result c.common.result n ∙ ap₂ ◌||◌ (c.missing.ensures n) (c.common.ensures n)
