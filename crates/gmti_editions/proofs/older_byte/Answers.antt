-- `gmti_editions::older_byte` meets its contract. The two ways of the test.
-- Assumes nothing.
use mathlib.Core.Path.{sym, ◌∙◌}
use Rattle.gmti_editions.proofs.older_byte.Goals as goal

pub returns-then-is_withheld_in : goal.returns-then-is_withheld_in
returns-then-is_withheld_in c b = rw (sym (c.is_withheld_in.ensures b) ∙ c.if-is_withheld_in.true)

pub returns-else-is_withheld_in : goal.returns-else-is_withheld_in
returns-else-is_withheld_in c b = rw (sym (c.is_withheld_in.ensures b) ∙ c.if-is_withheld_in.false)
