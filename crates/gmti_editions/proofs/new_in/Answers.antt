-- `gmti_editions::new_in` meets its contract. The two ways of the test.
-- Assumes nothing.
use mathlib.Core.Path.{sym, ◌∙◌}
use Rattle.gmti_editions.specs.Verdict.{new_in}
use Rattle.gmti_editions.proofs.new_in.Goals as goal

pub returns-then-is_version_3 : goal.returns-then-is_version_3
unfolding new_in
returns-then-is_version_3 c = rw (sym c.is_version_3.ensures ∙ c.if-is_version_3.true) c.first_new.ensures

pub returns-else-is_version_3 : goal.returns-else-is_version_3
unfolding new_in
returns-else-is_version_3 c = rw (sym c.is_version_3.ensures ∙ c.if-is_version_3.false)
