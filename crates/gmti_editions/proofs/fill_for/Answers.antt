-- `gmti_editions::fill_for` meets its contract. The two ways of the test.
-- Assumes nothing.
use mathlib.Core.Path.{sym, ◌∙◌}
use Rattle.gmti_editions.specs.Verdict.{filled_for}
use Rattle.gmti_editions.proofs.fill_for.Goals as goal

pub returns-then-is_version_3 : goal.returns-then-is_version_3
unfolding filled_for
returns-then-is_version_3 c =
    rw (sym c.is_version_3.ensures ∙ c.if-is_version_3.true) c.fill_in.ensures

pub returns-else-is_version_3 : goal.returns-else-is_version_3
unfolding filled_for
returns-else-is_version_3 c = rw (sym c.is_version_3.ensures ∙ c.if-is_version_3.false)
