-- `gmti_editions::is_older_sheet` meets its contract. The two ways of the test.
-- Assumes nothing.
use mathlib.Core.Path.{sym, ◌∙◌}
use Rattle.gmti_editions.specs.Verdict.{is_older_sheet}
use Rattle.gmti_editions.proofs.is_older_sheet.Goals as goal

pub returns-then-is_version_3 : goal.returns-then-is_version_3
unfolding is_older_sheet
returns-then-is_version_3 c = rw (sym c.is_version_3.ensures ∙ c.if-is_version_3.true) c.is_withheld_sheet.ensures

pub returns-else-is_version_3 : goal.returns-else-is_version_3
unfolding is_older_sheet
returns-else-is_version_3 c = rw (sym c.is_version_3.ensures ∙ c.if-is_version_3.false) c.same.ensures
