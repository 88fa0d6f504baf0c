-- `checks::naming_row` meets its contract. The test of the field.
-- Assumes nothing.
use mathlib.Core.Path.{◌∙◌}
use borrow.Author.Tests.{eq-eqb, ne_eqb}
use Rattle.format.specs.Rows.{first_row}
use Rattle.checks.proofs.naming_row.Goals as goal

pub returns-then-field-eq0 : goal.returns-then-field-eq0
unfolding first_row
returns-then-field-eq0 c = rw (eq-eqb c.args.field 0 c.if-field-eq0.true)

pub returns-else-field-eq0 : goal.returns-else-field-eq0
unfolding first_row
returns-else-field-eq0 c =
    c.naming.ensures
    ∙ rw (ne_eqb c.args.field 0 c.if-field-eq0.false)
