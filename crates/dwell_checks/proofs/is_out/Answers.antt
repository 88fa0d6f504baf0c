-- `dwell_checks::is_out` meets its contract. Where no latitude can be out this one is not, and else it is looked at.
-- Assumes nothing.
use mathlib.Core.Path.{sym, ap, ◌∙◌}
use mathlib.Core.Bool.{not}
use Rattle.position.specs.Position.{is_latitude}
use Rattle.dwell_checks.proofs.Within.{always-inside}
use Rattle.dwell_checks.proofs.is_out.Goals as goal

pub returns-else-not-inside : goal.returns-else-not-inside
returns-else-not-inside c =
    ap not c.if-not-inside.false
    ∙ sym (ap not (always-inside c.args.mask c.args.area c.args.t.now (λ i. (c.type_inv.t i).fits) (sym c.requires.2 ∙ c.if-not-inside.false)))

pub returns-then-not-inside : goal.returns-then-not-inside
returns-then-not-inside c = ap not (c.is_latitude.ensures ∙ ap is_latitude c.latitude_of.ensures)
