-- `dwell_checks::is_always_latitude` meets its contract. The two ways of the test.
-- Assumes nothing.
use mathlib.Core.Path.{sym, ap, ◌∙◌}
use mathlib.Core.Bool.{Bool, ◌||◌}
use Rattle.position.specs.InnerAlways.{is_always_latitude}
use Rattle.dwell_checks.proofs.is_always_latitude.Goals as goal

pub returns-then-has : goal.returns-then-has
returns-then-has c =
    c.if-has.true
    ∙ sym (ap (λ (t : Bool). t || is_always_latitude c.args.area.d10.0 c.args.area.d24.0) (sym c.has.ensures ∙ c.if-has.true))

pub returns-else-has : goal.returns-else-has
returns-else-has c =
    c.is_always_latitude.ensures
    ∙ sym (ap (λ (t : Bool). t || is_always_latitude c.args.area.d10.0 c.args.area.d24.0) (sym c.has.ensures ∙ c.if-has.false))
