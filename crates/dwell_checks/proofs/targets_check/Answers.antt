-- `dwell_checks::targets_check` meets its contract. Where the mask and the area decide, no row of any target applies.
-- Assumes nothing.
use mathlib.Core.Path.{sym, ◌∙◌}
use Rattle.dwell_checks.proofs.Within.{targets-within}
use Rattle.dwell_checks.proofs.targets_check.Goals as goal

pub returns-then-p-eq0 : goal.returns-then-p-eq0
returns-then-p-eq0 c =
    let a = c.args in
    sym (targets-within a.p.mask a.p.area (sym c.is_always_latitude-inside.ensures ∙ c.if-inside.true) (c.if-p-eq0.true) a.p.count a.t.now (λ i. (c.type_inv.t i).fits))
