-- `dwell_checks::plan_by` meets its contract. Each number is the body's own.
-- Assumes nothing.
use Rattle.dwell_checks.proofs.Plans.{plan-is}
use Rattle.dwell_checks.proofs.plan_by.Goals as goal

pub returns : goal.returns
returns c = (plan-is c.args.b.now c.requires.0.0 c.requires.2 c.requires.3 c.requires.4 c.area-area.ensures.0, c.area-area.ensures.1)
