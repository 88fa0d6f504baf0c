-- `distinct::count_different` meets its contract. The loop keeps how many count so far, and that the rest decides the others.
-- Assumes nothing.
use Rattle.distinct.proofs.Turns.{counted-more, counted-end}
use Rattle.distinct.proofs.count_different.Goals as goal

pub loop-x-preserved : goal.loop-x-preserved
loop-x-preserved c = counted-more _ _ _ _ _ _ c.is_among.result c.loop-x.invariant c.in-Some.ensures.cases.0 c.is_among.ensures c.from-n.ensures

pub returns : goal.returns
returns c = counted-end _ _ _ c.in_default.ensures.cases c.loop-x.invariant
