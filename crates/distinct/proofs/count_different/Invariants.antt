-- `distinct::count_different` meets its contract. The loop keeps how many count so far, and that the rest decides the others.
-- Assumes nothing.
use Rattle.std.proofs.Common.{length}
use Rattle.distinct.proofs.Turns.{Counted}
use Rattle.distinct.proofs.count_different.Given as goal

abbrev pub invariant-loop-x : goal.invariant-loop-x
invariant-loop-x l = Counted l.fn.s l.n l.rest

abbrev pub decreases-loop-x : goal.decreases-loop-x
decreases-loop-x l = length l.rest
