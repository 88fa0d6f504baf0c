-- `filling::fill_in` meets its contract. The loop keeps that what is behind the two places, filled in, gives the whole.
-- Assumes nothing.
use Prim.Native.Nat.{◌-◌}
use lib.ListN.{length}
use Rattle.filling.proofs.Walk.{Filled}
use Rattle.filling.proofs.fill_in.Given as goal

abbrev pub invariant-loop-kind : goal.invariant-loop-kind
invariant-loop-kind l = Filled l.initial.older l.newer l.older l.at l.from

abbrev pub decreases-loop-kind : goal.decreases-loop-kind
decreases-loop-kind l = length l.newer - l.from
