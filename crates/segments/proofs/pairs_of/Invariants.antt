-- `segments::pairs_of` meets its contract. The loop keeps that the pairs that are left, stored behind those that are, are all; whatever
-- reading the packet is checked by, since the code does not look at it.
-- Assumes nothing.
use Prim.Native.Nat.{◌-◌}
use lib.ListN.{length}
use Rattle.format.specs.declared.Reading.{Reading}
use Rattle.segments.specs.InnerWalk.{CheckedAll}
use Rattle.segments.proofs.Gathering.{Gathered}
use Rattle.segments.proofs.pairs_of.Given as goal

abbrev pub invariant-loop-at : goal.invariant-loop-at
invariant-loop-at l = (r : Reading) → CheckedAll r l.l → Gathered r l.l l.initial.o l.o l.at l.n

abbrev pub decreases-loop-at : goal.decreases-loop-at
decreases-loop-at l = length l.l - l.at
