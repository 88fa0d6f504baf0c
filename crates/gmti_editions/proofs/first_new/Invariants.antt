-- `gmti_editions::first_new` meets its contract. The loop keeps that the first new thing of the segments that are left is that of the packet.
-- Assumes nothing.
use Prim.Native.Nat.{◌-◌}
use lib.ListN.{length}
use Rattle.format.specs.Edition.{as_edition}
use Rattle.gmti_editions.proofs.Seeking.{Sought}
use Rattle.gmti_editions.proofs.first_new.Given as goal

abbrev pub invariant-loop-at : goal.invariant-loop-at
invariant-loop-at l = Sought (as_edition 3) l.packet l.at l.segment

abbrev pub decreases-loop-at : goal.decreases-loop-at
decreases-loop-at l = length l.packet - l.at
