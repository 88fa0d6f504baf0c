-- `gmti_editions::is_withheld_sheet` meets its contract. The loop keeps that what is left of the two sheets decides as the whole does.
-- Assumes nothing.
use Prim.Native.Nat.{◌-◌}
use lib.ListN.{length}
use Rattle.gmti_editions.proofs.Sheets.{Compared}
use Rattle.gmti_editions.proofs.is_withheld_sheet.Given as goal

abbrev pub invariant-loop-kind : goal.invariant-loop-kind
invariant-loop-kind l = Compared l.older l.newer l.at

abbrev pub decreases-loop-kind : goal.decreases-loop-kind
decreases-loop-kind l = length l.newer - l.at
