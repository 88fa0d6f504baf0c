-- `printing::target_lines` meets its contract. The loop keeps that the lines of the records left, laid out from p on, give the whole.
-- Assumes nothing.
use Prim.Native.Nat.{◌-◌}
use lib.ListN.{length}
use Rattle.printing.proofs.Records.{Walked}
use Rattle.printing.proofs.target_lines.Given as goal

abbrev pub invariant-loop-kind : goal.invariant-loop-kind
invariant-loop-kind l = Walked l.x l.initial.o l.o l.start l.p l.at

abbrev pub decreases-loop-kind : goal.decreases-loop-kind
decreases-loop-kind l = length l.x - l.at
