-- `sheet_walk::are_full_pieces` meets its contract: whether the records passed so far are full pieces.
-- Assumes nothing.
use Prim.Native.Nat.{◌*◌, ◌≤◌}
use lib.ListN.{length}
use Rattle.format.specs.Lengths.{record_length}
use Rattle.sheet_walk.specs.InnerShape.{Tells}
use Rattle.sheet_walk.proofs.are_full_pieces.Given as goal

abbrev pub invariant-loop-i : goal.invariant-loop-i
invariant-loop-i l = (l.count * record_length 6 ≤ length l.x) × Tells l.all 6 l.i l.x
