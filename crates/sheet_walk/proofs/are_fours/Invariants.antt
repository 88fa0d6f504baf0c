-- `sheet_walk::are_fours` meets its contract: x begins with as many scatterers as were passed.
-- Assumes nothing.
use Prim.Native.Nat.{◌*◌}
use Rattle.sheet_walk.specs.InnerShape.{BeginsWith}
use Rattle.sheet_walk.proofs.are_fours.Given as goal

abbrev pub invariant-loop-i : goal.invariant-loop-i
invariant-loop-i l = BeginsWith 12 (l.i * 4) l.x
