-- `sheet_walk::is_rest` meets its contract. The loop keeps that row 17 lets the rest of the sheet pass if it does so with what is left of it.
-- Assumes nothing.
use mathlib.Core.Path.{◌≡◌}
use Prim.Native.Nat.{◌-◌}
use lib.ListN.{length, drop}
use Rattle.format.specs.Writer.{listed}
use Rattle.sheet_walk.specs.InnerShape.{is_rest}
use Rattle.sheet_walk.proofs.is_rest.Given as goal

abbrev pub invariant-loop-kind : goal.invariant-loop-kind
invariant-loop-kind l = is_rest (listed (drop l.start l.x)) ≡ is_rest (listed (drop l.at l.x))

abbrev pub decreases-loop-kind : goal.decreases-loop-kind
decreases-loop-kind l = length l.x - l.at
