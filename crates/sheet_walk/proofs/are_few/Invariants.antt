-- `sheet_walk::are_few` meets its contract: the records passed so far are scatterers.
-- Assumes nothing.
use mathlib.Core.Path.{◌≡◌}
use mathlib.Core.Bool.{true}
use Prim.Native.Nat.{ℕ, ◌*◌, ◌≤◌, ◌<◌}
use lib.ListN.{length}
use Rattle.format.specs.Lengths.{record_length}
use Rattle.sheet_walk.specs.InnerShape.{is_begun_at}
use Rattle.sheet_walk.proofs.are_few.Given as goal

abbrev pub invariant-loop-i : goal.invariant-loop-i
invariant-loop-i l = (l.count * record_length 12 ≤ length l.x) × ((j : ℕ) → j < l.i → is_begun_at 12 l.x (j * record_length 12) ≡ true)
