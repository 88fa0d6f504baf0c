-- `readback::same` meets its contract: 0 where the bytes passed so far are equal.
-- Assumes nothing.
use Prim.Native.Nat.{◌≤◌}
use mathlib.Core.Path.{◌≡◌}
use mathlib.Core.Bool.{cond}
use lib.ListN.{length, take}
use Rattle.format.specs.Writer.{is_same}
use Rattle.readback.proofs.same.Given as goal

abbrev pub invariant-loop-i : goal.invariant-loop-i
invariant-loop-i l = (l.i-end ≡ length l.a) × (length l.a ≡ length l.b) × (l.i ≤ length l.a) × (l.seen ≡ cond (is_same (take l.i l.a) (take l.i l.b)) 0 1)
