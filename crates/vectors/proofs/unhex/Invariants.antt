-- `vectors::unhex` meets its contract. The loop keeps that the pairs left, stored behind those so far, give the whole.
-- Assumes nothing.
use mathlib.Core.Path.{◌≡◌}
use Prim.Native.Nat.{◌≤◌, ◌-◌, ◌/◌}
use lib.ListN.{length}
use Rattle.vectors.proofs.Spellings.{Spelt}
use Rattle.vectors.proofs.unhex.Given as goal

abbrev pub invariant-loop-i : goal.invariant-loop-i
invariant-loop-i l = (l.i ≤ l.n) × (l.n ≡ length l.s / 2) × Spelt l.s l.initial.o l.o l.n l.i

abbrev pub decreases-loop-i : goal.decreases-loop-i
decreases-loop-i l = l.n - l.i
