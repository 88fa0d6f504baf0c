-- What is left of s to store, stored where it belongs, gives the whole copy.
-- Assumes nothing.
use Prim.Native.Nat.{◌+◌, ◌≤◌}
use mathlib.Core.Path.{◌≡◌}
use lib.ListN.{length, drop}
use lib.Seq.{sets}
use Rattle.copies.proofs.copy_each.Given as goal

abbrev pub invariant-loop-i : goal.invariant-loop-i
invariant-loop-i l = (l.i-end ≡ length l.s) × (l.i ≤ length l.s) × (length l.o ≡ length l.initial.o) × (sets l.o (l.q + l.i) (drop l.i l.s) ≡ sets l.initial.o l.q l.s)
