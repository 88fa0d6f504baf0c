-- `vectors::put_hex` meets its contract. The loop keeps that the digits left, stored from p on, give the whole.
-- Assumes nothing.
use Prim.Native.Nat.{◌+◌, ◌*◌}
use mathlib.Core.Path.{◌≡◌}
use lib.ListN.{length, drop}
use lib.Seq.{sets}
use Rattle.vectors.specs.Vectors.{hexed}
use Rattle.vectors.proofs.put_hex.Given as goal

abbrev pub invariant-loop-x : goal.invariant-loop-x
invariant-loop-x l = (l.p ≡ l.at + 2 * l.x-index) × (length l.o ≡ length l.initial.o) × (sets l.o l.p (hexed (drop l.x-index l.s)) ≡ sets l.initial.o l.at (hexed l.s))
