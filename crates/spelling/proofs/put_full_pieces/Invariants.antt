-- `spelling::put_full_pieces` meets its contract. What is left of the pieces' bytes to store, stored where it belongs, gives all of them.
-- Assumes nothing.
use Prim.Native.Nat.{◌-◌, ◌*◌}
use mathlib.Core.Path.{◌≡◌}
use lib.ListN.{length, drop}
use lib.Seq.{sets}
use Rattle.format.specs.Lengths.{record_length}
use Rattle.spelling.specs.InnerSpelling.{carried_all}
use Rattle.spelling.proofs.put_full_pieces.Given as goal

abbrev pub invariant-loop-i : goal.invariant-loop-i
invariant-loop-i l =
    (length l.o ≡ length l.initial.o)
    × (sets l.o (l.i * 32) (carried_all (l.count - l.i) (drop (l.i * record_length 6) l.rest)) ≡ sets l.initial.o 0 (carried_all l.count l.rest))
