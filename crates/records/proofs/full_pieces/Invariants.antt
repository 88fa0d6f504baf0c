-- `records::full_pieces` meets its contract. What is left of the pieces to store, stored where it belongs, gives all of them.
-- Assumes nothing.
use Prim.Native.Nat.{◌-◌, ◌*◌, ◌≤◌}
use mathlib.Core.Path.{◌≡◌}
use lib.ListN.{length, drop}
use lib.Seq.{sets}
use Rattle.format.specs.Sheet.{piece_records, record_bytes}
use Rattle.format.specs.Lengths.{record_length}
use Rattle.records.proofs.full_pieces.Given as goal

abbrev pub invariant-loop-i : goal.invariant-loop-i
invariant-loop-i l =
    (l.i ≤ l.count) × (length l.o ≡ length l.initial.o) × (sets l.o (l.i * record_length 6) (record_bytes (piece_records (l.count - l.i) (drop (l.i * 32) l.b))) ≡ sets l.initial.o 0 (record_bytes (piece_records l.count l.b)))
