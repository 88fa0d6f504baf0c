-- `readback::same_full_pieces` meets its contract. The loop keeps that the pieces that are left decide as all of them do.
-- Assumes nothing.
use Prim.Native.Nat.{◌*◌, ◌≤◌}
use mathlib.Core.Path.{◌≡◌}
use lib.ListN.{take}
use Rattle.format.specs.Sheet.{piece_records, record_bytes}
use Rattle.format.specs.Lengths.{record_length}
use Rattle.format.specs.Writer.{is_same}
use Rattle.readback.proofs.PiecesSame.{same_from}
use Rattle.readback.proofs.same_full_pieces.Given as goal

abbrev pub invariant-loop-i : goal.invariant-loop-i
invariant-loop-i l = (l.i ≤ l.count) × (same_from l.b l.x l.count l.i ≡ is_same (record_bytes (piece_records l.count l.b)) (take (l.count * record_length 6) l.x))
