-- `readback::same_targets` meets its contract. The loop keeps that what is left of the targets decides as all of them do.
-- Assumes nothing.
use Prim.Native.Nat.{◌-◌, ◌*◌, ◌≤◌}
use mathlib.Core.Path.{◌≡◌}
use lib.ListN.{length, drop}
use Rattle.format.specs.Check.{Passed}
use Rattle.format.specs.Sheet.{target_records, record_bytes}
use Rattle.format.specs.Lengths.{record_length}
use Rattle.format.specs.Rows.{first_row, targets_rows}
use Rattle.format.specs.Writer.{is_same}
use Rattle.readback.proofs.same_targets.Given as goal

abbrev pub invariant-loop-done : goal.invariant-loop-done
invariant-loop-done l =
    (l.done ≤ l.p.count) × (length l.window ≡ length l.initial.window)
    × (first_row (targets_rows l.p.mask l.p.area (l.p.count - l.done) (drop (l.done * l.p.each) l.t)) ≡ Passed)
    × (is_same (record_bytes (target_records l.p.mask l.p.area (l.p.count - l.done) (drop (l.done * l.p.each) l.t))) (drop (l.done * record_length 4) l.x) ≡ is_same (record_bytes (target_records l.p.mask l.p.area l.p.count l.t)) l.x)

abbrev pub decreases-loop-done : goal.decreases-loop-done
decreases-loop-done l = l.p.count - l.done
