-- `readback::same_scatterers` meets its contract. The loop keeps that what is left of the scatterers decides as all of them do.
-- Assumes nothing.
use Prim.Native.Nat.{◌-◌, ◌*◌, ◌≤◌}
use mathlib.Core.Path.{◌≡◌}
use lib.ListN.{length, drop}
use Rattle.hrr.specs.InnerScatterers.{widths_of}
use Rattle.format.specs.Sheet.{scatterer_records, record_bytes}
use Rattle.format.specs.Lengths.{record_length}
use Rattle.format.specs.Writer.{is_same}
use Rattle.readback.proofs.same_scatterers.Given as goal

abbrev pub invariant-loop-done : goal.invariant-loop-done
invariant-loop-done l =
    (l.done ≤ l.s.count) × (length l.window ≡ length l.initial.window)
    × (is_same (record_bytes (scatterer_records (widths_of l.s) (l.s.count - l.done) (drop (l.done * l.each) l.t))) (drop (l.done * record_length 12) l.x) ≡ is_same (record_bytes (scatterer_records (widths_of l.s) l.s.count l.t)) l.x)

abbrev pub decreases-loop-done : goal.decreases-loop-done
decreases-loop-done l = l.s.count - l.done
