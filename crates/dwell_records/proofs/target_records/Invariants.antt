-- `dwell_records::target_records` meets its contract. What is left of the targets to store, stored where it belongs, gives all of them.
-- Assumes nothing.
use Prim.Native.Nat.{◌-◌, ◌*◌, ◌≤◌}
use mathlib.Core.Path.{◌≡◌}
use lib.ListN.{length, drop}
use lib.Seq.{sets}
use Rattle.format.specs.Check.{Passed}
use Rattle.format.specs.Sheet.{target_records, record_bytes}
use Rattle.format.specs.Lengths.{record_length}
use Rattle.format.specs.Rows.{first_row, targets_rows}
use Rattle.dwell_records.proofs.target_records.Given as goal

abbrev pub invariant-loop-i : goal.invariant-loop-i
invariant-loop-i l =
    (l.i ≤ l.count) × (l.at ≡ l.i * l.p.each) × (l.q ≡ l.i * record_length 4) × (length l.o ≡ length l.initial.o)
    × (first_row (targets_rows l.p.mask l.p.area (l.count - l.i) (drop l.at l.t)) ≡ Passed)
    × (sets l.o l.q (record_bytes (target_records l.p.mask l.p.area (l.count - l.i) (drop l.at l.t))) ≡ sets l.initial.o 0 (record_bytes (target_records l.p.mask l.p.area l.count l.t)))
