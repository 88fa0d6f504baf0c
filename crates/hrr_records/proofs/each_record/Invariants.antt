-- `hrr_records::each_record` meets its contract. What is left of the scatterers to store, stored where it belongs, gives all of them.
-- Assumes nothing.
use mathlib.Core.Path.{◌≡◌}
use Prim.Native.Nat.{◌-◌, ◌*◌, ◌≤◌}
use lib.ListN.{length, drop}
use lib.Seq.{sets}
use Rattle.hrr.specs.InnerScatterers.{digits}
use Rattle.format.specs.Sheet.{scatterer_records, record_bytes}
use Rattle.format.specs.Lengths.{record_length}
use Rattle.hrr_records.proofs.each_record.Given as goal

abbrev pub invariant-loop-i : goal.invariant-loop-i
invariant-loop-i l =
    (l.i ≤ l.count) × (l.at ≡ l.i * l.each) × (l.q ≡ l.i * record_length 12) × (length l.o ≡ length l.initial.o)
    × (sets l.o l.q (record_bytes (scatterer_records (digits l.n) (l.count - l.i) (drop l.at l.t))) ≡ sets l.initial.o 0 (record_bytes (scatterer_records (digits l.n) l.count l.t)))
