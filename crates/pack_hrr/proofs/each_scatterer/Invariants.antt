-- `pack_hrr::each_scatterer` meets its contract. What is left of the scatterers to store, stored where it belongs, gives all of them.
-- Assumes nothing.
use mathlib.Core.Path.{◌≡◌}
use Prim.Native.Nat.{◌-◌, ◌*◌, ◌≤◌}
use lib.ListN.{length, drop}
use lib.Seq.{sets}
use Rattle.hrr.specs.InnerScatterers.{digits}
use Rattle.format.specs.Lengths.{record_length}
use Rattle.pack_hrr.specs.InnerNarrowed.{narrowed_all}
use Rattle.pack_hrr.proofs.each_scatterer.Given as goal

abbrev pub invariant-loop-i : goal.invariant-loop-i
invariant-loop-i l =
    (l.i ≤ l.count) × (l.at ≡ l.i * record_length 12) × (l.q ≡ l.i * l.each) × (length l.o ≡ length l.initial.o)
    × (sets l.o l.q (narrowed_all (digits l.n) (l.count - l.i) (drop l.at l.x)) ≡ sets l.initial.o 0 (narrowed_all (digits l.n) l.count l.x))

abbrev pub decreases-loop-i : goal.decreases-loop-i
decreases-loop-i l = l.count - l.i
