-- `reader::packet_records` meets its contract. The loop keeps that what is left to lay out, laid out, gives the sheet.
-- Assumes nothing.
use Prim.Native.Nat.{ℕ, ◌+◌, ◌-◌, ◌≤◌}
use mathlib.Core.Path.{◌≡◌}
use mathlib.Core.List.{List}
use lib.ListN.{length}
use lib.Seq.{sets}
use Rattle.format.specs.declared.Reading.{Reading}
use Rattle.segments.specs.InnerWalk.{all_bytes}
use Rattle.segments.proofs.Turning.{Left, bytes_left}
use Rattle.reader.proofs.packet_records.Given as goal

-- what is left to lay out has room, and laid out it gives the sheet
pub record Filled (r : Reading) (l o₀ o : List ℕ) (at to : ℕ) : Type 0 where
  pub left : Left r l at
  pub same : length o ≡ length o₀
  pub room : to + length (bytes_left left) ≤ length o₀
  pub rest : sets o to (bytes_left left) ≡ sets o₀ 0 (all_bytes r l)

abbrev pub invariant-loop-at : goal.invariant-loop-at
invariant-loop-at l = Filled l.r l.l l.initial.o l.o l.at l.to

abbrev pub decreases-loop-at : goal.decreases-loop-at
decreases-loop-at l = length l.l - l.at
