-- `readback::same_records` meets its contract. The loop keeps that the records of the segments that are left decide as all of them do.
-- Assumes nothing.
use Prim.Native.Nat.{ℕ, ◌+◌, ◌-◌}
use mathlib.Core.Path.{◌≡◌}
use mathlib.Core.List.{List}
use lib.ListN.{length, drop}
use Rattle.format.specs.declared.Reading.{Reading}
use Rattle.format.specs.Writer.{is_same}
use Rattle.segments.specs.InnerWalk.{all_bytes}
use Rattle.segments.proofs.Turning.{Left, bytes_left}
use Rattle.readback.proofs.same_records.Given as goal

-- what is left takes the rest of x, and decides as the whole does
pub record Compared (r : Reading) (l x window₀ window : List ℕ) (at from : ℕ) : Type 0 where
  pub left : Left r l at
  pub same : length window ≡ length window₀
  pub whole : from + length (bytes_left left) ≡ length x
  pub rest : is_same (bytes_left left) (drop from x) ≡ is_same (all_bytes r l) x

abbrev pub invariant-loop-at : goal.invariant-loop-at
invariant-loop-at l = Compared l.r l.l l.x l.initial.window l.window l.at l.from

abbrev pub decreases-loop-at : goal.decreases-loop-at
decreases-loop-at l = length l.l - l.at
