-- `segments::check` meets its contract. The loop keeps that the walk from here on, with the counts so far, comes to the answer of the whole.
-- Assumes nothing.
use Prim.Native.Nat.{ℕ, ◌+◌, ◌-◌, ◌*◌, ◌≤◌}
use mathlib.Core.List.{List}
use lib.ListN.{length}
use Rattle.format.specs.declared.Reading.{Reading}
use Rattle.format.specs.Lengths.{record_length}
use Rattle.segments.specs.declared.Dwells.{Dwells}
use Rattle.segments.specs.InnerWalk.{AtMost}
use Rattle.segments.proofs.Walking.{most, Walked}
use Rattle.segments.proofs.check.Given as goal

-- what the walk keeps, and that no sum is too large
pub record Counted (r : Reading) (l : List ℕ) (at segments : ℕ) (dwells : Dwells) (targets n : ℕ) : Type 0 where
  pub walked : Walked r l at segments dwells targets n
  pub segments-le : segments ≤ at
  pub dwells-le : AtMost segments dwells
  pub targets-le : targets ≤ 65535 * at
  pub length-le : n ≤ record_length 1 + most * at

abbrev pub invariant-loop-at : goal.invariant-loop-at
invariant-loop-at l = Counted l.r l.l l.at l.segments l.dwells l.targets l.length

abbrev pub decreases-loop-at : goal.decreases-loop-at
decreases-loop-at l = length l.l - l.at
