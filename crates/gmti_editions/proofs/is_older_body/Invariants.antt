-- `gmti_editions::is_older_body` meets its contract. The loop keeps that the bytes that are left decide as all of them do.
-- Assumes nothing.
use Prim.Native.Nat.{ℕ, ◌≤◌}
use mathlib.Core.Path.{◌≡◌}
use mathlib.Core.Bool.{Bool}
use mathlib.Core.List.{List}
use lib.ListN.{length, drop}
use Rattle.demands.specs.Places.{is_withheld_in}
use Rattle.format.specs.Writer.{is_same}
use Rattle.gmti_editions.specs.Verdict.{zero_where}
use Rattle.gmti_editions.proofs.is_older_body.Given as goal

-- the places that are withheld
abbrev pub places : ℕ → List ℕ → ℕ → Bool
places kind newer = is_withheld_in (record { kind = kind; body = newer })

abbrev pub invariant-loop-i : goal.invariant-loop-i
invariant-loop-i l =
    (l.i-end ≡ length l.newer) × (l.i ≤ length l.newer)
    × (is_same (drop l.i (zero_where (places l.kind l.newer) l.newer)) (drop l.i l.older) ≡ is_same (zero_where (places l.kind l.newer) l.newer) l.older)
