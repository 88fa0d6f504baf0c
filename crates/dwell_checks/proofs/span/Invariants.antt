-- `dwell_checks::span` meets its contract. The loop keeps that the sum is of the fields that it passed.
-- Assumes nothing.
use Prim.Native.Nat.{◌+◌, ◌-◌, ◌*◌, ◌≤◌}
use mathlib.Core.Path.{◌≡◌}
use mathlib.Core.List.{◌++◌}
use lib.ListN.{take, drop}
use Rattle.mask.specs.Fields.{announced_length, dwell_widths, target_widths}
use Rattle.dwell_checks.proofs.span.Given as goal

abbrev pub invariant-loop-n : goal.invariant-loop-n
invariant-loop-n l =
    (l.n-end ≡ l.last + 1) × (l.first ≤ l.n) × (l.n ≤ l.last + 1) × (l.at ≤ 255 * (l.n - l.first))
    × (l.at ≡ announced_length l.mask l.first (take (l.n - l.first) (drop (l.first - 2) (dwell_widths ++ target_widths))))

abbrev pub decreases-loop-n : goal.decreases-loop-n
decreases-loop-n l = l.last + 1 - l.n
