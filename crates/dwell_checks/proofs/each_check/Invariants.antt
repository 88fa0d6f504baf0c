-- `dwell_checks::each_check` meets its contract. The loop keeps that the rows of the targets that are left decide.
-- Assumes nothing.
use mathlib.Core.Path.{◌≡◌}
use Prim.Native.Nat.{◌-◌, ◌*◌, ◌≤◌}
use lib.ListN.{drop}
use Rattle.format.specs.Rows.{first_row, targets_rows}
use Rattle.dwell_checks.proofs.each_check.Given as goal

abbrev pub invariant-loop-i : goal.invariant-loop-i
invariant-loop-i l =
    (l.i ≤ l.p.count) × (l.at ≡ l.i * l.p.each) × (first_row (targets_rows l.p.mask l.p.area (l.p.count - l.i) (drop l.at l.t)) ≡ first_row (targets_rows l.p.mask l.p.area l.p.count l.t))

abbrev pub decreases-loop-i : goal.decreases-loop-i
decreases-loop-i l = l.p.count - l.i
