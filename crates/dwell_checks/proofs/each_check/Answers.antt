-- `dwell_checks::each_check` meets its contract. The loop keeps that the rows of the targets that are left decide.
-- Assumes nothing.
use mathlib.Core.Path.{◌≡◌, refl, sym, ap, ◌∙◌}
use Prim.Native.Nat.{ℕ, suc, ◌+◌, ◌-◌, ◌≤◌}
use native.Mathlib.Omega.{arith}
use lib.ListN.{length, drop, length-drop}
use Rattle.format.specs.Rows.{first_row, targets_rows}
use Rattle.format.proofs.Rows.{handed-on}
use Rattle.octets.proofs.Parts.{tail-is}
use Rattle.dwell_checks.proofs.Turns.{room, next_place, fault-found, fault-later, rows_end}
use Rattle.dwell_checks.proofs.each_check.Goals as goal
use Rattle.dwell_checks.proofs.each_check.Goals.{In-loop-i}

-- in a turn the target lies within
within : (c : In-loop-i) → c.loop-i.at + c.args.p.each ≤ length c.args.t.now
within c =
    let p = c.args.p in
    let l = c.loop-i in
    omega (arith, room l.i p.count p.each (length c.args.t.now) (omega arith) c.requires.0.1, l.invariant.1)

-- and others are left behind it
left : (c : In-loop-i) → let n = c.args.p.count in n - c.loop-i.i ≡ suc (n - (c.loop-i.i + 1))
left c = omega arith

pub loop-i-init : goal.loop-i-init
loop-i-init c =
    let a = c.args in
    let e : a.p.count - 0 ≡ a.p.count = omega arith in
    (omega arith, omega arith, ap (λ (n : ℕ). first_row (targets_rows a.p.mask a.p.area n a.t.now)) e)

pub slice_bounds-target_check-count : goal.slice_bounds-target_check-count
slice_bounds-target_check-count c = omega (arith, within (goal.at.slice_bounds-target_check-count c).In-loop-i)

pub slice_bounds-target_check-start : goal.slice_bounds-target_check-start
slice_bounds-target_check-start c = omega (arith, within (goal.at.slice_bounds-target_check-start c).In-loop-i)

pub target_check-requires : goal.target_check-requires
target_check-requires c =
    let at = c.loop-i.at in
    (rw (tail-is at c.args.t.now, length-drop at c.args.t.now) (omega (arith, within (goal.at.target_check-requires c).In-loop-i, c.requires.0.0)), c.requires.0.2, c.requires.1)

pub returns-in_err-target_check : goal.returns-in_err-target_check
returns-in_err-target_check c =
    let p = c.args.p in
    let l = c.loop-i in
    handed-on c.from_residual.result c.from_residual.ensures.1
    ∙ fault-found p.mask p.each p.area c.args.t.now l.at _ _ c.requires.0.0 (left (goal.at.returns-in_err-target_check c).In-loop-i) c.in_err-target_check.ensures l.invariant.2 _ _ refl

pub overflow_add-at : goal.overflow_add-at
overflow_add-at c = omega (arith, within (goal.at.overflow_add-at c).In-loop-i)

pub loop-i-preserved : goal.loop-i-preserved
loop-i-preserved c =
    let p = c.args.p in
    let l = c.loop-i in (
      omega arith,
      omega (arith, next_place l.i p.each, l.invariant.1),
      fault-later p.mask p.each p.area c.args.t.now l.at _ _ c.requires.0.0 (left (goal.at.loop-i-preserved c).In-loop-i) c.in_ok-target_check.ensures l.invariant.2 refl,
    )

pub returns : goal.returns
returns c =
    let a = c.args in
    let l = c.loop-i in
    sym (rows_end a.p.mask a.p.area (a.p.count - l.i) (drop l.at a.t.now) (omega arith)) ∙ l.invariant.2
