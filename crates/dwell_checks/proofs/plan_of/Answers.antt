-- `dwell_checks::plan_of` meets its contract. The mask gives the lengths.
-- Assumes nothing.
use mathlib.Core.Path.{ap, subst}
use Prim.Native.Nat.{ℕ, ◌+◌}
use native.Mathlib.Omega.{arith}
use Rattle.mask.specs.InnerFields.{Required}
use Rattle.dwell_checks.proofs.Numbers.{split-24, required-length}
use Rattle.dwell_checks.proofs.plan_of.Goals as goal

pub overflow_add-at : goal.overflow_add-at
overflow_add-at c = omega (arith, c.length_before_d24-at.ensures.1)

pub overflow_add-start : goal.overflow_add-start
overflow_add-start c = omega (arith, c.length_before_d24-at.ensures.1, c.length_from_d24.ensures.1)

pub target_count-requires : goal.target_count-requires
target_count-requires c =
    let h = c.requires in
    (subst Required h.0 h.1, omega (arith, required-length _ h.1, h.2))

pub plan_by-requires : goal.plan_by-requires
plan_by-requires c =
    let before = c.length_before_d24-at.ensures.0 in
    let m = c.args.mask in
    (c.requires, ap (λ (k : ℕ). 8 + k) before, omega (arith, before, c.length_from_d24.ensures.0, split-24 m c.requires.1), c.target_length.ensures, c.target_count.ensures)

pub length_before_d24-at-requires : goal.length_before_d24-at-requires
length_before_d24-at-requires c = c.requires.1

pub length_from_d24-requires : goal.length_from_d24-requires
length_from_d24-requires c = c.requires.1
