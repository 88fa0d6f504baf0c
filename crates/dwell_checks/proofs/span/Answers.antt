-- `dwell_checks::span` meets its contract. The loop keeps that the sum is of the fields that it passed.
-- Assumes nothing.
use Prim.Native.Nat.{ℕ, ◌+◌, ◌-◌}
use native.Mathlib.Omega.{arith}
use mathlib.Core.Path.{◌≡◌, refl, sym, ap, ◌∙◌}
use mathlib.Core.List.{◌++◌}
use lib.ListN.{take, drop}
use Rattle.mask.specs.Fields.{announced_length, dwell_widths, target_widths}
use Rattle.dwell_checks.proofs.Numbers.{span-next}
use Rattle.dwell_checks.proofs.span.Goals as goal

pub loop-n-init : goal.loop-n-init
unfolding announced_length
loop-n-init c =
    let a = c.args in
    let e : a.first - a.first ≡ 0 = omega arith in
    (refl, omega arith, omega arith, omega arith, sym (ap (λ (j : ℕ). announced_length a.mask a.first (take j (drop (a.first - 2) (dwell_widths ++ target_widths)))) e))

pub loop-n-preserved : goal.loop-n-preserved
loop-n-preserved c =
    let a = c.args in
    let l = c.loop-n in
    (refl, omega arith, omega arith, omega arith, omega (arith, span-next a.mask a.first l.n (omega arith) (omega arith) (omega arith)))

pub returns : goal.returns
returns c =
    let a = c.args in
    let l = c.loop-n in
    let e : l.n ≡ a.last + 1 = omega arith in
    (l.invariant.4 ∙ ap (λ (j : ℕ). announced_length a.mask a.first (take (j - a.first) (drop (a.first - 2) (dwell_widths ++ target_widths)))) e, omega arith)
