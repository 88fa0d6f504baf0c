-- `hrr::scatterers_in` meets its contract. Each number stands behind the announced fields in front of it.
-- Assumes nothing.
use mathlib.Core.Path.{◌≡◌, refl, ap, ◌∙◌}
use Prim.Native.Nat.{ℕ, ◌+◌}
use native.Mathlib.Omega.{arith}
use lib.Dec.{lit≤, lit<}
use lib.ListN.{drop}
use Rattle.mask.specs.Fields.{announced_length, full_fields}
use Rattle.mask.proofs.Fours.{four-fields}
use Rattle.mask.proofs.Places.{announced_before}
use Rattle.hrr.specs.Hrr.{hrr_widths, hrr_fields}
use Rattle.hrr.specs.InnerScatterers.{widths, scatterers_of}
use Rattle.hrr.proofs.Numbers.{count-is, number-room, number_is, h25-room, h25-is, h26-is}
use Rattle.hrr.proofs.scatterers_in.Goals as goal
use Rattle.hrr.proofs.scatterers_in.Goals.{After-width_if-2}

at-6 : (c : After-width_if-2) → 5 + c.four-h6.result ≡ 5 + announced_before c.args.mask 2 hrr_widths 6
unfolding announced_length
at-6 c = omega (arith, c.four-h6.ensures.0, four-fields c.args.mask 2 (widths 2 5) (lit≤ tt))

at_7 : (c : After-width_if-2) → 5 + c.four-h6.result + c.width_if.result ≡ 5 + announced_before c.args.mask 2 hrr_widths 7
unfolding announced_length
at_7 c = omega (arith, at-6 c, c.width_if.ensures.0)

at_8 : (c : After-width_if-2) → 5 + c.four-h6.result + c.width_if.result + c.width_if-2.result
    ≡ 5 + announced_before c.args.mask 2 hrr_widths 8
unfolding announced_length
at_8 c = omega (arith, at_7 c, c.width_if-2.ensures.0)

pub number_if-requires : goal.number_if-requires
number_if-requires c =
    (lit≤ tt, lit≤ tt, number-room c.args.mask c.args.b.now 6 _ (lit≤ tt) (lit< tt) refl (at-6 (goal.at.number_if-requires c).After-width_if-2) c.requires.0.2)

pub number_if-requires-2 : goal.number_if-requires-2
number_if-requires-2 c =
    (lit≤ tt, lit≤ tt, number-room c.args.mask c.args.b.now 7 _ (lit≤ tt) (lit< tt) refl (at_7 (goal.at.number_if-requires-2 c).After-width_if-2) c.requires.0.2)

pub number_if-requires-3 : goal.number_if-requires-3
number_if-requires-3 c =
    (lit≤ tt, lit≤ tt, number-room c.args.mask c.args.b.now 8 _ (lit≤ tt) (lit< tt) refl (at_8 (goal.at.number_if-requires-3 c).After-width_if-2) c.requires.0.2)

pub bounds-b-at : goal.bounds-b-at
bounds-b-at c =
    omega (arith, h25-room c.args.mask c.args.b.now c.requires.0.1 c.args.at c.requires.1 c.requires.0.2)

pub overflow_add-at : goal.overflow_add-at
overflow_add-at c =
    omega (arith, h25-room c.args.mask c.args.b.now c.requires.0.1 c.args.at c.requires.1 c.requires.0.2, c.well_formed)

pub bounds-b-at-2 : goal.bounds-b-at-2
bounds-b-at-2 c =
    h25-room c.args.mask c.args.b.now c.requires.0.1 c.args.at c.requires.1 c.requires.0.2

pub returns : goal.returns
unfolding hrr_fields
returns c =
    let m = c.args.mask in
    let b = c.args.b.now in
    let e6 = number_is m b 6 _ (lit≤ tt) (lit< tt) refl (at-6 (goal.at.returns c).After-width_if-2) c.number_if.ensures in
    let e7 = number_is m b 7 _ (lit≤ tt) (lit< tt) refl (at_7 (goal.at.returns c).After-width_if-2) c.number_if-2.ensures in
    let e8 = number_is m b 8 _ (lit≤ tt) (lit< tt) refl (at_8 (goal.at.returns c).After-width_if-2) c.number_if-3.ensures in
    let n = count-is m (full_fields m 2 hrr_widths (drop 5 b)) e6 e7 e8 c.count_of-count.ensures.0 in
    let h25 = h25-is m b c.requires.0.1 c.args.at c.requires.1 in
    let h26 = h26-is m b c.requires.0.1 c.args.at c.requires.1 in (
      c.with_widths.ensures.0 ∙ rw (h25, h26, n) (ap (λ (k : ℕ). scatterers_of m (full_fields k 2 hrr_widths (drop 5 b))) c.requires.0.0),
      c.with_widths.ensures.1,
    )
