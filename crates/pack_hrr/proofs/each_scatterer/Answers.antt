-- `pack_hrr::each_scatterer` meets its contract. What is left of the scatterers to store, stored where it belongs, gives all of them.
-- Assumes nothing.
use mathlib.Core.Path.{◌≡◌, refl, ap}
use Prim.Native.Nat.{ℕ, suc, ◌+◌, ◌-◌, ◌≤◌}
use native.Mathlib.Nat.{suc-mul, mul-le-mul_right}
use native.Mathlib.Omega.{arith}
use lib.ListN.{length}
use lib.Seq.{sets}
use borrow.Author.Rules.{rules}
use Rattle.octets.specs.Layout.{total}
use Rattle.hrr.specs.InnerScatterers.{digits}
use Rattle.format.specs.Lengths.{record_length}
use Rattle.format.proofs.Hrr.{all-narrow}
use Rattle.pack_hrr.specs.InnerNarrowed.{narrowed_all}
use Rattle.pack_hrr.proofs.Narrowed.{all-next, all-last}
use Rattle.pack_hrr.proofs.each_scatterer.Goals as goal
use Rattle.pack_hrr.proofs.each_scatterer.Goals.{In-loop-i}

-- in a turn the scatterer's record lies within, and its bytes have room
within : (c : In-loop-i) → let a = c.args in let l = c.loop-i in
    (l.at + record_length 12 ≤ length a.x.now) × (l.q + a.each ≤ length l.o)
within c =
    let l = c.loop-i in
    let all = mul-le-mul_right {m = suc l.i} {n = c.args.count} c.args.each c.loop-i-test.true in
    (omega arith, omega (arith, all, suc-mul l.i c.args.each))

pub loop-i-init : goal.loop-i-init
loop-i-init c =
    let a = c.args in
    let e : a.count - 0 ≡ a.count = omega arith in
    (omega arith, omega arith, omega arith, refl, ap (λ (n : ℕ). sets a.o.now 0 (narrowed_all (digits a.n) n a.x.now)) e)

pub scatterer-requires : goal.scatterer-requires
scatterer-requires c =
    let h = within (goal.at.scatterer-requires c).In-loop-i in
    (c.requires.0, search rules, search rules)

pub loop-i-preserved : goal.loop-i-preserved
unfolding total
loop-i-preserved c =
    let a = c.args in
    let l = c.loop-i in
    let ws = digits a.n in (
      omega arith,
      omega arith,
      omega arith,
      search rules,
      all-next ws refl (all-narrow c.requires.0) (a.count - l.i) (a.count - (l.i + 1)) l.at l.q _ a.x.now l.o _ (omega arith) (omega arith) (within (goal.at.loop-i-preserved c).In-loop-i).0 c.scatterer.ensures l.invariant.4,
    )

pub returns : goal.returns
returns c =
    let a = c.args in
    let l = c.loop-i in
    all-last (digits a.n) (a.count - l.i) l.at l.q a.x.now l.o _ (omega arith) l.invariant.4

pub slice_bounds-scatterer-count : goal.slice_bounds-scatterer-count
slice_bounds-scatterer-count c = omega (arith, within (goal.at.slice_bounds-scatterer-count c).In-loop-i)

pub slice_bounds-scatterer-start : goal.slice_bounds-scatterer-start
slice_bounds-scatterer-start c = omega (arith, within (goal.at.slice_bounds-scatterer-start c).In-loop-i)

pub slice_bounds-scatterer-count-in-loop-i : goal.slice_bounds-scatterer-count-in-loop-i
slice_bounds-scatterer-count-in-loop-i c = omega (arith, within (goal.at.slice_bounds-scatterer-count-in-loop-i c).In-loop-i)

pub slice_bounds-scatterer-start-in-loop-i : goal.slice_bounds-scatterer-start-in-loop-i
slice_bounds-scatterer-start-in-loop-i c = omega (arith, within (goal.at.slice_bounds-scatterer-start-in-loop-i c).In-loop-i)

pub overflow_add-at : goal.overflow_add-at
overflow_add-at c = omega (arith, within (goal.at.overflow_add-at c).In-loop-i)

pub overflow_add-q : goal.overflow_add-q
overflow_add-q c = omega (arith, within (goal.at.overflow_add-q c).In-loop-i)
