-- `hrr_records::each_record` meets its contract. What is left of the scatterers to store, stored where it belongs, gives all of them.
-- Assumes nothing.
use mathlib.Core.Path.{◌≡◌, refl, ap}
use Prim.Native.Nat.{ℕ, suc, ◌+◌, ◌-◌, ◌≤◌}
use native.Mathlib.Nat.{mul-le-mul_right}
use native.Mathlib.Omega.{arith}
use lib.ListN.{length}
use lib.Seq.{sets}
use borrow.Author.Rules.{rules}
use Rattle.octets.specs.Layout.{total}
use Rattle.hrr.specs.InnerScatterers.{digits}
use Rattle.format.specs.Sheet.{scatterer_records, record_bytes}
use Rattle.format.specs.Lengths.{record_length}
use Rattle.hrr_records.proofs.Scatterers.{scatterers-next, scatterers-last}
use Rattle.hrr_records.proofs.each_record.Goals as goal
use Rattle.hrr_records.proofs.each_record.Goals.{In-loop-i}

-- in a turn the scatterer lies within, and its record has room
within : (c : In-loop-i) → let a = c.args in let l = c.loop-i in
    (l.at + total (digits a.n) ≤ length a.t.now) × (l.q + record_length 12 ≤ length l.o)
unfolding total
within c =
    let l = c.loop-i in
    let all = mul-le-mul_right {m = suc l.i} {n = c.args.count} (total (digits c.args.n)) c.loop-i-test.true in
    (omega (arith, l.invariant, c.requires), omega arith)

pub loop-i-init : goal.loop-i-init
loop-i-init c =
    let a = c.args in
    let e : a.count - 0 ≡ a.count = omega arith in
    (omega arith, omega arith, omega arith, refl, ap (λ (n : ℕ). sets a.o.now 0 (record_bytes (scatterer_records (digits a.n) n a.t.now))) e)

pub scatterer_record-requires : goal.scatterer_record-requires
scatterer_record-requires c =
    let h = within (goal.at.scatterer_record-requires c).In-loop-i in
    (c.requires.0, search rules, search rules)

pub loop-i-preserved : goal.loop-i-preserved
unfolding total
loop-i-preserved c =
    let a = c.args in
    let l = c.loop-i in (
      omega arith,
      omega arith,
      omega arith,
      search rules,
      scatterers-next (digits a.n) (a.count - l.i) (a.count - (l.i + 1)) l.at l.q _ a.t.now l.o _ (omega arith) (omega arith) c.scatterer_record.ensures l.invariant.4,
    )

pub returns : goal.returns
returns c =
    let a = c.args in
    let l = c.loop-i in
    scatterers-last (digits a.n) (a.count - l.i) l.at l.q a.t.now l.o _ (omega arith) l.invariant.4

pub slice_bounds-scatterer_record-count : goal.slice_bounds-scatterer_record-count
slice_bounds-scatterer_record-count c = omega (arith, within (goal.at.slice_bounds-scatterer_record-count c).In-loop-i)

pub slice_bounds-scatterer_record-start : goal.slice_bounds-scatterer_record-start
slice_bounds-scatterer_record-start c = omega (arith, within (goal.at.slice_bounds-scatterer_record-start c).In-loop-i)

pub slice_bounds-scatterer_record-count-in-loop-i : goal.slice_bounds-scatterer_record-count-in-loop-i
slice_bounds-scatterer_record-count-in-loop-i c = omega (arith, within (goal.at.slice_bounds-scatterer_record-count-in-loop-i c).In-loop-i)

pub slice_bounds-scatterer_record-start-in-loop-i : goal.slice_bounds-scatterer_record-start-in-loop-i
slice_bounds-scatterer_record-start-in-loop-i c = omega (arith, within (goal.at.slice_bounds-scatterer_record-start-in-loop-i c).In-loop-i)

pub overflow_add-at : goal.overflow_add-at
overflow_add-at c = omega (arith, within (goal.at.overflow_add-at c).In-loop-i)

pub overflow_add-q : goal.overflow_add-q
overflow_add-q c = omega (arith, within (goal.at.overflow_add-q c).In-loop-i)
