-- `dwell_records::target_records` meets its contract. What is left of the targets to store, stored where it belongs, gives all of them.
-- Assumes nothing.
use Prim.Native.Nat.{ℕ, suc, ◌+◌, ◌-◌, ◌≤◌}
use native.Mathlib.Omega.{arith}
use mathlib.Core.Path.{◌≡◌, refl, ap, ◌∙◌}
use mathlib.Core.List.{List, [], ◌∷◌}
use lib.ListN.{length, length-drop}
use lib.Seq.{sets}
use borrow.Author.Rules.{rules}
use Rattle.octets.proofs.Parts.{tail-is}
use Rattle.format.specs.Sheet.{target_record, target_records, record_bytes}
use Rattle.format.specs.Lengths.{record_length}
use Rattle.format.specs.Rows.{first_row, targets_rows}
use Rattle.dwell_checks.proofs.Turns.{room, next_place}
use Rattle.records.proofs.Laid.{part-laid}
use Rattle.dwell_records.proofs.Targets.{turn-placed, rows_next, targets_next, targets-last}
use Rattle.dwell_records.proofs.target_records.Goals as goal
use Rattle.dwell_records.proofs.target_records.Goals.{In-loop-i}

-- in a turn the target lies within, and its record has room
within : (c : In-loop-i) → let l = c.loop-i in
    (l.at + c.args.p.each ≤ length c.args.t.now) × (l.q + record_length 4 ≤ length l.o)
within c =
    let l = c.loop-i in
    (omega (arith, room l.i c.args.count c.args.p.each (length c.args.t.now) (omega arith) c.requires.0.1, l.invariant.1), omega (arith, l.invariant.2, l.invariant.3, c.requires.1))

-- and others are left behind it
left : (c : In-loop-i) → let n = c.args.count in n - c.loop-i.i ≡ suc (n - (c.loop-i.i + 1))
left c = omega arith

pub loop-i-init : goal.loop-i-init
loop-i-init c =
    let a = c.args in
    let e : a.count - 0 ≡ a.count = omega arith in (
      omega arith,
      omega arith,
      omega arith,
      refl,
      ap (λ (n : ℕ). first_row (targets_rows a.p.mask a.p.area n a.t.now)) e ∙ c.requires.2,
      ap (λ (n : ℕ). sets a.o.now 0 (record_bytes (target_records a.p.mask a.p.area n a.t.now))) e,
    )

pub slice_bounds-target_record-count : goal.slice_bounds-target_record-count
slice_bounds-target_record-count c = omega (arith, within (goal.at.slice_bounds-target_record-count c).In-loop-i)

pub slice_bounds-target_record-start : goal.slice_bounds-target_record-start
slice_bounds-target_record-start c = omega (arith, within (goal.at.slice_bounds-target_record-start c).In-loop-i)

pub slice_bounds-target_record-count-in-loop-i : goal.slice_bounds-target_record-count-in-loop-i
slice_bounds-target_record-count-in-loop-i c = omega (arith, within (goal.at.slice_bounds-target_record-count-in-loop-i c).In-loop-i)

pub slice_bounds-target_record-start-in-loop-i : goal.slice_bounds-target_record-start-in-loop-i
slice_bounds-target_record-start-in-loop-i c = omega (arith, within (goal.at.slice_bounds-target_record-start-in-loop-i c).In-loop-i)

pub target_record-requires : goal.target_record-requires
target_record-requires c =
    let p = c.args.p in
    let l = c.loop-i in
    let h = within (goal.at.target_record-requires c).In-loop-i in
    (rw (tail-is l.at c.args.t.now, length-drop l.at c.args.t.now) (omega (arith, c.requires.0.0)), search rules, c.requires.0.2, turn-placed p.mask p.area _ _ l.at c.args.t.now (left (goal.at.target_record-requires c).In-loop-i) l.invariant.4)

pub overflow_add-at : goal.overflow_add-at
overflow_add-at c = omega (arith, within (goal.at.overflow_add-at c).In-loop-i)

pub overflow_add-q : goal.overflow_add-q
overflow_add-q c = omega (arith, within (goal.at.overflow_add-q c).In-loop-i)

pub loop-i-preserved : goal.loop-i-preserved
loop-i-preserved c =
    let t = c.args.t.now in
    let p = c.args.p in
    let l = c.loop-i in (
      omega arith,
      omega (arith, next_place l.i p.each, l.invariant.1),
      omega arith,
      search rules,
      rows_next p.mask p.area _ _ l.at p.each t (left (goal.at.loop-i-preserved c).In-loop-i) c.requires.0.0 l.invariant.4,
      targets_next p.mask p.area _ _ l.at l.q p.each t l.o _ (left (goal.at.loop-i-preserved c).In-loop-i) c.requires.0.0
          (part-laid (λ (x : List ℕ). record_bytes (target_record p.mask p.area x ∷ [])) t l.o l.at l.q c.target_record.ensures) l.invariant.5,
    )

pub returns : goal.returns
returns c =
    let a = c.args in
    let l = c.loop-i in
    targets-last a.p.mask a.p.area (a.count - l.i) l.at l.q a.t.now l.o _ (omega arith) l.invariant.5
