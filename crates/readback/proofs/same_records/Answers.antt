-- `readback::same_records` meets its contract. The loop keeps that the records of the segments that are left decide as all of them do.
-- Assumes nothing.
use Prim.Native.Nat.{ℕ, ◌+◌, ◌≤◌}
use native.Mathlib.Omega.{arith}
use mathlib.Core.Path.{refl, sym, ap, ap₂, ◌∙◌}
use mathlib.Core.List.{List}
use lib.ListN.{length, drop, drop_of_length-le}
use Rattle.octets.proofs.Parts.{length_part}
use Rattle.format.specs.Writer.{is_same}
use Rattle.segments.proofs.Turning.{bytes_left, all_left, headed, Turn, turn, bytes_at, nothing_left}
use Rattle.readback.proofs.Fronts.{part-differs, part_same}
use Rattle.readback.proofs.same_records.Goals as goal
use Rattle.readback.proofs.same_records.Goals.{After-records_length, After-size_at-size}

-- the segment of a turn
here : (c : After-size_at-size) → let a = c.args in
    Turn a.r a.l.now c.loop-at.at c.loop-at.invariant.left c.size_at-size.result
here c =
    turn c.args.r c.args.l.now c.loop-at.at c.loop-at.invariant.left (omega (arith, c.requires.0.short)) c.loop-at-test.true _ c.size_at-size.ensures

pub loop-at-init : goal.loop-at-init
loop-at-init c =
    record { left = all_left c.args.r c.args.l.now c.requires.0; same = refl; whole = omega (arith, c.requires.1); rest = refl }

pub size_at-size-requires : goal.size_at-size-requires
size_at-size-requires c =
    let a = c.args in
    headed a.r a.l.now c.loop-at.at c.loop-at.invariant.left c.loop-at-test.true

pub bounds-t-0 : goal.bounds-t-0
bounds-t-0 c = let t = here (goal.at.bounds-t-0 c).After-size_at-size in omega (arith, t.header, t.part)

pub slice_bounds-b-count : goal.slice_bounds-b-count
slice_bounds-b-count c = (here (goal.at.slice_bounds-b-count c).After-size_at-size).header

pub slice_bounds-b-start : goal.slice_bounds-b-start
slice_bounds-b-start c = omega (arith, (here (goal.at.slice_bounds-b-start c).After-size_at-size).header)

pub slice_bounds-b-end : goal.slice_bounds-b-end
slice_bounds-b-end c = (here (goal.at.slice_bounds-b-end c).After-size_at-size).part

pub records_length-requires : goal.records_length-requires
records_length-requires c = (here (goal.at.records_length-requires c).After-size_at-size).checked

-- its records, where their length is known, and so far x reaches
module _ (c : After-records_length) where
  abbrev first : List ℕ
  first = bytes_at c.args.r c.args.l.now c.loop-at.at c.size_at-size.result

  within : c.loop-at.from + c.records_length.result ≤ length c.args.x.now
  within = omega (arith, c.records_length.ensures, (here (goal.at.After-records_length c).After-size_at-size).lengths-are, c.loop-at.invariant.whole)

pub overflow_add-to : goal.overflow_add-to
overflow_add-to c = omega (arith, within (goal.at.overflow_add-to c).After-records_length)

pub slice_bounds-same_segment-end : goal.slice_bounds-same_segment-end
slice_bounds-same_segment-end c = within (goal.at.slice_bounds-same_segment-end c).After-records_length

pub same_segment-requires : goal.same_segment-requires
same_segment-requires c =
    let l = c.loop-at in
    let x = c.args.x.now in
    ((here (goal.at.same_segment-requires c).After-size_at-size).checked, sym (length_part x l.from _ (within (goal.at.same_segment-requires c).After-records_length) ∙ c.records_length.ensures))

pub returns-then-not-same_segment : goal.returns-then-not-same_segment
returns-then-not-same_segment c =
    let l = c.loop-at in
    let x = c.args.x.now in
    part-differs (first (goal.at.returns-then-not-same_segment c).After-records_length) (bytes_left (here (goal.at.returns-then-not-same_segment c).After-size_at-size).next) x l.from _ (sym c.records_length.ensures) (within (goal.at.returns-then-not-same_segment c).After-records_length) c.same_segment.ensures c.if-not-same_segment.true
    ∙ sym (ap (λ (y : List ℕ). is_same y (drop l.from x)) (here (goal.at.returns-then-not-same_segment c).After-size_at-size).bytes-are)
    ∙ l.invariant.rest

pub overflow_add-at : goal.overflow_add-at
overflow_add-at c = omega (arith, (here (goal.at.overflow_add-at c).After-size_at-size).within, c.well_formed)

pub loop-at-smaller : goal.loop-at-smaller
loop-at-smaller c = let t = here (goal.at.loop-at-smaller c).After-size_at-size in omega (arith, t.header, t.within)

pub loop-at-preserved : goal.loop-at-preserved
loop-at-preserved c =
    let l = c.loop-at in
    let x = c.args.x.now in
    let t = here (goal.at.loop-at-preserved c).After-size_at-size in
    record {
      left = t.next;
      same = omega (arith, c.same_segment.auto, l.invariant.same);
      whole = omega (arith, c.records_length.ensures, t.lengths-are, l.invariant.whole);
      rest =
          part_same (first (goal.at.loop-at-preserved c).After-records_length) (bytes_left t.next) x l.from _ (sym c.records_length.ensures) (within (goal.at.loop-at-preserved c).After-records_length) c.same_segment.ensures c.if-not-same_segment.false
          ∙ sym (ap (λ (y : List ℕ). is_same y (drop l.from x)) t.bytes-are)
          ∙ l.invariant.rest;
    }

pub returns : goal.returns
unfolding is_same
returns c =
    let a = c.args in
    let n = nothing_left a.r a.l.now c.loop-at.at c.loop-at.invariant.left (omega arith) in
    let m : length a.x.now ≤ c.loop-at.from = omega (arith, c.loop-at.invariant.whole, ap length n) in
    sym (ap₂ (λ (y z : List ℕ). is_same y z) n (drop_of_length-le a.x.now m)) ∙ c.loop-at.invariant.rest
