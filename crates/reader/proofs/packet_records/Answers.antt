-- `reader::packet_records` meets its contract. The loop keeps that what is left to lay out, laid out, gives the sheet.
-- Assumes nothing.
use Prim.Native.Nat.{◌+◌, ◌≤◌}
use native.Mathlib.Omega.{arith}
use mathlib.Core.Path.{refl, sym, ap, ◌∙◌}
use lib.ListN.{length, length-drop}
use lib.Seq.{sets}
use Rattle.octets.proofs.Parts.{filled_next, filled-length, tail-is}
use Rattle.segments.proofs.Turning.{bytes_left, all_left, headed, Turn, turn, bytes_at, nothing_left}
use Rattle.reader.proofs.packet_records.Goals as goal
use Rattle.reader.proofs.packet_records.Goals.{After-size_at-size}

-- the segment of a turn
here : (c : After-size_at-size) → let a = c.args in
    Turn a.r a.l.now c.loop-at.at c.loop-at.invariant.left c.size_at-size.result
here c =
    turn c.args.r c.args.l.now c.loop-at.at c.loop-at.invariant.left (omega (arith, c.requires.0.short)) c.loop-at-test.true _ c.size_at-size.ensures

pub loop-at-init : goal.loop-at-init
loop-at-init c =
    record { left = all_left c.args.r c.args.l.now c.requires.0; same = refl; room = omega (arith, c.requires.1); rest = refl }

pub size_at-size-requires : goal.size_at-size-requires
size_at-size-requires c =
    let a = c.args in
    headed a.r a.l.now c.loop-at.at c.loop-at.invariant.left c.loop-at-test.true

pub bounds-t-0 : goal.bounds-t-0
bounds-t-0 c = let t = here (goal.at.bounds-t-0 c).After-size_at-size in omega (arith, t.header, t.part)

pub slice_bounds-b-count : goal.slice_bounds-b-count
slice_bounds-b-count c = (here (goal.at.slice_bounds-b-count c).After-size_at-size).header

pub slice_bounds-b-start : goal.slice_bounds-b-start
slice_bounds-b-start c = omega (arith, (here (goal.at.slice_bounds-b-start c).After-size_at-size).header)

pub slice_bounds-b-end : goal.slice_bounds-b-end
slice_bounds-b-end c = (here (goal.at.slice_bounds-b-end c).After-size_at-size).part

-- its records have room
room : (c : After-size_at-size) → let a = c.args in
    c.loop-at.to + length (bytes_at a.r a.l.now c.loop-at.at c.size_at-size.result) + length (bytes_left (here c).next) ≤ length c.loop-at.o
room c = let v = c.loop-at.invariant in omega (arith, v.room, v.same, (here c).lengths-are)

pub slice_bounds-segment_records-count : goal.slice_bounds-segment_records-count
slice_bounds-segment_records-count c = omega (arith, room (goal.at.slice_bounds-segment_records-count c).After-size_at-size)

pub slice_bounds-segment_records-start : goal.slice_bounds-segment_records-start
slice_bounds-segment_records-start c = omega (arith, room (goal.at.slice_bounds-segment_records-start c).After-size_at-size)

pub segment_records-to-requires : goal.segment_records-to-requires
segment_records-to-requires c =
    let l = c.loop-at in
    ((here (goal.at.segment_records-to-requires c).After-size_at-size).checked, rw (tail-is l.to l.o, length-drop) (omega (arith, room (goal.at.segment_records-to-requires c).After-size_at-size)))

pub overflow_add-to : goal.overflow_add-to
overflow_add-to c =
    omega (arith, c.segment_records-to.ensures.value, room (goal.at.overflow_add-to c).After-size_at-size, c.well_formed)

pub overflow_add-at : goal.overflow_add-at
overflow_add-at c =
    omega (arith, (here (goal.at.overflow_add-at c).After-size_at-size).within, c.well_formed)

pub loop-at-smaller : goal.loop-at-smaller
loop-at-smaller c = let t = here (goal.at.loop-at-smaller c).After-size_at-size in omega (arith, t.header, t.within)

pub loop-at-preserved : goal.loop-at-preserved
loop-at-preserved c =
    let l = c.loop-at in
    let t = here (goal.at.loop-at-preserved c).After-size_at-size in
    let a = c.args in
    let first = bytes_at a.r a.l.now l.at c.size_at-size.result in
    let long = c.segment_records-to.ensures.value in
    let stored = c.segment_records-to.ensures.o_after in
    record {
      left = t.next;
      same = filled-length l.o first l.to stored ∙ l.invariant.same;
      room = omega (arith, long, room (goal.at.loop-at-preserved c).After-size_at-size, l.invariant.same);
      rest =
          filled_next l.o (bytes_left t.next) first l.to _ long stored
          ∙ sym (ap (sets l.o l.to) t.bytes-are)
          ∙ l.invariant.rest;
    }

pub shape_of-o : goal.shape_of-o
shape_of-o c = c.loop-at.invariant.same

pub returns : goal.returns
returns c =
    let a = c.args in
    let n = nothing_left a.r a.l.now c.loop-at.at c.loop-at.invariant.left (omega arith) in
    sym (ap (sets c.loop-at.o c.loop-at.to) n) ∙ c.loop-at.invariant.rest
