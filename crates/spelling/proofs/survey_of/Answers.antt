-- `spelling::survey_of` meets its contract. The loop keeps that what is found from the place on, with what is due and counted there, is
-- what is found of the sheet.
-- Assumes nothing.
use native.Mathlib.Omega.{arith}
use mathlib.Core.Path.{sym, ◌∙◌}
use Rattle.sheet_walk.proofs.Places.{WholeAt, at_place}
use Rattle.spelling.proofs.Surveyed.{Walked, err-rest, no-header, start, at-end, at_cut, again, onward, turn, past-passed}
use Rattle.spelling.proofs.survey_of.Goals as goal
use Rattle.spelling.proofs.survey_of.Goals.{In-Some-count, In-Whole}

pub returns-in_default : goal.returns-in_default
returns-in_default c = sym (no-header c.args.x.now (sym c.in_default.is ∙ c.header_end.ensures))

pub loop-kind-init : goal.loop-kind-init
loop-kind-init c = start c.args.x.now _ (sym c.in-Some.is ∙ c.header_end.ensures)

pub returns-in-Cut : goal.returns-in-Cut
returns-in-Cut c =
    let l = c.loop-kind in
    sym (at_cut _ _ _ _ _ l.invariant (at_place _ _ c.record_at.ensures c.in-Cut.is))

pub returns-in-End : goal.returns-in-End
returns-in-End c =
    let l = c.loop-kind in
    let e = at_place _ _ c.record_at.ensures c.in-End.is in
    c.ended.ensures ∙ sym (at-end _ _ _ _ _ l.invariant e)

-- the record in a turn
here : (c : In-Whole)
    → WholeAt c.args.x.now c.loop-kind.at c.in-Whole.kind c.in-Whole.end
here c = at_place _ _ c.record_at.ensures c.in-Whole.is

pub returns-then-kind-eq-KIND : goal.returns-then-kind-eq-KIND
returns-then-kind-eq-KIND c = sym (again _ _ _ _ _ c.loop-kind.invariant _ _ (here (goal.at.returns-then-kind-eq-KIND c).In-Whole) c.if-kind-eq-KIND.true)

pub overflow_add-from : goal.overflow_add-from
overflow_add-from c = omega (arith, (here (goal.at.overflow_add-from c).In-Whole).within, (here (goal.at.overflow_add-from c).In-Whole).fits)

pub slice_bounds-count-count : goal.slice_bounds-count-count
slice_bounds-count-count c = omega (arith, (here (goal.at.slice_bounds-count-count c).In-Whole).within)

pub slice_bounds-count-start : goal.slice_bounds-count-start
slice_bounds-count-start c = omega (arith, (here (goal.at.slice_bounds-count-start c).In-Whole).within, (here (goal.at.slice_bounds-count-start c).In-Whole).fits)

pub slice_bounds-count-end : goal.slice_bounds-count-end
slice_bounds-count-end c = omega (arith, (here (goal.at.slice_bounds-count-end c).In-Whole).within, (here (goal.at.slice_bounds-count-end c).In-Whole).fits)

pub count-requires : goal.count-requires
count-requires c =
    let f = (here (goal.at.count-requires c).In-Whole).formed in
    (f.length_is, omega (arith, f.kind, f.length_is), c.loop-kind.invariant.short)

pub returns-in_default-count : goal.returns-in_default-count
returns-in_default-count c =
    let l = c.loop-kind in
    err-rest _ c.incomplete.ensures
    ∙ sym (onward _ _ _ _ _ l.invariant _ _ (here (goal.at.returns-in_default-count c).In-Whole) c.if-kind-eq-KIND.false (sym c.in_default-count.is ∙ c.count.ensures))

-- what is kept behind the record
behind : (c : In-Some-count) → Walked c.args.x.now c.in-Whole.end c.in-Some-count.next.follower c.in-Some-count.next.left c.in-Some-count.next.sum
behind c =
    let l = c.loop-kind in
    turn _ _ _ _ _ l.invariant _ _ (here (goal.at.In-Some-count c).In-Whole) c.if-kind-eq-KIND.false _ _ _ (sym c.in-Some-count.is ∙ c.count.ensures)

pub loop-kind-smaller-then-counted-gt0 : goal.loop-kind-smaller-then-counted-gt0
loop-kind-smaller-then-counted-gt0 c =
    let h = here (goal.at.loop-kind-smaller-then-counted-gt0 c).In-Whole in
    omega (arith, h.within, h.fits)

pub loop-kind-preserved-then-counted-gt0 : goal.loop-kind-preserved-then-counted-gt0
loop-kind-preserved-then-counted-gt0 c = behind (goal.at.loop-kind-preserved-then-counted-gt0 c).In-Some-count

pub passed-ahead-requires : goal.passed-ahead-requires
passed-ahead-requires c = (here (goal.at.passed-ahead-requires c).In-Whole).fits

-- how far it goes at once
pub loop-kind-smaller : goal.loop-kind-smaller
loop-kind-smaller c =
    let h = here (goal.at.loop-kind-smaller c).In-Whole in
    omega (arith, h.within, h.fits, c.passed-ahead.ensures.1)

pub loop-kind-preserved : goal.loop-kind-preserved
loop-kind-preserved c = past-passed _ _ _ _ _ _ (here (goal.at.loop-kind-preserved c).In-Whole).fits (behind (goal.at.loop-kind-preserved c).In-Some-count) c.passed-ahead.ensures
