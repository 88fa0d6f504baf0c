-- `filling::fill_in` meets its contract. The loop keeps that what is behind the two places, filled in, gives the whole.
-- Assumes nothing.
use borrow.Author.Rules.{rules}
use mathlib.Core.Path.{refl}
use Rattle.sheet_walk.proofs.Places.{WholeAt, at_place, none-at}
use Rattle.filling.proofs.Walk.{filled-end, given-end, left-as-is, turn}
use Rattle.filling.proofs.fill_in.Goals as goal
use Rattle.filling.proofs.fill_in.Goals.{In-Whole-record_at}

pub returns-in_default : goal.returns-in_default
returns-in_default c =
    let l = c.loop-kind in
    left-as-is l.invariant (filled-end _ _ (none-at l.older l.at _ c.record_at.ensures c.in_default.not-Whole))

pub returns-in_default-record_at : goal.returns-in_default-record_at
returns-in_default-record_at c =
    let l = c.loop-kind in
    left-as-is l.invariant (given-end _ _ (none-at _ l.from _ c.record_at-in-loop-kind.ensures c.in_default-record_at.not-Whole))

-- in a turn that goes on, a whole record is at each place
here : (c : In-Whole-record_at)
    → let newer = c.in-Whole-record_at in
    let older = c.in-Whole in
    WholeAt c.loop-kind.older c.loop-kind.at older.kind older.next × WholeAt c.args.newer.now c.loop-kind.from newer.other newer.end
here c =
    (at_place _ _ c.record_at.ensures c.in-Whole.is, at_place _ _ c.record_at-in-loop-kind.ensures c.in-Whole-record_at.is)

pub loop-kind-preserved : goal.loop-kind-preserved
loop-kind-preserved c =
    let l = c.loop-kind in
    turn (here (goal.at.loop-kind-preserved c).In-Whole-record_at).0 (here (goal.at.loop-kind-preserved c).In-Whole-record_at).1 c.fill_pair.ensures c.fill_pair.auto.older l.invariant

pub loop-kind-init : goal.loop-kind-init
loop-kind-init c = record { same = refl; rest = refl }

pub overflow_add-body : goal.overflow_add-body
overflow_add-body c = let w = here (goal.at.overflow_add-body c).In-Whole-record_at in search rules

pub overflow_add-given : goal.overflow_add-given
overflow_add-given c = let w = here (goal.at.overflow_add-given c).In-Whole-record_at in search rules

pub slice_bounds-fill_pair-count : goal.slice_bounds-fill_pair-count
slice_bounds-fill_pair-count c = let w = here (goal.at.slice_bounds-fill_pair-count c).In-Whole-record_at in search rules

pub slice_bounds-fill_pair-start : goal.slice_bounds-fill_pair-start
slice_bounds-fill_pair-start c = let w = here (goal.at.slice_bounds-fill_pair-start c).In-Whole-record_at in search rules

pub slice_bounds-fill_pair-end : goal.slice_bounds-fill_pair-end
slice_bounds-fill_pair-end c = let w = here (goal.at.slice_bounds-fill_pair-end c).In-Whole-record_at in search rules

pub slice_bounds-fill_pair-count-in-loop-kind : goal.slice_bounds-fill_pair-count-in-loop-kind
slice_bounds-fill_pair-count-in-loop-kind c = let w = here (goal.at.slice_bounds-fill_pair-count-in-loop-kind c).In-Whole-record_at in search rules

pub slice_bounds-fill_pair-start-in-loop-kind : goal.slice_bounds-fill_pair-start-in-loop-kind
slice_bounds-fill_pair-start-in-loop-kind c = let w = here (goal.at.slice_bounds-fill_pair-start-in-loop-kind c).In-Whole-record_at in search rules

pub slice_bounds-fill_pair-end-in-loop-kind : goal.slice_bounds-fill_pair-end-in-loop-kind
slice_bounds-fill_pair-end-in-loop-kind c = let w = here (goal.at.slice_bounds-fill_pair-end-in-loop-kind c).In-Whole-record_at in search rules

pub fill_pair-requires : goal.fill_pair-requires
fill_pair-requires c = let w = here (goal.at.fill_pair-requires c).In-Whole-record_at in (w.0.formed.length_is, w.1.formed.length_is)

pub loop-kind-smaller : goal.loop-kind-smaller
loop-kind-smaller c = let w = here (goal.at.loop-kind-smaller c).In-Whole-record_at in search rules
