-- `printing::target_lines` meets its contract. The loop keeps that the lines of the records left, laid out from p on, give the whole.
-- Assumes nothing.
use native.Mathlib.Omega.{arith}
use borrow.Author.Rules.{rules}
use Rattle.sheet_walk.proofs.Places.{WholeAt, at_place}
use Rattle.printing.proofs.Lines.{put_same}
use Rattle.printing.proofs.Records.{body-ends, walk_start, walk_end, walk_turn}
use Rattle.printing.proofs.target_lines.Goals as goal
use Rattle.printing.proofs.target_lines.Goals.{In-Whole}

-- the record in a turn that goes on
here : (c : In-Whole)
    → let k = c.in-Whole in
    WholeAt c.args.x.now c.loop-kind.at k.kind k.end
here c = at_place _ _ c.record_at.ensures c.in-Whole.is

pub record_line-p-requires : goal.record_line-p-requires
record_line-p-requires c =
    let w = here (goal.at.record_line-p-requires c).In-Whole in
    let l = c.loop-kind.invariant.laid in
    (omega (arith, l.room, put_same l, body-ends w, w.fits, c.requires), w.formed.length_is)

pub loop-kind-preserved : goal.loop-kind-preserved
loop-kind-preserved c =
    walk_turn c.loop-kind.invariant (here (goal.at.loop-kind-preserved c).In-Whole) c.record_line-p.ensures

pub returns-in-End : goal.returns-in-End
returns-in-End c =
    walk_end c.loop-kind.invariant (at_place _ _ c.record_at.ensures c.in-End.is)

pub returns-in-Cut : goal.returns-in-Cut
returns-in-Cut c =
    walk_end c.loop-kind.invariant (at_place _ _ c.record_at.ensures c.in-Cut.is)

pub loop-kind-init : goal.loop-kind-init
loop-kind-init c = walk_start _ _ _

pub overflow_add-body : goal.overflow_add-body
overflow_add-body c = let w = here (goal.at.overflow_add-body c).In-Whole in search rules

pub slice_bounds-record_line-count : goal.slice_bounds-record_line-count
slice_bounds-record_line-count c = let w = here (goal.at.slice_bounds-record_line-count c).In-Whole in search rules

pub slice_bounds-record_line-start : goal.slice_bounds-record_line-start
slice_bounds-record_line-start c = let w = here (goal.at.slice_bounds-record_line-start c).In-Whole in search rules

pub slice_bounds-record_line-end : goal.slice_bounds-record_line-end
slice_bounds-record_line-end c = let w = here (goal.at.slice_bounds-record_line-end c).In-Whole in search rules

pub loop-kind-smaller : goal.loop-kind-smaller
loop-kind-smaller c = let w = here (goal.at.loop-kind-smaller c).In-Whole in search rules
