-- `sheet_walk::is_rest` meets its contract. The loop keeps that row 17 lets the rest of the sheet pass if it does so with what is left of it.
-- Assumes nothing.
use native.Mathlib.Omega.{arith}
use mathlib.Core.Path.{refl, sym, ap, ◌∙◌}
use Rattle.format.specs.Writer.{no_header}
use Rattle.sheet_walk.specs.InnerShape.{is_rest}
use Rattle.sheet_walk.proofs.Places.{WholeAt, at_place}
use Rattle.sheet_walk.proofs.Headed.{header-again, rest_more}
use Rattle.sheet_walk.proofs.is_rest.Goals as goal
use Rattle.sheet_walk.proofs.is_rest.Goals.{In-Whole}

pub loop-kind-init : goal.loop-kind-init
loop-kind-init c = refl

pub returns-in-End : goal.returns-in-End
unfolding no_header
returns-in-End c =
    let l = c.loop-kind in
    let x = c.args.x.now in
    sym (l.invariant ∙ ap is_rest (at_place x l.at c.record_at.ensures c.in-End.is))

pub returns-in-Cut : goal.returns-in-Cut
returns-in-Cut c =
    let l = c.loop-kind in
    let x = c.args.x.now in
    sym (l.invariant ∙ ap is_rest (at_place x l.at c.record_at.ensures c.in-Cut.is))

-- the record in a turn
here : (c : In-Whole)
    → let k = c.in-Whole in
    WholeAt c.args.x.now c.loop-kind.at k.kind k.end
here c = at_place _ _ c.record_at.ensures c.in-Whole.is

pub returns-then-kind-eq-KIND : goal.returns-then-kind-eq-KIND
returns-then-kind-eq-KIND c =
    let l = c.loop-kind in
    sym (l.invariant ∙ header-again _ _ _ _ (here (goal.at.returns-then-kind-eq-KIND c).In-Whole) c.if-kind-eq-KIND.true)

pub loop-kind-smaller : goal.loop-kind-smaller
loop-kind-smaller c = omega (arith, (here (goal.at.loop-kind-smaller c).In-Whole).within, (here (goal.at.loop-kind-smaller c).In-Whole).fits)

pub loop-kind-preserved : goal.loop-kind-preserved
loop-kind-preserved c =
    let l = c.loop-kind in
    l.invariant ∙ rest_more _ _ _ _ (here (goal.at.loop-kind-preserved c).In-Whole) c.if-kind-eq-KIND.false
