-- `segments::check` meets its contract. The loop keeps that the walk from here on, with the counts so far, comes to the answer of the whole.
-- Assumes nothing.
use Prim.Native.Nat.{ℕ, ◌+◌, ◌≤◌, zero-le}
use mathlib.Core.Path.{ap, ◌∙◌}
use native.Mathlib.Omega.{arith}
use lib.ListN.{length, drop, length-drop}
use Rattle.octets.proofs.ByteLists.{drop-bytes}
use Rattle.octets.proofs.Parts.{tail-is}
use Rattle.format.specs.Answer.{Accepted, Refused, answer_of}
use Rattle.std.proofs.Common.{rules}
use Rattle.std.proofs.lemmas.Result.{err_from_is_err_and}
use Rattle.format.proofs.Rows.{mapped-ok, mapped-err}
use Rattle.std.specs.Prelude.{◌≡◌, Ok, Err}
use Rattle.segments.proofs.Counting.{past-at-most}
use Rattle.segments.proofs.Walking.{IsGood, Fit, fit, Ended, walk_start, here-good, walk-bad, walk-good, walk_end}
use Rattle.segments.proofs.check.Goals as goal
use Rattle.segments.proofs.check.Goals.{After-loop-at, In_ok-found}

pub loop-at-init : goal.loop-at-init
loop-at-init c =
    let a = c.args in
    record { walked = walk_start a.r a.l.now; segments-le = zero-le; dwells-le = (zero-le, zero-le); targets-le = zero-le; length-le = omega arith }

pub segment_at-requires : goal.segment_at-requires
segment_at-requires c =
    rw (tail-is c.loop-at.at c.args.l.now, length-drop) (omega (arith, c.requires))

pub returns-in_err-found : goal.returns-in_err-found
returns-in_err-found c =
    let l = c.loop-at in
    let a = c.args in
    let (f, q, h) = mapped-err _ c.segment_at.result c.map_err.result _ c.map_err.ensures.cases c.in_err-found.was in
    let (d, p, r) = err_from_is_err_and c.from_residual.result c.from_residual.ensures.1 in
    let made : answer_of (Err c.in_err-found.field-0.0) ≡ Refused f.number (l.segments + 1) f.field = search rules in
    ap answer_of (p ∙ ap Err r)
    ∙ made
    ∙ walk-bad a.r a.l.now l.at c.segment_at.ensures l.invariant.walked c.loop-at-test.true _ _ q

-- what was found there
found : (c : In_ok-found) → c.segment_at.result ≡ Ok c.in_ok-found.found
found c = mapped-ok _ c.segment_at.result c.map_err.result _ c.map_err.ensures.cases c.in_ok-found.was

-- the segment is good
good : (c : In_ok-found) → let g = c.in_ok-found.found in
    IsGood c.args.r (drop c.loop-at.at c.args.l.now) g.size g.targets g.length
good c =
    let a = c.args in
    here-good a.r a.l.now c.loop-at.at c.segment_at.ensures _ _ _ (found c)

-- and adds no more than this
sized : (c : In_ok-found) → let g = c.in_ok-found.found in
    Fit (drop c.loop-at.at c.args.l.now) g.size g.targets g.length
sized c =
    let l = c.args.l.now in
    let at = c.loop-at.at in
    let h : length (drop at l) ≤ 65536 = rw length-drop (omega (arith, c.requires)) in
    fit c.args.r (drop at l) _ _ _ h (drop-bytes at l (λ i. (c.type_inv.l i).fits)) (good c)

pub overflow_add-segments : goal.overflow_add-segments
overflow_add-segments c = omega (arith, c.loop-at.invariant.segments-le, c.loop-at.invariant.walked.within, c.requires)

pub dwells_past-dwells-requires : goal.dwells_past-dwells-requires
dwells_past-dwells-requires c =
    let i = c.loop-at.invariant in
    (rw (tail-is c.loop-at.at c.args.l.now) (good (goal.at.dwells_past-dwells-requires c).In_ok-found).rows, (omega (arith, i.dwells-le.0, i.segments-le, i.walked.within, c.requires), omega (arith, i.dwells-le.1, i.segments-le, i.walked.within, c.requires)))

pub overflow_add-targets : goal.overflow_add-targets
overflow_add-targets c = let i = c.loop-at.invariant in omega (arith, (sized (goal.at.overflow_add-targets c).In_ok-found).few, i.targets-le, i.walked.within, c.requires)

pub overflow_add-length : goal.overflow_add-length
overflow_add-length c = let i = c.loop-at.invariant in omega (arith, (sized (goal.at.overflow_add-length c).In_ok-found).short, i.length-le, i.walked.within, c.requires)

pub overflow_add-at : goal.overflow_add-at
overflow_add-at c = let i = c.loop-at.invariant in omega (arith, simp length-drop at (sized (goal.at.overflow_add-at c).In_ok-found).within, i.walked.within, c.requires)

pub loop-at-smaller : goal.loop-at-smaller
loop-at-smaller c = omega (arith, (sized (goal.at.loop-at-smaller c).In_ok-found).header)

pub loop-at-preserved : goal.loop-at-preserved
loop-at-preserved c =
    let a = c.args in
    let l = c.loop-at in
    let i = l.invariant in
    let f = sized (goal.at.loop-at-preserved c).In_ok-found in
    record {
      walked = walk-good a.r a.l.now l.at c.segment_at.ensures i.walked c.loop-at-test.true _ _ _ (found (goal.at.loop-at-preserved c).In_ok-found) c.dwells_past-dwells.ensures;
      segments-le = omega (arith, f.header, i.segments-le);
      dwells-le = past-at-most l.segments l.dwells _ _ c.dwells_past-dwells.ensures i.dwells-le;
      targets-le = omega (arith, f.header, f.few, i.targets-le);
      length-le = omega (arith, f.header, f.short, i.length-le);
    }

-- nothing is left at the loop's end
ended : (c : After-loop-at) → let a = c.args in let l = c.loop-at in
    Ended a.r a.l.now l.segments l.dwells l.targets l.length
ended c =
    let a = c.args in
    let l = c.loop-at in
    walk_end a.r a.l.now l.at l.invariant.walked (omega arith)

pub dwell_count-requires : goal.dwell_count-requires
dwell_count-requires c =
    (record { short = c.requires; ending = (ended (goal.at.dwell_count-requires c).After-loop-at).ending }, (ended (goal.at.dwell_count-requires c).After-loop-at).dwells)

pub returns : goal.returns
returns c =
    let l = c.loop-at in
    ap (λ (d : ℕ). Accepted l.segments d l.targets l.length) c.dwell_count.ensures ∙ (ended (goal.at.returns c).After-loop-at).answer
