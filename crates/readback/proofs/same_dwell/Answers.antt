-- `readback::same_dwell` meets its contract. The dwell's record, and its targets behind it.
-- Assumes nothing.
use Prim.Native.Nat.{ℕ, ◌-◌, ◌≤◌}
use native.Mathlib.Omega.{arith}
use mathlib.Core.Path.{refl, sym, ap, ◌∙◌}
use mathlib.Core.List.{List}
use lib.ListN.{length, take, drop}
use Rattle.octets.proofs.Parts.{tail-is}
use Rattle.format.specs.Dwell.{mask_of, targets_of}
use Rattle.format.specs.Sheet.{Record, dwell_record, dwell_records, target_records, record_bytes}
use Rattle.format.specs.Lengths.{record_length}
use Rattle.format.specs.Writer.{is_same}
use Rattle.format.proofs.Dwells.{IsDwell, is-dwell}
use Rattle.dwell_checks.specs.declared.Plan.{Plan}
use Rattle.dwell_checks.specs.InnerPlan.{Headed}
use Rattle.dwell_checks.proofs.Plans.{headed, start-within, targets_are, targets-stand, targets-pass}
use Rattle.readback.proofs.Fronts.{record-differs, record_same}
use Rattle.readback.proofs.Rests.{dwell-length, left-length}
use Rattle.readback.proofs.same_dwell.Goals as goal
use Rattle.readback.proofs.same_dwell.Goals.{After-get_u64-mask, After-plan_of-p, Start}

-- what the rows say of the body
taken : (s : Start) → IsDwell s.args.b.now
taken s = is-dwell s.args.r s.args.b.now s.requires.0

-- it begins with the mask that is read
head : (c : After-get_u64-mask) → Headed c.get_u64-mask.result c.args.b.now
unfolding mask_of
head c = headed c.args.b.now (taken (goal.at.After-get_u64-mask c).Start) c.get_u64-mask.ensures

-- the targets start within it
within : (c : After-plan_of-p) → c.plan_of-p.result.start ≤ length c.args.b.now
within c = start-within c.args.b.now (taken (goal.at.After-plan_of-p c).Start) c.plan_of-p.result c.plan_of-p.ensures.0

pub get_u64-mask-requires : goal.get_u64-mask-requires
get_u64-mask-requires c = omega (arith, (headed c.args.b.now (taken (goal.at.get_u64-mask-requires c).Start) refl).2)

pub plan_of-p-requires : goal.plan_of-p-requires
plan_of-p-requires c = head (goal.at.plan_of-p-requires c).After-get_u64-mask

pub dwell_record-requires : goal.dwell_record-requires
dwell_record-requires c =
    (head (goal.at.dwell_record-requires c).After-get_u64-mask, omega (arith, c.told-window))

pub returns-then-not-is_front : goal.returns-then-not-is_front
unfolding dwell_records
returns-then-not-is_front c =
    let a = c.args in
    record-differs (dwell_record a.r a.b.now) _ a.x.now a.window.now _ (record_length 3) c.dwell_record.ensures (dwell-length a.r a.b.now) (omega (arith, c.told-window)) (omega (arith, c.requires.1)) c.is_front.ensures c.if-not-is_front.true

pub slice_bounds-same_targets-count : goal.slice_bounds-same_targets-count
slice_bounds-same_targets-count c = within (goal.at.slice_bounds-same_targets-count c).After-plan_of-p

pub slice_bounds-same_targets-start : goal.slice_bounds-same_targets-start
slice_bounds-same_targets-start c = omega (arith, within (goal.at.slice_bounds-same_targets-start c).After-plan_of-p)

pub same_targets-requires : goal.same_targets-requires
same_targets-requires c =
    let p = c.plan_of-p in
    let b = c.args.b.now in
    let k = taken (goal.at.same_targets-requires c).Start in (
      targets-stand b k p.result p.ensures.0 p.ensures.1,
      sym (left-length (record_length 3) _ c.args.x.now (omega (arith, c.requires.1, ap (λ (q : Plan). q.count) p.ensures.0))),
      targets-pass b k p.result p.ensures.0,
    )

pub returns : goal.returns
unfolding dwell_records
returns c =
    let a = c.args in
    let b = a.b.now in
    let p = c.plan_of-p in
    let y = take (length a.x.now - record_length 3) (drop (record_length 3) a.x.now) in
    let rest =
    ap (λ (t : List ℕ). target_records p.result.mask p.result.area p.result.count t) (targets_are b p.result p.ensures.0)
    ∙ ap (λ (q : Plan). target_records q.mask q.area q.count (targets_of b)) p.ensures.0 in
    record_same (dwell_record a.r b) _ a.x.now a.window.now _ (record_length 3) c.dwell_record.ensures (dwell-length a.r b) (omega (arith, c.told-window)) (omega (arith, c.requires.1)) c.is_front.ensures y c.if-not-is_front.false (tail-is (record_length 3) a.x.now)
    (c.same_targets.ensures ∙ ap (λ (rs : List Record). is_same (record_bytes rs) y) rest)
