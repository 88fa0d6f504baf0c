-- `dwell_records::dwell_records` meets its contract. The dwell's record, and its targets in a part of the sheet.
-- Assumes nothing.
use mathlib.Core.Path.{refl, ap}
use mathlib.Core.List.{List}
use Prim.Native.Nat.{ℕ, ◌≤◌}
use lib.ListN.{length}
use native.Mathlib.Omega.{arith}
use Rattle.format.specs.Dwell.{mask_of}
use Rattle.format.specs.Sheet.{target_records, record_bytes}
use Rattle.format.specs.Lengths.{record_length}
use Rattle.records.proofs.Laid.{part-laid}
use Rattle.format.proofs.Dwells.{IsDwell, is-dwell}
use Rattle.dwell_checks.specs.declared.Plan.{Plan}
use Rattle.dwell_checks.specs.InnerPlan.{Headed}
use Rattle.dwell_checks.proofs.Plans.{headed, start-within, targets-stand, targets-pass}
use Rattle.dwell_records.proofs.Dwells.{dwell-with-targets}
use Rattle.dwell_records.proofs.dwell_records.Goals as goal
use Rattle.dwell_records.proofs.dwell_records.Goals.{After-get_u64-mask, After-plan_of-p, Start}

-- what the rows say of the body
taken : (s : Start) → IsDwell s.args.b.now
taken s = is-dwell s.args.r s.args.b.now s.requires.0

-- it begins with the mask that is read
head : (c : After-get_u64-mask) → Headed c.get_u64-mask.result c.args.b.now
unfolding mask_of
head c = headed c.args.b.now (taken (goal.at.After-get_u64-mask c).Start) c.get_u64-mask.ensures

-- the targets start within it
within : (c : After-plan_of-p) → c.plan_of-p.result.start ≤ length c.args.b.now
within c = start-within c.args.b.now (taken (goal.at.After-plan_of-p c).Start) c.plan_of-p.result c.plan_of-p.ensures.0

pub get_u64-mask-requires : goal.get_u64-mask-requires
get_u64-mask-requires c = omega (arith, (headed c.args.b.now (taken (goal.at.get_u64-mask-requires c).Start) refl).2)

pub plan_of-p-requires : goal.plan_of-p-requires
plan_of-p-requires c = head (goal.at.plan_of-p-requires c).After-get_u64-mask

pub dwell_record-requires : goal.dwell_record-requires
dwell_record-requires c =
    (head (goal.at.dwell_record-requires c).After-get_u64-mask, omega (arith, c.requires.1))

pub slice_bounds-target_records-count : goal.slice_bounds-target_records-count
slice_bounds-target_records-count c = within (goal.at.slice_bounds-target_records-count c).After-plan_of-p

pub slice_bounds-target_records-start : goal.slice_bounds-target_records-start
slice_bounds-target_records-start c = omega (arith, within (goal.at.slice_bounds-target_records-start c).After-plan_of-p)

pub target_records-requires : goal.target_records-requires
target_records-requires c =
    let p = c.plan_of-p in
    let b = c.args.b.now in
    let k = taken (goal.at.target_records-requires c).Start in
    (targets-stand b k p.result p.ensures.0 p.ensures.1, omega (arith, c.requires.1, ap (λ (q : Plan). q.count) p.ensures.0, c.dwell_record.auto), targets-pass b k p.result p.ensures.0)

pub returns : goal.returns
returns c =
    let a = c.args in
    let p = c.plan_of-p in
    dwell-with-targets a.r a.b.now a.o.now p.result p.ensures.0 c.dwell_record.ensures
    (part-laid (λ (x : List ℕ). record_bytes (target_records p.result.mask p.result.area p.result.count x)) a.b.now c.dwell_record.new.o p.result.start (record_length 3) c.target_records.ensures)
