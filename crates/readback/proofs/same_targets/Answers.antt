-- `readback::same_targets` meets its contract. The loop keeps that what is left of the targets decides as all of them do.
-- Assumes nothing.
use Prim.Native.Nat.{ℕ, ◌+◌, ◌-◌, ◌*◌, ◌≤◌, ◌<◌}
use native.Mathlib.Nat.{zero-mul}
use native.Mathlib.Omega.{arith}
use mathlib.Core.Path.{◌≡◌, refl, sym, ap, ap₂, ◌∙◌}
use mathlib.Core.List.{List, ◌++◌}
use lib.ListN.{length, drop, length-take, length-drop}
use Rattle.octets.proofs.Parts.{tail-is}
use Rattle.format.specs.Sheet.{Record, target_records, record_bytes}
use Rattle.format.specs.Lengths.{record_length}
use Rattle.format.specs.Rows.{first_row, targets_rows}
use Rattle.format.specs.Writer.{is_same}
use Rattle.format.proofs.Lengths.{length-targets}
use Rattle.dwell_checks.specs.declared.Plan.{Plan}
use Rattle.readback.specs.InnerWindow.{window_length}
use Rattle.readback.proofs.Batches.{batch-rows, batch-within, batch-differs, batch-same, batch-end, targets-joined}
use Rattle.readback.proofs.same_targets.Goals as goal
use Rattle.readback.proofs.same_targets.Goals.{After-min-k, Start}

-- the records of n targets, as the laws of batches have them
abbrev records : Plan → ℕ → List ℕ → List Record
records p = target_records p.mask p.area

joined : (s : Start) → let p = s.args.p in (j k : ℕ) (t : List ℕ) → records p (j + k) t ≡ records p j t ++ records p k (drop (j * p.each) t)
joined s = targets-joined s.args.p.mask s.args.p.each s.args.p.area s.requires.0.0

long : (p : Plan) (k : ℕ) (t : List ℕ) → length (record_bytes (records p k t)) ≡ k * record_length 4
long p = length-targets p.mask p.area

-- a batch: its targets are some of those left, and the window has room for them
few : (c : After-min-k) → let d = c.loop-done.done in let k = c.min-k.result in (d + k ≤ c.args.p.count) × (0 < k) × (k * record_length 4 ≤ window_length)
few c = let t = c.loop-done-test.true in (omega (arith, c.min-k.ensures, t), omega (arith, c.min-k.ensures, t), omega (arith, c.min-k.ensures))

-- they lie within, and so do their records
within : (c : After-min-k) → let d = c.loop-done.done in let k = c.min-k.result in let a = c.args in
    (d * a.p.each + k * a.p.each ≤ length a.t.now) × (d * record_length 4 + k * record_length 4 ≤ length a.x.now)
within c =
    let s = (goal.at.After-min-k c).Start in
    let p = s.args.p in
    (batch-within (records p) p.each (record_length 4) (joined s) (long p) s.args.t.now p.count _ _ (few c).0 p.each s.requires.0.1, omega (arith, (few c).0, s.requires.1))

pub loop-done-init : goal.loop-done-init
loop-done-init c =
    let p = c.args.p in
    let t = c.args.t.now in
    let e : p.count - 0 ≡ p.count = omega arith in
    let z : drop (0 * p.each) t ≡ t = ap (λ (n : ℕ). drop n t) (zero-mul p.each) in (
      omega arith,
      refl,
      ap₂ (λ (n : ℕ) (y : List ℕ). first_row (targets_rows p.mask p.area n y)) e z ∙ c.requires.2,
      ap₂ (λ (n : ℕ) (y : List ℕ). is_same (record_bytes (target_records p.mask p.area n y)) c.args.x.now) e z,
    )

pub overflow_mul-at : goal.overflow_mul-at
overflow_mul-at c = omega (arith, (within (goal.at.overflow_mul-at c).After-min-k).0)

pub overflow_mul-q : goal.overflow_mul-q
overflow_mul-q c = omega (arith, (within (goal.at.overflow_mul-q c).After-min-k).1)

pub overflow_mul-to : goal.overflow_mul-to
overflow_mul-to c = omega (arith, (within (goal.at.overflow_mul-to c).After-min-k).1)

pub overflow_add-to : goal.overflow_add-to
overflow_add-to c = omega (arith, (within (goal.at.overflow_add-to c).After-min-k).1)

pub slice_bounds-target_records-count : goal.slice_bounds-target_records-count
slice_bounds-target_records-count c = omega (arith, (within (goal.at.slice_bounds-target_records-count c).After-min-k).0)

pub slice_bounds-target_records-start : goal.slice_bounds-target_records-start
slice_bounds-target_records-start c = omega (arith, (within (goal.at.slice_bounds-target_records-start c).After-min-k).0)

pub slice_bounds-target_records-end : goal.slice_bounds-target_records-end
slice_bounds-target_records-end c = omega (arith, (within (goal.at.slice_bounds-target_records-end c).After-min-k).0)

pub target_records-requires : goal.target_records-requires
target_records-requires c =
    let l = c.loop-done in
    let s = (goal.at.target_records-requires c).Start in
    let p = s.args.p in
    let t = s.args.t.now in
    let k = c.min-k.result in
    let rows = batch-rows p.mask p.each p.area t p.count l.done k s.requires.0.0 (few (goal.at.target_records-requires c).After-min-k).0 l.invariant.2 in (
      (s.requires.0.0, rw (tail-is (l.done * p.each) t, length-drop) (omega (arith, (within (goal.at.target_records-requires c).After-min-k).0)), s.requires.0.2),
      omega (arith, (few (goal.at.target_records-requires c).After-min-k).2, l.invariant.1, s.told-window),
      ap (λ (y : List ℕ). first_row (targets_rows p.mask p.area k y)) (tail-is (l.done * p.each) t) ∙ rows.0,
    )

pub slice_bounds-is_front-end : goal.slice_bounds-is_front-end
slice_bounds-is_front-end c = omega (arith, (within (goal.at.slice_bounds-is_front-end c).After-min-k).1)

pub is_front-requires : goal.is_front-requires
is_front-requires c =
    simp length-take (omega (arith, (few (goal.at.is_front-requires c).After-min-k).2, c.loop-done.invariant.1, c.told-window, c.target_records.auto))

pub returns-then-not-is_front : goal.returns-then-not-is_front
returns-then-not-is_front c =
    let l = c.loop-done in
    let s = (goal.at.returns-then-not-is_front c).Start in
    let p = s.args.p in
    batch-differs (records p) p.each (record_length 4) (joined s) (long p) s.args.t.now p.count l.done c.min-k.result (few (goal.at.returns-then-not-is_front c).After-min-k).0 s.args.x.now l.window _ s.requires.1 (omega (arith, (few (goal.at.returns-then-not-is_front c).After-min-k).2, l.invariant.1, s.told-window)) c.target_records.ensures c.is_front.ensures c.if-not-is_front.true
    ∙ l.invariant.3

pub overflow_add-done : goal.overflow_add-done
overflow_add-done c = omega (arith, (few (goal.at.overflow_add-done c).After-min-k).0)

pub loop-done-smaller : goal.loop-done-smaller
loop-done-smaller c = let f = few (goal.at.loop-done-smaller c).After-min-k in omega (arith, f.0, f.1)

pub loop-done-preserved : goal.loop-done-preserved
loop-done-preserved c =
    let l = c.loop-done in
    let s = (goal.at.loop-done-preserved c).Start in
    let p = s.args.p in
    let t = s.args.t.now in
    let k = c.min-k.result in (
      (few (goal.at.loop-done-preserved c).After-min-k).0,
      omega (arith, c.target_records.auto, l.invariant.1),
      (batch-rows p.mask p.each p.area t p.count l.done k s.requires.0.0 (few (goal.at.loop-done-preserved c).After-min-k).0 l.invariant.2).1,
      batch-same (records p) p.each (record_length 4) (joined s) (long p) t p.count l.done k (few (goal.at.loop-done-preserved c).After-min-k).0 s.args.x.now l.window _ s.requires.1 (omega (arith, (few (goal.at.loop-done-preserved c).After-min-k).2, l.invariant.1, s.told-window)) c.target_records.ensures c.is_front.ensures c.if-not-is_front.false
          ∙ l.invariant.3,
    )

pub returns : goal.returns
returns c =
    let l = c.loop-done in
    let p = c.args.p in
    sym (batch-end (records p) p.each (record_length 4) (joined (goal.at.returns c).Start) (long p) (p.count - l.done) (l.done * record_length 4) _ c.args.x.now (omega arith) (omega (arith, c.requires.1))) ∙ l.invariant.3
