-- `dwell_checks::dwell_values` meets its contract. The rows 13 of the dwell, in their order, and then those of its targets.
-- Assumes nothing.
use mathlib.Core.Path.{◌≡◌, sym, ap, ◌∙◌}
use mathlib.Core.Bool.{false}
use mathlib.Core.List.{List}
use Prim.Native.Nat.{ℕ}
use native.Mathlib.Omega.{arith}
use borrow.Author.Tests.{lt-ltb, le-ltb}
use lib.Dec.{ltb}
use lib.ListN.{get_or}
use Rattle.mask.specs.Mask.{is_placed}
use Rattle.format.specs.Dwell.{dwell_fields, targets_of, D}
use Rattle.format.specs.Rows.{first_row, targets_rows, dwell_rows}
use Rattle.dwell_checks.specs.declared.Plan.{Plan}
use Rattle.dwell_checks.proofs.Numbers.{required-length, d4-is}
use Rattle.dwell_checks.proofs.Plans.{targets_are, targets-there}
use Rattle.dwell_checks.proofs.dwell_values.Goals as goal
use Rattle.dwell_checks.proofs.dwell_values.Goals.{Else-b-gt1, else-p-gt0-via-then-p-gt0+else-not-is_placed, else-p-gt0-via-else-p-gt0}

-- D4 is not above 1
d4-right : (c : Else-b-gt1) → ltb 1 (D 4 (dwell_fields c.args.b.now)) ≡ false
d4-right c =
    let b = c.args.b.now in
    rw (sym (d4-is b c.requires.0)) (le-ltb 1 (get_or b 12 0) c.if-b-gt1.false)

pub bounds-b-12 : goal.bounds-b-12
bounds-b-12 c = let h = c.requires in omega (arith, required-length _ h.0, ap (λ (q : Plan). q.start) h.1, h.3)

pub returns-then-b-gt1 : goal.returns-then-b-gt1
unfolding first_row dwell_rows
returns-then-b-gt1 c = λ r.
    let b = c.args.b.now in
    c.naming.ensures
    ∙ rw (sym (d4-is b c.requires.0), lt-ltb 1 (get_or b 12 0) c.if-b-gt1.true)

pub returns-then-not-is_placed : goal.returns-then-not-is_placed
unfolding first_row dwell_rows
returns-then-not-is_placed c = λ r.
    let e = c.requires.1 in
    c.naming-then-not-is_placed.ensures
    ∙ rw (d4-right (goal.at.returns-then-not-is_placed c).Else-b-gt1, sym (ap (λ (q : Plan). q.count) e), lt-ltb 0 c.args.p.count c.if-p-gt0.true, sym (ap (λ (q : Plan). q.mask) e), sym c.is_placed.ensures ∙ c.if-not-is_placed.true)

pub targets_check-requires : goal.targets_check-requires
targets_check-requires c =
    targets-there c.args.b.now c.args.p c.requires.1 c.requires.2 c.requires.3

pub returns : goal.returns
unfolding first_row dwell_rows
returns c = λ r.
    let p = c.args.p in
    let b = c.args.b.now in
    let e = c.requires.1 in
    let some = sym (ap (λ (q : Plan). ltb 0 q.count) e) in
    let placed = sym (ap (λ (q : Plan). is_placed q.mask) e) in
    let rest =
    c.targets_check.ensures
    ∙ ap (λ (t : List ℕ). first_row (targets_rows p.mask p.area p.count t)) (targets_are b p e)
    ∙ ap (λ (q : Plan). first_row (targets_rows q.mask q.area q.count (targets_of b))) e in
    rw (d4-right (goal.at.returns c).Else-b-gt1)
    (elim c.else-p-gt0.branch [
      | else-p-gt0-via-then-p-gt0+else-not-is_placed w ↦
          rw (some ∙ lt-ltb 0 p.count w.if-p-gt0.true, placed ∙ sym w.is_placed.ensures ∙ w.if-not-is_placed.false) rest
      | else-p-gt0-via-else-p-gt0 w ↦ rw (some ∙ le-ltb 0 p.count w.if-p-gt0.false) rest
    ])
