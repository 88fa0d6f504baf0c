-- `dwell_checks::dwell_check` meets its contract. The rows of a dwell's body, in their order.
-- Assumes nothing.
use Prim.Native.Nat.{ℕ, ◌+◌, ◌*◌, ◌≤◌}
use native.Mathlib.Omega.{arith}
use mathlib.Core.Path.{◌≡◌, sym, ap, ap₂, ◌∙◌}
use mathlib.Core.Bool.{cond}
use borrow.Author.Tests.{lt-ltb, le-ltb, eq-eqb, ne_eqb}
use lib.ListN.{drop}
use Rattle.std.specs.Prelude.{List}
use Rattle.mask.specs.Fields.{announced, announced_length, dwell_widths}
use Rattle.mask.specs.Mask.{lowest_fault, new_in_mask}
use Rattle.mask.specs.InnerFields.{Required}
use Rattle.mask.proofs.Unfaulted.{required-announced}
use Rattle.format.specs.declared.Reading.{Reading}
use Rattle.format.specs.Check.{Check}
use Rattle.format.specs.Packet.{s2}
use Rattle.format.specs.Edition.{is_older}
use Rattle.format.specs.Dwell.{mask_of, target_count, target_length}
use Rattle.format.specs.Rows.{first_row, dwell_rows}
use Rattle.dwell_checks.proofs.Numbers.{most, split-24, required-length}
use Rattle.dwell_checks.proofs.Plans.{targets-within, right-size, wrong_size}
use Rattle.dwell_checks.proofs.dwell_check.Goals as goal
use Rattle.dwell_checks.proofs.dwell_check.Goals.{After-get_u64-mask, After-length_from_d24, After-lowest_fault-fault, After-new_field-new, After-target_length-each, Else-b-lt8, Else-fault-ne0, Else-new-ne0}

-- the mask
mask_is : (c : After-get_u64-mask) → c.get_u64-mask.result ≡ mask_of c.args.b.now
unfolding mask_of
mask_is c = c.get_u64-mask.ensures

-- the field that row 11 names
fault-is : (c : After-lowest_fault-fault) → let a = c.args in c.lowest_fault-fault.result ≡ lowest_fault a.r.version (mask_of a.b.now)
fault-is c = c.lowest_fault-fault.ensures ∙ ap (lowest_fault c.args.r.version) (mask_is (goal.at.After-lowest_fault-fault c).After-get_u64-mask)

-- where it names none, every required field is announced
required : (c : Else-fault-ne0) → Required (mask_of c.args.b.now)
required c =
    let a = c.args in
    required-announced a.r.version (mask_of a.b.now) (sym (fault-is (goal.at.Else-fault-ne0 c).After-lowest_fault-fault) ∙ c.if-fault-ne0.false)

-- the field that row 15 names
new_is : (c : After-new_field-new) → let a = c.args in c.new_field-new.result ≡ cond (is_older a.r) (new_in_mask (mask_of a.b.now)) 0
new_is c = let a = c.args in c.new_field-new.ensures ∙ ap (λ (m : ℕ). cond (is_older a.r) (new_in_mask m) 0) (mask_is (goal.at.After-new_field-new c).After-get_u64-mask)

-- the same of the mask as it was read
required-there : (c : Else-fault-ne0) → Required c.get_u64-mask.result
required-there c n q = ap (λ (m : ℕ). announced m n) (mask_is (goal.at.Else-fault-ne0 c).After-get_u64-mask) ∙ required c n q

-- the parts of the body before the targets, and where these start
abbrev start_of : After-length_from_d24 → ℕ
start_of c = 8 + c.length_before_d24-at.result + c.length_from_d24.result

start_is : (c : After-length_from_d24) → start_of c ≡ 8 + announced_length (mask_of c.args.b.now) 2 dwell_widths
start_is c =
    let m = c.get_u64-mask.result in
    let h = required-there (goal.at.After-length_from_d24 c).Else-fault-ne0 in
    let e : start_of c ≡ 8 + announced_length m 2 dwell_widths = omega (arith, c.length_before_d24-at.ensures.0, c.length_from_d24.ensures.0, split-24 m h) in
    e ∙ ap (λ (k : ℕ). 8 + announced_length k 2 dwell_widths) (mask_is (goal.at.After-length_from_d24 c).After-get_u64-mask)

-- the length that row 12 asks for
size_is : (c : After-target_length-each) → let b = c.args.b.now in
    start_of (goal.at.After-target_length-each c).After-length_from_d24 + c.target_count-count.result * c.target_length-each.result ≡ 8 + announced_length (mask_of b) 2 dwell_widths + target_count b * target_length (mask_of b)
size_is c =
    let each = c.target_length-each.ensures ∙ ap target_length (mask_is (goal.at.After-target_length-each c).After-get_u64-mask) in
    ap₂ (λ (m n : ℕ). m + n) (start_is (goal.at.After-target_length-each c).After-length_from_d24) (ap₂ (λ (m n : ℕ). m * n) c.target_count-count.ensures each)

-- and that it fits
size_fits : (c : After-target_length-each) → start_of (goal.at.After-target_length-each c).After-length_from_d24 + c.target_count-count.result * c.target_length-each.result ≤ 8 + 78 + 65535 * 36
size_fits c =
    let b = c.args.b.now in
    omega (arith, size_is c, most (mask_of b) (target_count b) (omega (arith, c.target_count-count.ensures)))

-- the first row that applies, of those from the k-th on
abbrev from : ℕ → Reading → List ℕ → Check
from k r b = first_row (drop k (dwell_rows r b))

-- row 9 does not apply
past-9 : (c : Else-b-lt8) → from 0 c.args.r c.args.b.now ≡ from 1 c.args.r c.args.b.now
unfolding first_row dwell_rows
past-9 c = rw (le-ltb (s2 c.args.b.now) 13 (omega arith))

-- nor does row 11
past-11 : (c : Else-fault-ne0) → from 0 c.args.r c.args.b.now ≡ from 2 c.args.r c.args.b.now
unfolding first_row dwell_rows
past-11 c =
    past-9 (goal.at.Else-fault-ne0 c).Else-b-lt8 ∙ rw (sym (fault-is (goal.at.Else-fault-ne0 c).After-lowest_fault-fault), eq-eqb c.lowest_fault-fault.result 0 c.if-fault-ne0.false)

-- nor row 15
past-15 : (c : Else-new-ne0) → from 0 c.args.r c.args.b.now ≡ from 3 c.args.r c.args.b.now
unfolding first_row dwell_rows
past-15 c = past-11 (goal.at.Else-new-ne0 c).Else-fault-ne0 ∙ rw (sym (new_is (goal.at.Else-new-ne0 c).After-new_field-new), eq-eqb c.new_field-new.result 0 c.if-new-ne0.false)

pub returns-then-b-lt8 : goal.returns-then-b-lt8
unfolding first_row dwell_rows
returns-then-b-lt8 c =
    c.row.ensures
    ∙ rw (lt-ltb (s2 c.args.b.now) 13 (omega arith))

pub returns-then-fault-ne0 : goal.returns-then-fault-ne0
unfolding first_row dwell_rows
returns-then-fault-ne0 c =
    c.naming.ensures
    ∙ sym (past-9 (goal.at.returns-then-fault-ne0 c).Else-b-lt8 ∙ rw (sym (fault-is (goal.at.returns-then-fault-ne0 c).After-lowest_fault-fault), ne_eqb c.lowest_fault-fault.result 0 c.if-fault-ne0.true))

pub returns-then-new-ne0 : goal.returns-then-new-ne0
unfolding first_row dwell_rows
returns-then-new-ne0 c =
    c.naming-then-new-ne0.ensures
    ∙ sym (past-11 (goal.at.returns-then-new-ne0 c).Else-fault-ne0 ∙ rw (sym (new_is (goal.at.returns-then-new-ne0 c).After-new_field-new), ne_eqb c.new_field-new.result 0 c.if-new-ne0.true))

pub overflow_add-at : goal.overflow_add-at
overflow_add-at c = omega (arith, c.length_before_d24-at.ensures.1)

pub overflow_add-start : goal.overflow_add-start
overflow_add-start c = omega (arith, c.length_before_d24-at.ensures.1, c.length_from_d24.ensures.1)

pub returns-then-b-start : goal.returns-then-b-start
unfolding first_row dwell_rows
returns-then-b-start c =
    let b = c.args.b.now in
    c.row-then-b-start.ensures
    ∙ sym (past-15 (goal.at.returns-then-b-start c).Else-new-ne0 ∙ rw (wrong_size b (required (goal.at.returns-then-b-start c).Else-fault-ne0) (λ e. absurd (omega (arith, start_is (goal.at.returns-then-b-start c).After-length_from_d24, c.if-b-start.true)))))

pub target_count-count-requires : goal.target_count-count-requires
target_count-count-requires c =
    let h = required (goal.at.target_count-count-requires c).Else-fault-ne0 in
    (h, omega (arith, required-length _ h, start_is (goal.at.target_count-count-requires c).After-length_from_d24))

pub overflow_mul-count : goal.overflow_mul-count
overflow_mul-count c = omega (arith, size_fits (goal.at.overflow_mul-count c).After-target_length-each)

pub overflow_add-start-2 : goal.overflow_add-start-2
overflow_add-start-2 c = omega (arith, size_fits (goal.at.overflow_add-start-2 c).After-target_length-each)

pub returns-then-b-start-2 : goal.returns-then-b-start-2
unfolding first_row dwell_rows
returns-then-b-start-2 c =
    let b = c.args.b.now in
    c.row-then-b-start-2.ensures
    ∙ sym (past-15 (goal.at.returns-then-b-start-2 c).Else-new-ne0 ∙ rw (wrong_size b (required (goal.at.returns-then-b-start-2 c).Else-fault-ne0) (λ e. c.if-b-start-2.true (e ∙ sym (size_is (goal.at.returns-then-b-start-2 c).After-target_length-each)))))

pub plan_by-requires : goal.plan_by-requires
plan_by-requires c =
    let m = c.get_u64-mask.result in
    let h = required-there (goal.at.plan_by-requires c).Else-fault-ne0 in
    let before = c.length_before_d24-at.ensures.0 in
    let start : start_of (goal.at.plan_by-requires c).After-length_from_d24 ≡ 8 + announced_length m 2 dwell_widths = omega (arith, before, c.length_from_d24.ensures.0, split-24 m h) in
    ((mask_is (goal.at.plan_by-requires c).After-get_u64-mask, h, omega (arith, start)), ap (λ (k : ℕ). 8 + k) before, start, c.target_length-each.ensures, c.target_count-count.ensures)

pub dwell_values-requires : goal.dwell_values-requires
dwell_values-requires c =
    let b = c.args.b.now in
    let h = required (goal.at.dwell_values-requires c).Else-fault-ne0 in
    let p = c.plan_by in
    (h, p.ensures.0, p.ensures.1, targets-within b h p.result p.ensures.0 (c.if-b-start-2.false ∙ size_is (goal.at.dwell_values-requires c).After-target_length-each))

pub returns : goal.returns
unfolding first_row dwell_rows
returns c =
    sym (past-15 (goal.at.returns c).Else-new-ne0 ∙ rw (right-size c.args.b.now (required (goal.at.returns c).Else-fault-ne0) (c.if-b-start-2.false ∙ size_is (goal.at.returns c).After-target_length-each)) (sym (c.dwell_values.ensures c.args.r)))

pub length_before_d24-at-requires : goal.length_before_d24-at-requires
length_before_d24-at-requires c = required-there (goal.at.length_before_d24-at-requires c).Else-fault-ne0

pub length_from_d24-requires : goal.length_from_d24-requires
length_from_d24-requires c = required-there (goal.at.length_from_d24-requires c).Else-fault-ne0
