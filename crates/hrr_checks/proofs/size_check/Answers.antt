-- `hrr_checks::size_check` meets its contract. The announced fields are there, the widths are right, and the product of counts and widths is what
-- is left.
-- Assumes nothing.
use mathlib.Core.Path.{◌≡◌, sym, ap, ap₂, ◌∙◌}
use mathlib.Core.Bool.{Bool, not, ◌&&◌}
use mathlib.Core.List.{List}
use Prim.Native.Nat.{ℕ, ◌+◌, ◌*◌, ◌≤◌, ◌<◌}
use native.Mathlib.Nat.{mul-le-mul}
use native.Mathlib.Omega.{arith}
use lib.Dec.{ltb}
use lib.ListN.{length, drop}
use Rattle.octets.specs.Octets.{between}
use Rattle.octets.specs.Layout.{total}
use Rattle.mask.specs.Fields.{announced_length, full_fields}
use Rattle.hrr.specs.Hrr.{hrr_mask, hrr_widths, hrr_fields, H, scatterer_count, scatterer_widths}
use Rattle.hrr.specs.InnerScatterers.{widths, widths_of, scatterers_of}
use Rattle.hrr.specs.declared.Scatterers.{Scatterers}
use Rattle.hrr.proofs.Numbers.{h25-room, h25-is, h26-is}
use Rattle.hrr_checks.proofs.Sizes.{wrong_size, wrong-widths, right-size}
use Rattle.hrr_checks.proofs.size_check.Goals as goal
use Rattle.hrr_checks.proofs.size_check.Goals.{After-are_widths, After-each_of, After-fields_length-start, After-length_before_h25-at, Else-b-start}

-- where the scatterers start
start_is : (c : After-fields_length-start) → 5 + c.fields_length-start.result ≡ 5 + announced_length (hrr_mask c.args.b.now) 2 hrr_widths
start_is c = omega (arith, c.fields_length-start.ensures.0 ∙ ap (λ (k : ℕ). announced_length k 2 hrr_widths) c.requires.0)

pub returns-then-b-start : goal.returns-then-b-start
returns-then-b-start c =
    c.row.ensures
    ∙ wrong_size c.args.b.now (λ e. absurd (omega (arith, start_is (goal.at.returns-then-b-start c).After-fields_length-start, c.if-b-start.true)))

-- the announced fields are there
has-fields : (c : Else-b-start) → 5 + announced_length c.args.mask 2 hrr_widths ≤ length c.args.b.now
has-fields c = omega (arith, c.fields_length-start.ensures.0, c.if-b-start.false)

-- where H25 and H26 stand
place : (c : After-length_before_h25-at) → 5 + c.length_before_h25-at.result ≡ 5 + announced_length c.args.mask 2 (widths 2 24)
place c = omega (arith, c.length_before_h25-at.ensures.0)

room : (c : After-length_before_h25-at) → 5 + c.length_before_h25-at.result + 1 < length c.args.b.now
room c =
    h25-room c.args.mask c.args.b.now c.requires.1 _ (place c) (has-fields (goal.at.After-length_before_h25-at c).Else-b-start)

pub bounds-b-at : goal.bounds-b-at
bounds-b-at c = omega (arith, room (goal.at.bounds-b-at c).After-length_before_h25-at)

pub bounds-b-at-2 : goal.bounds-b-at-2
bounds-b-at-2 c = room (goal.at.bounds-b-at-2 c).After-length_before_h25-at

-- what they say of row 22
widths-are : (c : After-are_widths) → let f = hrr_fields c.args.b.now in
    c.are_widths.result ≡ (between 1 2 (H 25 f) && not (ltb 2 (H 26 f)))
unfolding hrr_fields
widths-are c =
    let b = c.args.b.now in
    let tests : List ℕ → Bool = λ f. between 1 2 (H 25 f) && not (ltb 2 (H 26 f)) in
    c.are_widths.ensures
    ∙ rw (h25-is c.args.mask b c.requires.1 _ (place (goal.at.After-are_widths c).After-length_before_h25-at), h26-is c.args.mask b c.requires.1 _ (place (goal.at.After-are_widths c).After-length_before_h25-at))
    (ap (λ (k : ℕ). tests (full_fields k 2 hrr_widths (drop 5 b))) c.requires.0)

pub returns-then-not-are_widths : goal.returns-then-not-are_widths
returns-then-not-are_widths c =
    c.row-then-not-are_widths.ensures
    ∙ wrong-widths _ (sym (widths-are (goal.at.returns-then-not-are_widths c).After-are_widths) ∙ c.if-not-are_widths.true)

pub scatterers_in-s-requires : goal.scatterers_in-s-requires
scatterers_in-s-requires c =
    ((c.requires.0, c.requires.1, has-fields (goal.at.scatterers_in-s-requires c).Else-b-start), place (goal.at.scatterers_in-s-requires c).After-length_before_h25-at)

pub each_of-requires : goal.each_of-requires
each_of-requires c =
    let b = c.scatterers_in-s.ensures.1 in
    (b.0, b.1, b.2, b.3)

-- what the scatterers take, as row 22 counts it
product_is : (c : After-each_of) → let b = c.args.b.now in
    c.scatterers_in-s.result.count * c.each_of.result ≡ scatterer_count (hrr_mask b) (hrr_fields b) * total (scatterer_widths (hrr_mask b) (hrr_fields b))
unfolding scatterer_widths
product_is c =
    let b = c.args.b.now in
    let is = c.scatterers_in-s.ensures.0 ∙ ap (λ (k : ℕ). scatterers_of k (hrr_fields b)) c.requires.0 in
    ap (λ (n : ℕ). c.scatterers_in-s.result.count * n) c.each_of.ensures.0 ∙ ap (λ (x : Scatterers). x.count * total (widths_of x)) is

fits : (c : After-each_of) → c.scatterers_in-s.result.count * c.each_of.result ≤ 4294836225 * 1020
fits c = mul-le-mul c.scatterers_in-s.ensures.1.4 c.each_of.ensures.1

pub overflow_mul-s : goal.overflow_mul-s
overflow_mul-s c = omega (arith, fits (goal.at.overflow_mul-s c).After-each_of)

pub overflow_add-start-2 : goal.overflow_add-start-2
overflow_add-start-2 c = omega (arith, fits (goal.at.overflow_add-start-2 c).After-each_of, c.fields_length-start.ensures.1)

-- the size that it asks for
size_is : (c : After-each_of) → let b = c.args.b.now in
    5 + c.fields_length-start.result + c.scatterers_in-s.result.count * c.each_of.result
    ≡ 5 + announced_length (hrr_mask b) 2 hrr_widths + scatterer_count (hrr_mask b) (hrr_fields b) * total (scatterer_widths (hrr_mask b) (hrr_fields b))
size_is c = ap₂ ◌+◌ (start_is (goal.at.After-each_of c).After-fields_length-start) (product_is c)

pub returns-then-b-start-2 : goal.returns-then-b-start-2
returns-then-b-start-2 c =
    c.row-then-b-start-2.ensures
    ∙ wrong_size _ (λ e. c.if-b-start-2.true (e ∙ sym (size_is (goal.at.returns-then-b-start-2 c).After-each_of)))

pub returns : goal.returns
returns c =
    right-size _ (sym (widths-are (goal.at.returns c).After-are_widths) ∙ c.if-not-are_widths.false) (c.if-b-start-2.false ∙ size_is (goal.at.returns c).After-each_of)
