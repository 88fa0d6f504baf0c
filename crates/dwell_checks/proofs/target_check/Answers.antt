-- `dwell_checks::target_check` meets its contract. The four tests in turn, each of the number in its field.
-- Assumes nothing.
use borrow.Author.Rules.{sfits_of}
use borrow.Author.Tests.{lt-ltb, le-ltb}
use mathlib.Core.Path.{◌≡◌, refl, sym, ap, ◌∙◌}
use mathlib.Core.Bool.{Bool, cond}
use Prim.Native.Nat.{◌+◌}
use native.Mathlib.Omega.{arith}
use lib.Dec.{ltb, lit≤, lit<}
use lib.IntN.{ℤ, negsuc}
use lib.Signed.{lt_z}
use mir.Syntax.{w16}
use mir.Val.{to_z, of_z}
use mir.Facts.{to_z-of_z}
use Rattle.mask.specs.Fields.{announced_length}
use Rattle.mask.specs.InnerFields.{widths}
use Rattle.mask.proofs.FullWidth.{announced-append}
use Rattle.format.specs.Check.{Passed, Failed}
use Rattle.format.specs.Dwell.{target_fields, D32, D32±}
use Rattle.format.specs.Rows.{first_row, target_rows}
use Rattle.dwell_checks.proofs.Numbers.{target-asked, target-read, target-signed}
use Rattle.dwell_checks.proofs.Positions.{rows_are}
use Rattle.dwell_checks.proofs.target_check.Goals as goal
use Rattle.dwell_checks.proofs.target_check.Goals.{After-i16_if, After-is_out, After-span, After-span-2, After-u16_if, After-u8_if}

-- where D32.11 and D32.15 stand
place-11 : (c : After-span) → c.span-d32_6.result + c.span.result ≡ announced_length c.args.mask 32 (widths 32 41)
place-11 c = omega (arith, c.span-d32_6.ensures.0, c.span.ensures.0, announced-append c.args.mask 32 (widths 32 36) (widths 37 41))

place-15 : (c : After-span-2) → c.span-d32_6.result + c.span.result + c.span-2.result ≡ announced_length c.args.mask 32 (widths 32 45)
place-15 c = omega (arith, place-11 (goal.at.After-span-2 c).After-span, c.span-2.ensures.0, announced-append c.args.mask 32 (widths 32 41) (widths 42 45))

-- the tests are of what the callees gave
speed : (c : After-i16_if) → let a = c.args in lt_z (D32± 6 (target_fields a.mask a.t.now)) (negsuc 999) ≡ lt_z (to_z w16 (of_z w16 c.i16_if.result)) (negsuc 999)
speed c =
    let r = c.i16_if in
    let at = c.span-d32_6 in
    let a = c.args in
    ap (λ (z : ℤ). lt_z z (negsuc 999)) (sym (to_z-of_z (sfits_of {w = w16} {z = r.result} r.type_inv) ∙ target-signed a.mask 37 at.result a.t.now (lit≤ tt) (lit< tt) at.ensures.0 r.ensures))

probability : (c : After-u8_if) → let a = c.args in ltb 100 (D32 11 (target_fields a.mask a.t.now)) ≡ ltb 100 c.u8_if.result
probability c =
    let a = c.args in
    ap (ltb 100) (sym (target-read a.mask 42 _ a.t.now (lit≤ tt) (lit< tt) (place-11 (goal.at.After-u8_if c).After-span) c.u8_if.ensures))

error : (c : After-u16_if) → let a = c.args in ltb 5000 (D32 15 (target_fields a.mask a.t.now)) ≡ ltb 5000 c.u16_if.result
error c =
    let a = c.args in
    ap (ltb 5000) (sym (target-read a.mask 46 _ a.t.now (lit≤ tt) (lit< tt) (place-15 (goal.at.After-u16_if c).After-span-2) c.u16_if.ensures))

pub i16_if-requires : goal.i16_if-requires
i16_if-requires c =
    let at = c.span-d32_6 in
    target-asked c.args.mask 37 at.result c.args.t.now (lit≤ tt) (lit< tt) at.ensures.0 c.requires.0

pub returns-then-i16_if-ltminus1000 : goal.returns-then-i16_if-ltminus1000
returns-then-i16_if-ltminus1000 c =
    let a = c.args in
    c.naming.ensures
    ∙ sym (rows_are a.mask a.area a.t.now (speed (goal.at.returns-then-i16_if-ltminus1000 c).After-i16_if ∙ c.if-i16_if-ltminus1000.true) refl refl refl)

pub u8_if-requires : goal.u8_if-requires
u8_if-requires c =
    target-asked c.args.mask 42 _ c.args.t.now (lit≤ tt) (lit< tt) (place-11 (goal.at.u8_if-requires c).After-span) c.requires.0

pub returns-then-u8_if-gt100 : goal.returns-then-u8_if-gt100
returns-then-u8_if-gt100 c =
    let a = c.args in
    c.naming-then-u8_if-gt100.ensures
    ∙ sym (rows_are a.mask a.area a.t.now (speed (goal.at.returns-then-u8_if-gt100 c).After-i16_if ∙ c.if-i16_if-ltminus1000.false) (probability (goal.at.returns-then-u8_if-gt100 c).After-u8_if ∙ lt-ltb 100 c.u8_if.result c.if-u8_if-gt100.true) refl refl)

pub u16_if-requires : goal.u16_if-requires
u16_if-requires c =
    target-asked c.args.mask 46 _ c.args.t.now (lit≤ tt) (lit< tt) (place-15 (goal.at.u16_if-requires c).After-span-2) c.requires.0

pub returns-then-u16_if-gt5000 : goal.returns-then-u16_if-gt5000
returns-then-u16_if-gt5000 c =
    let a = c.args in
    c.naming-then-u16_if-gt5000.ensures
    ∙ sym (rows_are a.mask a.area a.t.now (speed (goal.at.returns-then-u16_if-gt5000 c).After-i16_if ∙ c.if-i16_if-ltminus1000.false) (probability (goal.at.returns-then-u16_if-gt5000 c).After-u8_if ∙ le-ltb 100 c.u8_if.result (omega arith)) (error (goal.at.returns-then-u16_if-gt5000 c).After-u16_if ∙ lt-ltb 5000 c.u16_if.result c.if-u16_if-gt5000.true) refl)

-- once D32.6, D32.11 and D32.15 are right the latitude decides
last : (c : After-is_out) → let a = c.args in first_row (target_rows a.mask a.area a.t.now) ≡ cond c.is_out.result (Failed 14 35) Passed
last c =
    let a = c.args in
    rows_are a.mask a.area a.t.now (speed (goal.at.After-is_out c).After-i16_if ∙ c.if-i16_if-ltminus1000.false) (probability (goal.at.After-is_out c).After-u8_if ∙ le-ltb 100 c.u8_if.result (omega arith)) (error (goal.at.After-is_out c).After-u16_if ∙ le-ltb 5000 c.u16_if.result (omega arith)) (sym c.is_out.ensures)

pub returns-then-is_out : goal.returns-then-is_out
returns-then-is_out c =
    c.naming-then-is_out.ensures
    ∙ sym (last (goal.at.returns-then-is_out c).After-is_out ∙ ap (λ (t : Bool). cond t (Failed 14 35) Passed) c.if-is_out.true)

pub returns : goal.returns
returns c = sym (last (goal.at.returns c).After-is_out ∙ ap (λ (t : Bool). cond t (Failed 14 35) Passed) c.if-is_out.false)
