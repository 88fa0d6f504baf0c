-- `dwell_checks::latitude_of` meets its contract. The latitude of the target itself where it is announced, and the sum with its delta where it is not.
-- Assumes nothing.
use borrow.Author.Rules.{sfits_of}
use mathlib.Core.Path.{sym, ◌∙◌}
use lib.Dec.{lit≤, lit<}
use mir.Syntax.{w16, w32}
use mir.Facts.{to_z-of_z}
use Rattle.format.specs.Dwell.{target_fields}
use Rattle.dwell_checks.proofs.Numbers.{target-asked, target-signed}
use Rattle.dwell_checks.proofs.Positions.{latitude-there, latitude-summed}
use Rattle.dwell_checks.proofs.latitude_of.Goals as goal

pub i32_if-own-requires : goal.i32_if-own-requires
i32_if-own-requires c = target-asked c.args.mask 33 c.span.result c.args.t.now (lit≤ tt) (lit< tt) c.span.ensures.0 c.requires.0

pub i16_if-requires : goal.i16_if-requires
i16_if-requires c =
    target-asked c.args.mask 35 c.span-else-is_own.result c.args.t.now (lit≤ tt) (lit< tt) c.span-else-is_own.ensures.0 c.requires.0

pub returns-then-is_own : goal.returns-then-is_own
returns-then-is_own c =
    let at = c.span in
    let a = c.args in
    let r = c.i32_if-own in
    latitude-there a.mask a.area (target_fields a.mask a.t.now) (sym c.has-is_own.ensures ∙ c.if-is_own.true)
    (c.latitude_steps.ensures.0 ∙ to_z-of_z (sfits_of {w = w32} {z = r.result} r.type_inv) ∙ target-signed a.mask 33 at.result a.t.now (lit≤ tt) (lit< tt) at.ensures.0 r.ensures)

pub returns-else-is_own : goal.returns-else-is_own
returns-else-is_own c =
    let at = c.span-else-is_own in
    let a = c.args in
    let r = c.i16_if in
    latitude-summed a.mask a.area (target_fields a.mask a.t.now) (sym c.has-is_own.ensures ∙ c.if-is_own.false)
    (to_z-of_z (sfits_of {w = w16} {z = r.result} r.type_inv) ∙ target-signed a.mask 35 at.result a.t.now (lit≤ tt) (lit< tt) at.ensures.0 r.ensures) c.latitude_sum.ensures
