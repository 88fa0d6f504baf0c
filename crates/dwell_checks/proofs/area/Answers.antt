-- `dwell_checks::area` meets its contract. D10 and D11 stand behind D2 to D9, and D24 and D25 behind D2 to D23.
-- Assumes nothing.
use borrow.Author.Rules.{sfits_of}
use mathlib.Core.Path.{refl, ◌∙◌}
use Prim.Native.Nat.{◌+◌}
use native.Mathlib.Omega.{arith}
use lib.Dec.{lit≤, lit<}
use mir.Syntax.{w32}
use mir.Facts.{to_z-of_z}
use Rattle.octets.specs.Layout.{total}
use Rattle.mask.specs.Fields.{dwell_widths}
use Rattle.mask.specs.Mask.{is_required}
use Rattle.mask.specs.InnerFields.{widths}
use Rattle.mask.proofs.FullWidth.{announced-le}
use Rattle.mask.proofs.Places.{value_there, signed-there}
use Rattle.format.specs.Dwell.{D, D±, dwell_fields}
use Rattle.dwell_checks.proofs.Numbers.{field_room, field-read, field-signed, before-10, before-11, before-25, by_mask}
use Rattle.dwell_checks.proofs.Positions.{area-is}
use Rattle.dwell_checks.proofs.area.Goals as goal

pub i32_if-requires : goal.i32_if-requires
i32_if-requires c =
    let m = c.args.mask in
    (lit≤ tt, lit≤ tt, field_room m 2 10 dwell_widths (lit≤ tt) (lit< tt) c.args.b.now 8 31 (omega (arith, before-10 m c.requires.0.1)) c.requires.0.2)

pub u32_if-requires : goal.u32_if-requires
u32_if-requires c =
    let m = c.args.mask in
    (lit≤ tt, lit≤ tt, field_room m 2 11 dwell_widths (lit≤ tt) (lit< tt) c.args.b.now 8 (31 + c.width_if.result) (omega (arith, before-11 m c.requires.0.1)) c.requires.0.2)

pub get_i32-requires : goal.get_i32-requires
unfolding is_required
get_i32-requires c =
    field_room c.args.mask 2 24 dwell_widths (lit≤ tt) (lit< tt) c.args.b.now 8 c.args.at c.requires.1 c.requires.0.2 (c.requires.0.1 24 refl)

pub overflow_add-at : goal.overflow_add-at
unfolding total
overflow_add-at c =
    omega (arith, c.requires.1, announced-le c.args.mask 2 (widths 2 23))

pub get_u32-requires : goal.get_u32-requires
unfolding is_required
get_u32-requires c =
    let m = c.args.mask in
    field_room m 2 25 dwell_widths (lit≤ tt) (lit< tt) c.args.b.now 8 (c.args.at + 4) (omega (arith, c.requires.1, before-25 m c.requires.0.1)) c.requires.0.2 (c.requires.0.1 25 refl)

pub returns : goal.returns
unfolding is_required
returns c =
    let h = c.requires.0 in
    let m = c.args.mask in
    let b = c.args.b.now in
    let x = c.i32_if in
    let z = c.get_i32 in (
      area-is (dwell_fields b)
          (c.latitude_steps.ensures.0 ∙ to_z-of_z (sfits_of {w = w32} {z = x.result} x.type_inv)
          ∙ field-signed m 2 10 dwell_widths (lit≤ tt) (lit< tt) b 8 31 (omega (arith, before-10 m h.1)) x.ensures ∙ by_mask (D± 10) b m h.0)
          (field-read m 2 11 dwell_widths (lit≤ tt) (lit< tt) b 8 (31 + c.width_if.result) (omega (arith, before-11 m h.1)) c.u32_if.ensures ∙ by_mask (D 11) b m h.0)
          (c.latitude_steps-2.ensures.0 ∙ to_z-of_z (sfits_of {w = w32} {z = z.result} z.type_inv)
          ∙ signed-there m 2 24 dwell_widths (lit≤ tt) (lit< tt) b 8 c.args.at (h.1 24 refl) c.requires.1 z.ensures ∙ by_mask (D± 24) b m h.0)
          (value_there m 2 25 dwell_widths (lit≤ tt) (lit< tt) b 8 (c.args.at + 4) (h.1 25 refl) (omega (arith, c.requires.1, before-25 m h.1)) c.get_u32.ensures ∙ by_mask (D 25) b m h.0),
      (c.latitude_steps.ensures.1, c.latitude_steps-2.ensures.1),
    )
