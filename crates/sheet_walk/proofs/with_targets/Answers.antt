-- `sheet_walk::with_targets` meets its contract. A dwell's record is long enough to hold mask and D5.
-- Assumes nothing.
use native.Mathlib.Omega.{arith}
use mathlib.Core.Path.{◌∙◌}
use Rattle.octets.specs.Layout.{total}
use Rattle.mask.specs.Fields.{dwell_widths, target_widths}
use Rattle.mask.proofs.FullWidth.{announced-le}
use Rattle.format.specs.Sheet.{body_length}
use Rattle.sheet_walk.proofs.Leads.{dwell-lead}
use Rattle.sheet_walk.proofs.with_targets.Goals as goal

pub get_u64-mask-requires : goal.get_u64-mask-requires
unfolding body_length
get_u64-mask-requires c = omega arith

pub get_u16-targets-requires : goal.get_u16-targets-requires
unfolding body_length
get_u16-targets-requires c = omega arith

pub overflow_add-result : goal.overflow_add-result
unfolding total
overflow_add-result c = omega (arith, c.dwell_length.ensures, announced-le c.get_u64-mask.result 2 dwell_widths)

pub returns : goal.returns
unfolding total
returns c =
    let mask = c.get_u64-mask in
    let d = c.dwell_length.ensures in
    let u = c.target_length.ensures in record {
      bounded = omega (arith, d, u, announced-le mask.result 2 dwell_widths, announced-le mask.result 32 target_widths);
      value = dwell-lead c.args.b.now c.requires mask.result _ _ _ mask.ensures d (c.from.ensures ∙ c.get_u16-targets.ensures) u;
    }
