-- `sheet_walk::with_scatterers` meets its contract. The record has the mask and all fields; what each scatterer takes is the sum of its widths.
-- Assumes nothing.
use mathlib.Core.Path.{ap, ◌∙◌}
use Prim.Native.Nat.{ℕ}
use native.Mathlib.Omega.{arith}
use Rattle.octets.specs.Layout.{total}
use Rattle.mask.specs.Fields.{announced_length}
use Rattle.hrr.specs.Hrr.{hrr_widths}
use Rattle.format.specs.Sheet.{body_length}
use Rattle.sheet_walk.proofs.Leads.{hrr-lead}
use Rattle.sheet_walk.proofs.with_scatterers.Goals as goal

pub mask_of-requires : goal.mask_of-requires
unfolding body_length
mask_of-requires c = omega arith

pub each_of-requires : goal.each_of-requires
each_of-requires c =
    let narrow = c.scatterers_behind-s.ensures.2 in
    (omega (arith, narrow.0), omega (arith, narrow.1), omega (arith, narrow.2), omega (arith, narrow.3))

pub returns : goal.returns
unfolding total
returns c =
    let d = c.fields_length.ensures in
    let few = c.scatterers_behind-s.ensures in record {
      bounded = (omega (arith, d.1), omega (arith, few.1), omega (arith, few.2));
      value = hrr-lead c.args.b.now c.requires _ _ c.scatterers_behind-s.result (d.0 ∙ ap (λ (k : ℕ). announced_length k 2 hrr_widths) c.mask_of.ensures) few.0 (omega (arith, c.each_of.ensures.0));
    }
