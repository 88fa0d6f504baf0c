-- `hrr_checks::scatterers_in` meets its contract. What the rows that do not apply say of the body.
-- Assumes nothing.
use mathlib.Core.Path.{refl, sym, ap, ◌∙◌}
use Prim.Native.Nat.{ℕ, ◌+◌}
use native.Mathlib.Omega.{arith}
use Rattle.mask.specs.Fields.{announced_length, d32}
use Rattle.hrr.specs.Hrr.{is_hrr_mask, hrr_widths, hrr_fields, index_width, scatterer_widths}
use Rattle.hrr.specs.InnerScatterers.{scatterers_of}
use Rattle.hrr.proofs.Numbers.{taken-most}
use Rattle.format.proofs.Hrr.{is-hrr, widths-narrow}
use Rattle.hrr_checks.proofs.scatterers_in.Goals as goal

pub mask_of-mask-requires : goal.mask_of-mask-requires
mask_of-mask-requires c = (is-hrr _ c.requires).masked

pub scatterers_in-requires : goal.scatterers_in-requires
scatterers_in-requires c =
    let m = c.mask_of-mask.ensures in
    let h = is-hrr c.args.b.now c.requires in (
      (m, ap is_hrr_mask m ∙ h.mask-passes, omega (arith, h.exact, ap (λ (k : ℕ). announced_length k 2 hrr_widths) m)),
      ap (λ (n : ℕ). 5 + n) c.length_before_h25.ensures.0,
    )

pub returns : goal.returns
unfolding scatterer_widths
returns c =
    let b = c.args.b.now in
    let m = c.mask_of-mask.ensures in
    let h = is-hrr b c.requires in
    let is = c.scatterers_in.ensures.0 ∙ ap (λ (k : ℕ). scatterers_of k (hrr_fields b)) m in
    let narrow = widths-narrow b h in
    record {
      value = (is, rw is (narrow.0, narrow.1.0, taken-most _ (d32 3) index_width, taken-most _ (d32 4) index_width), c.scatterers_in.ensures.1);
      headed = ((refl, h.mask-passes, omega (arith, h.exact)), rw is (sym h.exact));
    }
