-- `sheet_walk::scatterers_behind` meets its contract. The fields stand behind the mask; each width is cut to two bytes.
-- Assumes nothing.
use mathlib.Core.Path.{◌≡◌, ap, ◌∙◌}
use Prim.Native.Nat.{ℕ, min}
use native.Mathlib.Omega.{arith}
use lib.ListN.{drop, length-drop}
use Rattle.octets.specs.Layout.{total}
use Rattle.octets.proofs.Parts.{tail-is}
use Rattle.mask.specs.Fields.{d32}
use Rattle.hrr.specs.declared.Scatterers.{Scatterers}
use Rattle.hrr.specs.Hrr.{hrr_mask, index_width}
use Rattle.hrr.specs.InnerScatterers.{scatterers_of, spelt_of}
use Rattle.hrr.proofs.Numbers.{taken-most}
use Rattle.format.specs.Sheet.{body_length}
use Rattle.sheet_walk.proofs.scatterers_behind.Goals as goal

-- the bytes that a number of this width takes when it is spelt
lower : (w : ℕ) → min w 2 ≡ min 2 w
lower w = omega arith

pub mask_of-requires : goal.mask_of-requires
unfolding body_length
mask_of-requires c = omega arith

pub slice_bounds-scatterers_of-count : goal.slice_bounds-scatterers_of-count
unfolding body_length
slice_bounds-scatterers_of-count c = omega (arith, c.requires)

pub slice_bounds-scatterers_of-start : goal.slice_bounds-scatterers_of-start
unfolding body_length
slice_bounds-scatterers_of-start c = omega (arith, c.requires)

pub scatterers_of-s-requires : goal.scatterers_of-s-requires
unfolding body_length total
scatterers_of-s-requires c = rw (tail-is 5 c.args.b.now, length-drop) (omega (arith, c.requires))

pub returns : goal.returns
returns c =
    let b = c.args.b.now in
    let mask = hrr_mask b in
    let s = c.scatterers_of-s.result in
    let m = c.min.ensures ∙ lower s.magnitude in
    let p = c.min-2.ensures ∙ lower s.phase in
    let r = c.min-3.ensures ∙ lower s.range in
    let d = c.min-4.ensures ∙ lower s.doppler in
    let is : c.scatterers_of-s.result ≡ scatterers_of (hrr_mask b) (drop 5 b) = c.scatterers_of-s.ensures.0 ∙ rw (c.mask_of.ensures, tail-is 5 b) in (
      rw (m, p, r, d) (ap spelt_of is),
      c.scatterers_of-s.ensures.1.4,
      (omega arith, omega arith, omega (arith, r, ap (λ (k : Scatterers). k.range) is, taken-most mask (d32 3) index_width), omega (arith, d, ap (λ (k : Scatterers). k.doppler) is, taken-most mask (d32 4) index_width)),
    )
