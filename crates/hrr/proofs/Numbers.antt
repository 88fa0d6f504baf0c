-- The numbers that tell the scatterers, read where they stand: at full widths, or among the announced fields of a body.
-- Assumes nothing.
use mathlib.Core.Path.{◌≡◌, refl, sym, ap, ap₂, ◌∙◌}
use mathlib.Core.Bool.{Bool, true, false, cond, and-eq-true_iff}
use mathlib.Core.List.{List}
use Prim.Native.Nat.{ℕ, ◌+◌, ◌*◌, ◌≤◌, ◌<◌}
use native.Mathlib.Nat.{le_refl}
use native.Mathlib.Omega.{arith}
use lib.Dec.{lit≤, lit<}
use lib.ListN.{length, get_or, drop}
use lib.Seq.{drop-drop}
use Rattle.octets.specs.Octets.{be}
use Rattle.octets.specs.Layout.{width}
use Rattle.octets.proofs.Laws.{one_byte}
use Rattle.mask.specs.Fields.{announced, taken, announced_length, full_fields}
use Rattle.mask.specs.Mask.{is_in}
use Rattle.mask.proofs.Places.{announced_before, value-full, value_there, field-within}
use Rattle.mask.proofs.FullWidth.{announced-append}
use Rattle.hrr.specs.Hrr.{mandatory, all_set, is_hrr_mask, hrr_widths, H, counted, scatterer_count}
use Rattle.hrr.specs.InnerScatterers.{widths, number_if}
use Rattle.hrr.proofs.Words.{each_set}

-- a field takes no more bytes than it has
pub taken-most : (mask n w : ℕ) → taken mask n w ≤ w
taken-most mask n w = go (announced mask n)
  where
    go : (t : Bool) → cond t w 0 ≤ w
    go true = le_refl w
    go false = omega arith

-- a choice made twice is made once
again : (t : Bool) (x y : ℕ) → cond t (cond t x 0) y ≡ cond t x y
again true x y = refl
again false x y = refl

-- the count by the three numbers, of which an absent one is 0
pub count-is : (mask : ℕ) (f : List ℕ) {h6 h7 h8 n : ℕ} → h6 ≡ counted mask 6 f → h7 ≡ counted mask 7 f → h8 ≡ counted mask 8 f
    → n ≡ cond (announced mask 6) h6 (h7 * h8) → n ≡ scatterer_count mask f
unfolding scatterer_count
count-is mask f {h6} {h7} {h8} e6 e7 e8 e =
    e ∙ ap₂ (cond (announced mask 6)) e6 (ap₂ ◌*◌ e7 e8) ∙ again (announced mask 6) (H 6 f) (counted mask 7 f * counted mask 8 f)

-- the announced fields of a body whose bytes begin with the mask
module _ (mask : ℕ) (b : List ℕ) where
  abbrev F : List ℕ
  F = full_fields mask 2 hrr_widths (drop 5 b)

  -- a number of two bytes at its place
  module _ (n at : ℕ) (lo : 2 ≤ n) (hi : n < 32) (two : width 2 hrr_widths n ≡ 2) (place : at ≡ 5 + announced_before mask 2 hrr_widths n) where
    pub number-room : 5 + announced_length mask 2 hrr_widths ≤ length b → announced mask n ≡ true → at + 2 ≤ length b
    number-room h e = omega (arith, field-within mask 2 n hrr_widths lo hi e)

    pub number_is : {r : ℕ} → r ≡ number_if mask n at b → r ≡ counted mask n F
    number_is e =
        e
        ∙ ap (λ (i : ℕ). number_if mask n i b) place
        ∙ ap (λ (l : List ℕ). cond (announced mask n) (be 2 l) 0) (sym (drop-drop (announced_before mask 2 hrr_widths n) 5 b))
        ∙ sym (again (announced mask n) (be 2 (drop (announced_before mask 2 hrr_widths n) (drop 5 b))) 0)
        ∙ ap (λ (w : ℕ). cond (announced mask n) (cond (announced mask n) (be w (drop (announced_before mask 2 hrr_widths n) (drop 5 b))) 0) 0) (sym two)
        ∙ ap (λ (v : ℕ). cond (announced mask n) v 0) (sym (value-full mask 2 n hrr_widths lo hi (drop 5 b)))

  -- H25 and H26, each of one byte, which every mask announces that row 21 lets pass
  module _ (m : is_hrr_mask mask ≡ true) (at : ℕ) (place : at ≡ 5 + announced_length mask 2 (widths 2 24)) where
    mandatory-set : all_set mask mandatory ≡ true
    unfolding is_hrr_mask
    mandatory-set = ((and-eq-true_iff _ _).0 m).0

    h25-set : announced mask 25 ≡ true
    unfolding is_in
    h25-set = each_set mask 25 mandatory mandatory-set refl

    h26-set : announced mask 26 ≡ true
    unfolding is_in
    h26-set = each_set mask 26 mandatory mandatory-set refl

    next : at + 1 ≡ 5 + announced_before mask 2 hrr_widths 26
    unfolding announced_length
    next =
        let one : taken mask 25 1 ≡ 1 = rw h25-set in
        omega (arith, place, one, announced-append mask 2 (widths 2 24) (widths 25 25))

    pub h25-room : 5 + announced_length mask 2 hrr_widths ≤ length b → at + 1 < length b
    h25-room h = omega (arith, next, field-within mask 2 26 hrr_widths (lit≤ tt) (lit< tt) h26-set)

    pub h25-is : get_or b at 0 ≡ H 25 F
    h25-is = value_there mask 2 25 hrr_widths (lit≤ tt) (lit< tt) b 5 at h25-set place (sym (one_byte at b))

    pub h26-is : get_or b (at + 1) 0 ≡ H 26 F
    h26-is = value_there mask 2 26 hrr_widths (lit≤ tt) (lit< tt) b 5 (at + 1) h26-set next (sym (one_byte (at + 1) b))
