-- Division toward zero of a number moved half a divisor away from zero is rounding to the nearest, a half away from zero.
-- Assumes nothing.
use mathlib.Core.Path.{◌≡◌, sym, ap, ap₂, ◌∙◌, subst}
use Prim.Native.Nat.{ℕ, suc, ◌+◌, ◌*◌, ◌/◌, ◌^◌, ◌≤◌, ◌<◌}
use native.Mathlib.Nat.{le_refl, div-add-mod, mod-lt}
use native.Mathlib.Omega.{arith}
use borrow.Author.Tests.{eq-eqb, ne_eqb}
use lib.IntN.{ℤ, pos, negsuc, neg_ℤ, nat_abs, ◌+ℤ◌, ◌*ℤ◌}
use lib.Signed.{quot_z}
use mir.Syntax.{w32, w64}
use mir.Val.{SFits, to_z, of_z}
use mir.Facts.{to_z-of_z}
use Rattle.position.proofs.Size.{abs-negℤ, abs-add, mul-sized, sized}
use Rattle.position.specs.Position.{nearest, rounded, latitude_micro, full_circle, longitude_micro}
use Rattle.position.specs.InnerHalf.{half_away}

-- the division is toward zero, so with half a divisor of the number's own sign it rounds
pub round-away : (z : ℤ) → quot_z (z +ℤ half_away z) (pos 16777216) ≡ rounded z (2 ^ 24)
unfolding rounded nearest half_away
round-away (pos n) = ap pos (omega arith)
round-away (negsuc n) =
    let e : suc (suc (n + 8388607)) / 16777216 ≡ (2 * suc n + 2 ^ 24) / (2 * 2 ^ 24) = omega arith in
    ap (λ (m : ℕ). neg_ℤ (pos m)) e

-- what the half adds to the size
half-sized : (z : ℤ) → nat_abs (half_away z) ≤ 8388608
unfolding half_away
half-sized (pos n) = omega arith
half-sized (negsuc n) = omega arith

-- what the definition says: the quotient is within half a divisor, and at a half it is the one further from zero
pub nearest-is : (a d : ℕ) → 0 < d → (2 * d * nearest a d ≤ 2 * a + d) × (2 * a + d < 2 * d * nearest a d + 2 * d)
unfolding nearest
nearest-is a d h = omega (arith, div-add-mod (2 * a + d) (2 * d), mod-lt (2 * a + d) {m = 2 * d} (omega arith))

-- what rounding a product asks of 64 bits
pub scale-fits : (x : ℤ) → nat_abs x ≤ 2 ^ 31 → SFits w64 x × SFits w64 (x *ℤ pos 703125) × SFits w64 (half_away (x *ℤ pos 703125)) × SFits w64 (x *ℤ pos 703125 +ℤ half_away (x *ℤ pos 703125)) × SFits w64 (rounded (x *ℤ pos 703125) (2 ^ 24)) × SFits w32 (rounded (x *ℤ pos 703125) (2 ^ 24))
unfolding rounded nearest
scale-fits x h =
    let p = mul-sized (2 ^ 31) 703125 x (pos 703125) h (le_refl 703125) in
    let q = half-sized (x *ℤ pos 703125) in (
      sized {w = w64} (omega arith),
      sized {w = w64} (omega arith),
      sized {w = w64} (omega arith),
      sized {w = w64} (omega (arith, abs-add (x *ℤ pos 703125) (half_away (x *ℤ pos 703125)))),
      sized {w = w64} (omega (arith, round-sized (x *ℤ pos 703125) p)),
      sized {w = w32} (omega (arith, round-sized (x *ℤ pos 703125) p)),
    )
  where
    round-sized : (z : ℤ) → nat_abs z ≤ 2 ^ 31 * 703125 → nat_abs (rounded z (2 ^ 24)) ≤ 90000000
    round-sized (pos n) h = omega arith
    round-sized (negsuc n) h = omega (arith, abs-negℤ (pos ((2 * suc n + 2 ^ 24) / (2 * 2 ^ 24))))

-- a longitude: half a divisor more, rounded down
whole : (n : ℕ) → nearest (n * 703125) (2 ^ 23) ≡ (n * 703125 + 4194304) / 8388608
unfolding nearest
whole n = omega arith

-- a full circle is 0, and every other number itself
pub full-circle : (n : ℕ) → (n * 703125 + 4194304) / 8388608 ≡ 360000000 → 0 ≡ longitude_micro n
unfolding longitude_micro full_circle
full-circle n h = rw (whole n, eq-eqb _ _ h)

pub within-circle : (n : ℕ) → ((n * 703125 + 4194304) / 8388608 ≡ 360000000 → ⊥) → (n * 703125 + 4194304) / 8388608 ≡ longitude_micro n
unfolding longitude_micro full_circle
within-circle n h = rw (whole n, ne_eqb _ _ h)

-- a number that went through 64 bits and fits 32
pub narrowed : {z : ℤ} → SFits w64 z → SFits w32 z → SFits w32 (to_z w64 (of_z w64 z))
narrowed f g = subst (λ (y : ℤ). SFits w32 y) (sym (to_z-of_z {w = w64} f)) g

pub narrow_back : {z : ℤ} → SFits w64 z → SFits w32 z → to_z w32 (of_z w32 (to_z w64 (of_z w64 z))) ≡ z
narrow_back f g = ap (λ (y : ℤ). to_z w32 (of_z w32 y)) (to_z-of_z {w = w64} f) ∙ to_z-of_z {w = w32} g

-- a number held in 64 bits
abbrev through : ℤ → ℤ
through z = to_z w64 (of_z w64 z)

-- The steps of `latitude_micro` on x, with h for what `half` gave: each number goes through 64 bits, and comes back since it fits.
module _ (x h : ℤ) (size : nat_abs x ≤ 2 ^ 31) (fits : SFits w64 h) (e : h ≡ half_away (through (through x *ℤ pos 703125))) where
  product : through (through x *ℤ pos 703125) ≡ x *ℤ pos 703125
  product = let (x64, y64, h64, s64, r64, r32) = scale-fits x size in ap (λ (z : ℤ). through (z *ℤ pos 703125)) (to_z-of_z {w = w64} x64) ∙ to_z-of_z {w = w64} y64

  sum : through (through x *ℤ pos 703125) +ℤ through h ≡ x *ℤ pos 703125 +ℤ half_away (x *ℤ pos 703125)
  sum = ap₂ ◌+ℤ◌ product (to_z-of_z {w = w64} fits ∙ e ∙ ap half_away product)

  quotient : quot_z (through (through (through x *ℤ pos 703125) +ℤ through h)) (pos 16777216) ≡ rounded (x *ℤ pos 703125) (2 ^ 24)
  quotient =
      let (x64, y64, h64, s64, r64, r32) = scale-fits x size in
      ap (λ (z : ℤ). quot_z z (pos 16777216)) (ap through sum ∙ to_z-of_z {w = w64} s64) ∙ round-away (x *ℤ pos 703125)

  pub sum_fits : SFits w64 (through (through x *ℤ pos 703125) +ℤ through h)
  sum_fits = let (x64, y64, h64, s64, r64, r32) = scale-fits x size in subst (λ (z : ℤ). SFits w64 z) (sym sum) s64

  pub quotient_fits : SFits w64 (quot_z (through (through (through x *ℤ pos 703125) +ℤ through h)) (pos 16777216))
  quotient_fits = let (x64, y64, h64, s64, r64, r32) = scale-fits x size in subst (λ (z : ℤ). SFits w64 z) (sym quotient) r64

  pub result_fits : SFits w32 (through (quot_z (through (through (through x *ℤ pos 703125) +ℤ through h)) (pos 16777216)))
  result_fits = let (x64, y64, h64, s64, r64, r32) = scale-fits x size in subst (λ (z : ℤ). SFits w32 (through z)) (sym quotient) (narrowed r64 r32)

  pub result-is : to_z w32 (of_z w32 (through (quot_z (through (through (through x *ℤ pos 703125) +ℤ through h)) (pos 16777216)))) ≡ latitude_micro x
  unfolding latitude_micro
  result-is = let (x64, y64, h64, s64, r64, r32) = scale-fits x size in ap (λ (z : ℤ). to_z w32 (of_z w32 (through z))) quotient ∙ narrow_back r64 r32
