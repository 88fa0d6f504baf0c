-- What a longitude can come to: a sum is reduced to 32 bits, and in microdegrees every longitude stays below a full circle.
-- Assumes nothing.
use Prim.Native.Nat.{ℕ, ◌+◌, ◌*◌, ◌/◌, ◌^◌, ◌≤◌, ◌<◌}
use native.Mathlib.Omega.{arith}
use mathlib.Core.Path.{◌≡◌, refl}
use mathlib.Core.Bool.{Bool, true, false}
use borrow.Author.Tests.{eqb-true, eqb-false}
use lib.Dec.{eqb}
use lib.IntN.{ℤ, pos, negsuc}
use Rattle.position.specs.Position.{reduced, longitude_sum, longitude_micro}
use Rattle.position.proofs.Rounding.{full-circle, within-circle}

-- "reduced to 0 to 2^32−1"
reduced-below : (z : ℤ) → reduced z (2 ^ 32) < 2 ^ 32
unfolding reduced
reduced-below (pos a) = omega arith
reduced-below (negsuc a) = omega arith

-- so is every sum
pub sum_below : (delta : ℤ) (scale from : ℕ) → longitude_sum delta scale from < 2 ^ 32
unfolding longitude_sum
sum_below delta scale from = reduced-below _

-- 2^32 steps are 360000000 microdegrees, so fewer are rounded to no more, and "a longitude of 360000000 becomes 0"
pub micro-below : (n : ℕ) → n < 2 ^ 32 → longitude_micro n ≤ 359999999
micro-below n h = go (eqb m 360000000) refl
  where
    m : ℕ
    m = (n * 703125 + 4194304) / 8388608

    go : (t : Bool) → eqb m 360000000 ≡ t → longitude_micro n ≤ 359999999
    go true e = omega (arith, full-circle n (eqb-true m 360000000 e))
    go false e =
        let other = eqb-false m 360000000 e in
        omega (arith, other, within-circle n other)
