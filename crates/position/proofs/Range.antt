-- The range of a latitude, from -2^31 to 2^31, as a bound on the size.
-- Assumes nothing.
use mathlib.Core.Path.{◌≡◌}
use mathlib.Core.Bool.{true}
use Prim.Native.Nat.{◌+◌, ◌*◌, ◌^◌, ◌≤◌}
use native.Mathlib.Nat.{le_refl}
use native.Mathlib.Omega.{arith}
use borrow.Author.Tests.{leb-true, le-leb}
use lib.IntN.{ℤ, nat_abs, ◌+ℤ◌, ◌*ℤ◌}
use Rattle.position.specs.Position.{latitude_sum, is_latitude}
use Rattle.position.specs.InnerAlways.{is_always_latitude}
use Rattle.position.proofs.Size.{abs-add, mul-sized}

-- the size of a latitude
pub latitude-size : (z : ℤ) → is_latitude z ≡ true → nat_abs z ≤ 2 ^ 31
unfolding is_latitude
latitude-size z t = leb-true (nat_abs z) (2 ^ 31) t

-- no delta of 16 bits leads out of the range where one of the size 2^15, added with either sign, stays in it
pub always-latitude : (d s f : ℤ) → nat_abs d ≤ 2 ^ 15 → is_always_latitude s f ≡ true → is_latitude (latitude_sum d s f) ≡ true
unfolding is_latitude is_always_latitude
always-latitude d s f h t =
    le-leb (nat_abs (d *ℤ s +ℤ f)) (2 ^ 31)
    (omega (arith, leb-true (nat_abs s * 2 ^ 15 + nat_abs f) (2 ^ 31) t, abs-add (d *ℤ s) f, mul-sized (2 ^ 15) (nat_abs s) d s h (le_refl (nat_abs s))))
