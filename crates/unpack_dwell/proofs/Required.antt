-- The required fields of a dwell are announced together.
-- Assumes nothing.
use mathlib.Core.Path.{◌≡◌, refl}
use mathlib.Core.Bool.{true}
use Prim.Native.Nat.{ℕ}
use Rattle.mask.specs.InnerFields.{widths}
use Rattle.mask.specs.Mask.{is_required}
use Rattle.mask.specs.InnerFields.{Required}
use Rattle.unpack.proofs.Together.{all_set}

pub all-2-to-9 : (mask : ℕ) → Required mask → all_set mask 2 (widths 2 9) ≡ true
unfolding is_required
all-2-to-9 mask h = rw (h 2 refl, h 3 refl, h 4 refl, h 5 refl, h 6 refl, h 7 refl, h 8 refl, h 9 refl)

pub all-24-to-27 : (mask : ℕ) → Required mask → all_set mask 24 (widths 24 27) ≡ true
unfolding is_required
all-24-to-27 mask h = rw (h 24 refl, h 25 refl, h 26 refl, h 27 refl)
