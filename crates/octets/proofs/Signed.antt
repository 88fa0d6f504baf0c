-- Two's complement at every width: what the machine's signed numbers have to do with `twos` and `signed_bytes`, and that the two undo each other.
-- Assumes nothing.
use mathlib.Core.Path.{◌≡◌, refl, sym, ap, ◌∙◌}
use mathlib.Core.Bool.{Bool, true, false, cond}
use mathlib.Core.List.{List, ◌++◌}
use Prim.Native.Nat.{ℕ, suc, ◌-◌, ◌/◌, ◌%◌, ◌^◌, ◌≤◌, ◌<◌}
use native.Mathlib.Nat.{mod-eq_of_lt}
use native.Mathlib.Omega.{arith}
use borrow.Author.Tests.{lt-ltb, le-ltb}
use lib.Dec.{ltb}
use lib.IntN.{ℤ, pos, negsuc}
use lib.ListN.{length, take}
use lib.Signed.{mag}
use mir.Syntax.{Width}
use mir.Val.{SFits, bits, hbits, sel, to_z, of_z}
use mir.ValLaws.{pow-bits}
use mir.Facts.{to_z-of_z}
use Rattle.octets.specs.Octets.{be, bytes, twos, signed, signed_bytes, Bytes}
use Rattle.octets.proofs.Laws.{be-lt, be-bytes, bytes-be}

-- The machine holds a signed number of w bits as its bits, read by `to_z w` and made by `of_z w`. Where w bits are k bytes, these are `twos` and `signed_bytes`.
module _ (k : ℕ) (w : Width) (same : 256 ^ k ≡ 2 ^ bits w) where
  -- the bits read
  pub twos-is : (n : ℕ) → twos k n ≡ to_z w n
  unfolding twos
  twos-is n =
      let half : 256 ^ k / 2 ≡ 2 ^ hbits w = omega (arith, pow-bits w) in
      rw (half, same) (pick (ltb n (2 ^ hbits w)))
    where
      pick : (t : Bool) → cond t (pos n) (negsuc (2 ^ bits w - suc n)) ≡ sel t (pos n) (negsuc (2 ^ bits w - suc n))
      pick true = refl
      pick false = refl

  -- the bits written, as bytes
  pub signed-bytes : (z : ℤ) → bytes k (of_z w z) ≡ signed_bytes k z
  unfolding signed_bytes
  signed-bytes (pos n) = refl
  signed-bytes (negsuc n) = ap (λ (m : ℕ). bytes k (m - suc n)) (sym same)

  -- also where the machine handed the number on as its bits, which say the same as long as it fits
  pub signed_written : (z : ℤ) → SFits w z → bytes k (of_z w (to_z w (of_z w z))) ≡ signed_bytes k z
  signed_written z f = rw (to_z-of_z f) (signed-bytes z)

-- reading back the bytes of a signed number that k bytes hold gives the number; `mag z` is n both for n and for -(n + 1)
pub signed_back : (k : ℕ) (z : ℤ) (r : List ℕ) → mag z < 256 ^ k / 2 → signed k (signed_bytes k z ++ r) ≡ z
unfolding signed signed_bytes twos
signed_back k (pos n) r h =
    let e : n % 256 ^ k ≡ n = mod-eq_of_lt (omega arith) in
    rw (be-bytes k n r, e, lt-ltb n (256 ^ k / 2) h)
signed_back k (negsuc n) r h =
    let e : (256 ^ k - suc n) % 256 ^ k ≡ 256 ^ k - suc n = mod-eq_of_lt (omega arith) in
    let b : 256 ^ k / 2 ≤ 256 ^ k - suc n = omega arith in
    rw (be-bytes k (256 ^ k - suc n) r, e, le-ltb (256 ^ k - suc n) (256 ^ k / 2) b) (ap negsuc (omega arith))

-- the bytes of the signed number that was read are those that were there
pub bytes_signed : (k : ℕ) (s : List ℕ) → k ≤ length s → Bytes s → signed_bytes k (signed k s) ≡ take k s
unfolding signed signed_bytes twos
bytes_signed k s l h = pick (ltb (be k s) (256 ^ k / 2)) ∙ bytes-be k s l h
  where
    pick : (t : Bool) → signed_bytes k (cond t (pos (be k s)) (negsuc (256 ^ k - suc (be k s)))) ≡ bytes k (be k s)
    pick true = refl
    pick false = ap (bytes k) (omega (arith, be-lt k s h))
