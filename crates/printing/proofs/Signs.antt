-- The digits of a signed number: those of its absolute value, behind the sign of a negative one.
-- Assumes nothing.
use mathlib.Core.Path.{◌≡◌, refl}
use mathlib.Core.Bool.{true, false, true≢false}
use mathlib.Core.List.{List, ◌∷◌}
use Prim.Native.Nat.{ℕ, suc, ◌+◌, ◌^◌, ◌≤◌, ◌<◌}
use native.Mathlib.Omega.{arith}
use borrow.Author.Tests.{ltb-true}
use lib.Dec.{T, ltb}
use lib.IntN.{ℤ, pos, negsuc, nat_abs}
use lib.ListN.{length, set}
use lib.Signed.{non_neg, lt_z}
use mir.Syntax.{w32, w64}
use mir.Val.{Fits, SFits}
use Rattle.printing.specs.Printing.{decimal, signed_decimal}
use Rattle.printing.specs.InnerPut.{Put}
use Rattle.printing.proofs.Digits.{decimal-fits}
use Rattle.printing.proofs.Lines.{Laid, put-led}

-- what the code asks of a negative z
pub record Counted (z : ℤ) : Type 0 where
  pub fits : length (decimal (nat_abs z)) ≤ 20
  pub is : signed_decimal z ≡ 45 ∷ decimal (nat_abs z)

none_below : (n : ℕ) → ltb n 0 ≡ true → ⊥
none_below n t = omega (arith, ltb-true)

pub counted : (z : ℤ) → SFits w32 z → lt_z z (pos 0) ≡ true → Counted z
unfolding signed_decimal
counted (pos n) f t = absurd (none_below n t)
counted (negsuc n) f t = let h : n < 2 ^ 31 = f.sfits in record { fits = decimal-fits (suc n) (omega arith); is = refl }

-- and of one that is not negative
pub record Plain (z : ℤ) : Type 0 where
  pub not_neg : T (non_neg z) × Fits w64 (nat_abs z)
  pub fits : length (decimal (nat_abs z)) ≤ 20
  pub is : signed_decimal z ≡ decimal (nat_abs z)

pub plain : (z : ℤ) → SFits w32 z → lt_z z (pos 0) ≡ false → Plain z
unfolding signed_decimal
plain (pos n) f t =
    let h : n < 2 ^ 31 = f.sfits in
    record { not_neg = (tt, record { fits = omega arith }); fits = decimal-fits n (omega arith); is = refl }
plain (negsuc n) f t = absurd (true≢false t)

-- the sign, and the digits behind it
pub put-sign : (l : List ℕ) (at : ℕ) (z : ℤ) {q : ℕ} {b : List ℕ} → Counted z → Laid (set l at 45) (at + 1) (decimal (nat_abs z)) q b → Put 21 l at (signed_decimal z) q b
put-sign l at z k h = rw k.is (put-led 45 l at (nat_abs z) k.fits h)

pub put-plain : (l : List ℕ) (at : ℕ) (z : ℤ) {q : ℕ} {b : List ℕ} → Plain z → Laid l at (decimal (nat_abs z)) q b → Put 21 l at (signed_decimal z) q b
put-plain l at z k h = rw k.is (record { next = h.0; room = omega (arith, h.0, k.fits); stored = h.1 })
