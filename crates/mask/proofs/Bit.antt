-- What the operations on words do to each field that a word announces.
-- Assumes nothing.
use Rattle.std.proofs.Common.{◌≡◌, ℕ, zero, suc, ◌-◌, ◌/◌, ◌%◌, ◌^◌, ◌<◌, ◌≤◌, min, max, Bool, false, not, ◌&&◌, ◌||◌, eqb, refl, ap, ◌∙◌, arith}
use Rattle.std.proofs.lemmas.Nat.Bits.{bit_at_and, bit_at_or, bit_at_not}
use mathlib.Core.Logic.{◌⊎◌, inl, inr}
use native.Mathlib.Nat.{zero-div, div-eq_of_lt, lt_of_lt_of_le}
use lib.Bits.{bit_and, bit_or}
use lib.Pow.{pow_mono}
use Rattle.std.proofs.lemmas.Bool.{cases_lt}
use mir.Syntax.{w64}
use Rattle.mask.specs.Fields.{announced}

-- the least and the greatest of two bits, and the other value of one
data Bit : ℕ → Type 0 where
  off : Bit 0
  on : Bit 1

bit : (x : ℕ) → x < 2 → Bit x
bit zero h = off
bit (suc zero) h = on
bit (suc (suc x)) h = absurd (omega arith)

min-bits : {x y : ℕ} → Bit x → Bit y → eqb (min x y) 1 ≡ (eqb x 1 && eqb y 1)
min-bits off off = refl
min-bits off on = refl
min-bits on off = refl
min-bits on on = refl

max-bits : {x y : ℕ} → Bit x → Bit y → eqb (max x y) 1 ≡ (eqb x 1 || eqb y 1)
max-bits off off = refl
max-bits off on = refl
max-bits on off = refl
max-bits on on = refl

other-bit : {x : ℕ} → Bit x → eqb (1 - x) 1 ≡ not (eqb x 1)
other-bit off = refl
other-bit on = refl

pub set-and : (a b n : ℕ) → announced (bit_and a b) n ≡ (announced a n && announced b n)
unfolding announced
set-and a b n = ap (λ (x : ℕ). eqb x 1) (bit_at_and a b (65 - n)) ∙ min-bits (bit (a / 2 ^ (65 - n) % 2) (omega arith)) (bit (b / 2 ^ (65 - n) % 2) (omega arith))

pub set-or : (a b n : ℕ) → announced (bit_or a b) n ≡ (announced a n || announced b n)
unfolding announced
set-or a b n = ap (λ (x : ℕ). eqb x 1) (bit_at_or a b (65 - n)) ∙ max-bits (bit (a / 2 ^ (65 - n) % 2) (omega arith)) (bit (b / 2 ^ (65 - n) % 2) (omega arith))

pub set-none : (n : ℕ) → announced 0 n ≡ false
unfolding announced
set-none n = rw (zero-div (2 ^ (65 - n)))

-- the fields of s that m leaves out
pub set-missing : (m s n : ℕ) → m < 2 ^ 64 → s < 2 ^ 64 → announced (bit_and s (2 ^ 64 - 1 - m)) n ≡ (announced s n && not (announced m n))
unfolding announced
set-missing m s n h k = set-and s (2 ^ 64 - 1 - m) n ∙ go (cases_lt n 2)
  where
    go : (n < 2) ⊎ (2 ≤ n) → (announced s n && announced (2 ^ 64 - 1 - m) n) ≡ (announced s n && not (announced m n))
    go (inl l) = let e : s / 2 ^ (65 - n) ≡ 0 = div-eq_of_lt (lt_of_lt_of_le k (pow_mono {i = 64} {j = 65 - n} (omega arith))) in rw e
    go (inr l) =
        let e : (2 ^ 64 - 1 - m) / 2 ^ (65 - n) % 2 ≡ 1 - m / 2 ^ (65 - n) % 2 = bit_at_not w64 m (65 - n) h (omega arith) in
        ap (λ (b : Bool). eqb (s / 2 ^ (65 - n) % 2) 1 && b) (ap (λ (x : ℕ). eqb x 1) e ∙ other-bit (bit (m / 2 ^ (65 - n) % 2) (omega arith)))
