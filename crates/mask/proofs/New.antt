-- What in a mask is new in Edition 3: the word of the gaps in D28-30, and D32.18.
-- Assumes nothing.
use mathlib.Core.Path.{◌≡◌, sym, ◌∙◌}
use mathlib.Core.Bool.{false, cond}
use Prim.Native.Nat.{ℕ, ◌+◌, ◌^◌, ◌≤◌, ◌<◌}
use native.Mathlib.Omega.{arith}
use borrow.Author.Tests.{ne_eqb}
use lib.Dec.{eqb}
use lib.Count.{count_leading_zeros}
use Rattle.mask.specs.Fields.{announced}
use Rattle.mask.specs.Mask.{is_in, is_gap, d28to30, first_from, new_in_mask}
use Rattle.mask.proofs.Lowest.{first-within, holds-nowhere, holds-first}

-- no field but these three is a gap in D28-30
outside : (m n : ℕ) → (n ≡ 28 → ⊥) → (n ≡ 29 → ⊥) → (n ≡ 30 → ⊥) → is_gap m d28to30 n ≡ false
unfolding is_gap is_in
outside m n a b c = rw (ne_eqb n 28 a, ne_eqb n 29 b, ne_eqb n 30 c)

within : (m : ℕ) → first_from (is_gap m d28to30) 64 2 ≡ first_from (is_gap m d28to30) 3 28
within m =
    first-within (is_gap m d28to30) 26 3 35 2
    (λ n h. outside m n (λ e. omega arith) (λ e. omega arith) (λ e. omega arith))
    (λ n h. outside m n (λ e. omega arith) (λ e. omega arith) (λ e. omega arith))

-- the first of two that is not 0
earlier : (x y r : ℕ) → x ≡ r → (r ≡ 0 → ⊥) → r ≡ cond (eqb x 0) y x
earlier x y r e nz = rw (e, ne_eqb r 0 nz)

later : (x y : ℕ) → x ≡ 0 → y ≡ cond (eqb x 0) y x
later x y e = rw e

-- a word whose fields are the gaps in D28-30
module _ (m w : ℕ) (is : (n : ℕ) → 2 ≤ n → n < 66 → announced w n ≡ is_gap m d28to30 n) where
  pub new-gap : (w ≡ 0 → ⊥) → w < 2 ^ 64 → 2 + count_leading_zeros 64 w ≡ new_in_mask m
  unfolding new_in_mask
  new-gap nz h =
      earlier (first_from (is_gap m d28to30) 3 28) (cond (announced m 49) 49 0) (2 + count_leading_zeros 64 w)
      (sym (holds-first (is_gap m d28to30) w is nz h ∙ within m)) (λ z. omega arith)

  pub new-last : w ≡ 0 → cond (announced m 49) 49 0 ≡ new_in_mask m
  unfolding new_in_mask
  new-last z = later (first_from (is_gap m d28to30) 3 28) (cond (announced m 49) 49 0) (sym (holds-nowhere (is_gap m d28to30) w is z ∙ within m))
