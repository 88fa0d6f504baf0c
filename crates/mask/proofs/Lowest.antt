-- The lowest field that a word announces is 2 more than the word's leading zeros.
-- Assumes nothing.
use mathlib.Core.Path.{◌≡◌, refl, sym, ap, ◌∙◌}
use mathlib.Core.Logic.{◌⊎◌, inl, inr}
use mathlib.Core.Bool.{Bool, true, false, cond, true≢false}
use Prim.Native.Nat.{ℕ, zero, suc, ◌+◌, ◌-◌, ◌/◌, ◌^◌, ◌≤◌, ◌<◌}
use native.Mathlib.Nat.{le_refl, lt_trans, div-eq_of_lt, div-eq_of_lt-le, lt_of_lt_of_le, pow-suc, eq-zero-or-pos, eq-or-lt_of_le, zero-add, suc-add, add-zero}
use native.Mathlib.Omega.{arith}
use lib.Pow.{pow_mono}
use lib.Count.{count_leading_zeros, leading_top}
use Rattle.mask.specs.Fields.{announced}
use Rattle.mask.specs.Mask.{first_from}
use Rattle.mask.proofs.Bit.{set-none}

-- the first number at which f holds, where it is known
pub first-is : (f : ℕ → Bool) (k n r : ℕ) → n ≤ r → r < n + k → f r ≡ true → ((m : ℕ) → n ≤ m → m < r → f m ≡ false) → first_from f k n ≡ r
unfolding first_from
first-is f zero n r lo hi yes' none = absurd (no lo hi)
  where
    no : n ≤ r → r < n + 0 → ⊥
    no a b = omega arith
first-is f (suc k) n r lo hi yes' none =
    go (eq-or-lt_of_le lo) (λ l. first-is f k (suc n) r l (omega arith) yes' (λ m a b. none m (omega arith) b))
  where
    go : (n ≡ r) ⊎ (n < r) → (n < r → first_from f k (suc n) ≡ r) → cond (f n) n (first_from f k (suc n)) ≡ r
    go (inl e) rest = rw (ap f e ∙ yes') e
    go (inr l) rest = rw (none n (le_refl n) l) (rest l)

pub first-none : (f : ℕ → Bool) (k n : ℕ) → ((m : ℕ) → n ≤ m → m < n + k → f m ≡ false) → first_from f k n ≡ 0
unfolding first_from
first-none f zero n none = refl
first-none f (suc k) n none = rw (none n (le_refl n) (omega arith)) (first-none f k (suc n) (λ m a b. none m (omega arith) (omega arith)))

-- where f holds at none of the first j numbers, they may be left out
first-skip : (f : ℕ → Bool) (j k n : ℕ) → ((m : ℕ) → n ≤ m → m < n + j → f m ≡ false) → first_from f (j + k) n ≡ first_from f k (n + j)
unfolding first_from
first-skip f zero k n none = rw (zero-add, add-zero)
first-skip f (suc j) k n none =
    let e : suc n + j ≡ n + suc j = omega arith in
    rw (suc-add j k, none n (le_refl n) (omega arith)) (first-skip f j k (suc n) (λ m a b. none m (omega arith) (omega arith)) ∙ ap (first_from f k) e)

-- and so may the last l numbers
first-stop : (f : ℕ → Bool) (k l n : ℕ) → ((m : ℕ) → n + k ≤ m → f m ≡ false) → first_from f (k + l) n ≡ first_from f k n
unfolding first_from
first-stop f zero l n none = rw zero-add (first-none f l n (λ m a b. none m (omega arith)))
first-stop f (suc k) l n none = rw (suc-add k l) (ap (cond (f n) n) (first-stop f k l (suc n) (λ m a. none m (omega arith))))

-- where f holds at no number outside the k from n + j on, the first of these is the first of the wider range
pub first-within : (f : ℕ → Bool) (j k l n : ℕ) → ((m : ℕ) → m < n + j → f m ≡ false) → ((m : ℕ) → n + j + k ≤ m → f m ≡ false) → first_from f (j + (k + l)) n ≡ first_from f k (n + j)
first-within f j k l n below above = first-skip f j (k + l) n (λ m lo hi. below m hi) ∙ first-stop f k l (n + j) above

-- the lowest field of a word that is not 0
pub lowest : (w : ℕ) → 0 < w → w < 2 ^ 64 → (2 ≤ 2 + count_leading_zeros 64 w) × (2 + count_leading_zeros 64 w < 2 + 64) × (announced w (2 + count_leading_zeros 64 w) ≡ true) × ((m : ℕ) → 2 ≤ m → m < 2 + count_leading_zeros 64 w → announced w m ≡ false)
unfolding announced
lowest w p h =
    let t = leading_top 64 w p h in
    let j = t.0 in
    let z = count_leading_zeros 64 w in
    let e : z + suc j ≡ 64 = t.1 in
    let bit : 65 - (2 + z) ≡ j = omega arith in
    let one-there : w / 2 ^ j ≡ 1 = div-eq_of_lt-le (2 ^ j) (omega (arith, t.2)) (omega (arith, t.3, pow-suc 2 j)) in (
      omega arith,
      omega arith,
      rw (bit, one-there),
      λ m a b. rw (div-eq_of_lt (lt_of_lt_of_le t.3 (pow_mono {i = suc j} {j = 65 - m} (omega arith)))),
    )

-- a word that announces none of the fields is 0
pub none-zero : (w : ℕ) → w < 2 ^ 64 → ((n : ℕ) → 2 ≤ n → n < 66 → announced w n ≡ false) → w ≡ 0
none-zero w h none = go (eq-zero-or-pos w)
  where
    go : (w ≡ 0) ⊎ (0 < w) → w ≡ 0
    go (inl e) = e
    go (inr p) = let l = lowest w p h in absurd (true≢false (sym l.2 ∙ none (2 + count_leading_zeros 64 w) l.0 l.1))

-- a word whose fields are those at which f holds: f holds nowhere if the word is 0, and first at 2 more than its leading zeros if not
module _ (f : ℕ → Bool) (w : ℕ) (is : (n : ℕ) → 2 ≤ n → n < 66 → announced w n ≡ f n) where
  pub holds-nowhere : w ≡ 0 → 0 ≡ first_from f 64 2
  holds-nowhere z = sym (first-none f 64 2 (λ m lo hi. sym (is m lo hi) ∙ ap (λ (v : ℕ). announced v m) z ∙ set-none m))

  pub holds-first : (w ≡ 0 → ⊥) → w < 2 ^ 64 → 2 + count_leading_zeros 64 w ≡ first_from f 64 2
  holds-first nz h =
      let l = lowest w (omega arith) h in
      let r = 2 + count_leading_zeros 64 w in
      sym (first-is f 64 2 r l.0 l.1 (sym (is r l.0 l.1) ∙ l.2) (λ m lo hi. sym (is m lo (lt_trans hi l.1)) ∙ l.3 m lo hi))
