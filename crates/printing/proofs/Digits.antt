-- The digits of a number: the last, and those of a tenth of it in front; a number below 10 ^ j has at most j.
-- Assumes nothing.
use mathlib.Core.Path.{◌≡◌, refl, sym, ap}
use mathlib.Core.List.{List, [], ◌∷◌, ◌++◌}
use Prim.Native.Nat.{ℕ, zero, suc, ◌*◌, ◌/◌, ◌%◌, ◌^◌, ◌≤◌, ◌<◌}
use native.Mathlib.Nat.{pow-suc, not-suc-le-zero}
use native.Mathlib.Omega.{arith}
use lib.ListN.{length, length-append}
use Rattle.printing.specs.Printing.{digit, digits, decimal}

-- any k that is large enough gives the same digits
digits-zero : (k : ℕ) → digits k 0 ≡ []
unfolding digits
digits-zero zero = refl
digits-zero (suc k) = refl

digits_same : (j k n : ℕ) → n ≤ j → n ≤ k → digits j n ≡ digits k n
unfolding digits
digits_same zero k n a b =
    let e : n ≡ 0 = omega arith in
    rw e (sym (digits-zero k))
digits_same (suc j) k zero a b = sym (digits-zero k)
digits_same (suc j) zero (suc n) a b = absurd (not-suc-le-zero b)
digits_same (suc j) (suc k) (suc n) a b =
    ap (λ (l : List ℕ). l ++ (digit (suc n % 10) ∷ [])) (digits_same j k (suc n / 10) (omega arith) (omega arith))

-- one digit
pub decimal-one : (n : ℕ) → n < 10 → decimal n ≡ digit n ∷ []
unfolding decimal digits
decimal-one n h =
    let e : n / 10 ≡ 0 = omega arith in
    let f : n % 10 ≡ n = omega arith in
    rw (e, f, digits-zero)

-- the digits that a number has are its decimals, but for 0
digits_decimal : (k n : ℕ) → 0 < n → n ≤ k → digits k n ≡ decimal n
unfolding decimal digits
digits_decimal k zero p h = absurd (not-suc-le-zero p)
digits_decimal zero (suc n) p h = absurd (not-suc-le-zero h)
digits_decimal (suc k) (suc n) p h =
    ap (λ (l : List ℕ). l ++ (digit (suc n % 10) ∷ [])) (digits_same k (suc n) (suc n / 10) (omega arith) (omega arith))

-- more than one
pub decimal-more : (n : ℕ) → 10 ≤ n → decimal n ≡ decimal (n / 10) ++ (digit (n % 10) ∷ [])
unfolding decimal
decimal-more n h = ap (λ (l : List ℕ). l ++ (digit (n % 10) ∷ [])) (digits_decimal n (n / 10) (omega arith) (omega arith))

digits-fit : (j k n : ℕ) → n < 10 ^ j → length (digits k n) ≤ j
unfolding digits
digits-fit zero k n h =
    let e : n ≡ 0 = omega arith in
    rw (e, digits-zero) (omega arith)
digits-fit (suc j) zero n h = omega arith
digits-fit (suc j) (suc k) zero h = omega arith
digits-fit (suc j) (suc k) (suc n) h =
    let p : 10 ^ suc j ≡ 10 ^ j * 10 = pow-suc 10 j in
    let q : suc n / 10 < 10 ^ j = omega arith in
    rw (length-append (digits k (suc n / 10)) (digit (suc n % 10) ∷ [])) (omega (arith, digits-fit j k (suc n / 10) q))

-- a number of 64 bits has at most 20 digits
pub decimal-fits : (n : ℕ) → n < 2 ^ 64 → length (decimal n) ≤ 20
unfolding decimal
decimal-fits n h =
    let q : n / 10 < 10 ^ 19 = omega arith in
    rw (length-append (digits n (n / 10)) (digit (n % 10) ∷ [])) (omega (arith, digits-fit 19 n (n / 10) q))
