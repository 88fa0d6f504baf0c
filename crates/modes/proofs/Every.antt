-- A rule of every value below a bound, by one test that is computed at each of them.
-- Assumes nothing.
use Prim.Native.Nat.{ℕ, zero, suc, ◌≤◌, ◌<◌}
use Prim.Native.String.{String}
use native.Mathlib.Nat.{eq-or-lt_of_le}
use native.Mathlib.Omega.{arith}
use mathlib.Core.Path.{◌≡◌, sym, ap, subst, ◌∙◌}
use mathlib.Core.Logic.{◌⊎◌, inl, inr}
use mathlib.Core.Bool.{Bool, true, false, not, ◌||◌, and-eq-true_iff}
use borrow.Author.Tests.{eqb-true, leb-true, not-true}
use lib.Dec.{T, eqb, leb}
use lib.Text.{eqt, eqt→eq}
use Rattle.modes.specs.InnerEntries.{every}

-- a test that passes at each value below n passes at any of them
pub each : (test : ℕ → Bool) (n : ℕ) → every test n ≡ true → (k : ℕ) → k < n → test k ≡ true
unfolding every
each test zero h k l = absurd (omega arith)
each test (suc n) h k l =
    let both = (and-eq-true_iff (test n) (every test n)).0 h in
    go both.0 (λ m. each test n both.1 k m) (eq-or-lt_of_le l)
  where
    go : test n ≡ true → (k < n → test k ≡ true) → (suc k ≡ suc n) ⊎ (suc k < suc n) → test k ≡ true
    go last before (inl e) = let same : k ≡ n = omega (arith, e) in ap test same ∙ last
    go last before (inr m) = before (omega (arith, m))

-- two truth values that are the same
unfoldable pub is_same : Bool → Bool → Bool
is_same true b = b
is_same false b = not b

same-eq : (a b : Bool) → is_same a b ≡ true → a ≡ b
unfolding is_same
same-eq true b h = sym h
same-eq false b h = sym (not-true b h)

other : (a b : Bool) → (a || b) ≡ true → a ≡ false → b ≡ true
other true b h e = absurd (true-false (sym e))
  where
    true-false : false ≡ true → ⊥
    true-false p = subst T (sym p) tt
other false b h e = h

-- what the test says: that numbers are equal, that one is at most another, that texts are equal, that truth values are, that numbers are equal
-- but for some values
module _ (n : ℕ) where
  pub each-equal : (f g : ℕ → ℕ) → every (λ k. eqb (f k) (g k)) n ≡ true → (k : ℕ) → k < n → f k ≡ g k
  each-equal f g h k l = eqb-true (f k) (g k) (each _ n h k l)

  pub each_within : (f g : ℕ → ℕ) → every (λ k. leb (f k) (g k)) n ≡ true → (k : ℕ) → k < n → f k ≤ g k
  each_within f g h k l = leb-true (f k) (g k) (each _ n h k l)

  pub each-text : (f g : ℕ → String) → every (λ k. eqt (f k) (g k)) n ≡ true → (k : ℕ) → k < n → f k ≡ g k
  each-text f g h k l = eqt→eq (f k) (g k) (subst T (sym (each _ n h k l)) tt)

  pub each_same : (f g : ℕ → Bool) → every (λ k. is_same (f k) (g k)) n ≡ true → (k : ℕ) → k < n → f k ≡ g k
  each_same f g h k l = same-eq (f k) (g k) (each _ n h k l)

  pub each-outside : (p : ℕ → Bool) (f g : ℕ → ℕ) → every (λ k. p k || eqb (f k) (g k)) n ≡ true → (k : ℕ) → k < n → p k ≡ false → f k ≡ g k
  each-outside p f g h k l e = eqb-true (f k) (g k) (other (p k) _ (each _ n h k l) e)
