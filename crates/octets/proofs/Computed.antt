-- A rule of all numbers of a range, proved by one test that is computed at each of them.
-- Assumes nothing.
use mathlib.Core.Path.{◌≡◌, refl, subst}
use mathlib.Core.Bool.{Bool, true, false, ◌&&◌, beq}
use mathlib.Core.Logic.{◌⊎◌, inl, inr}
use Prim.Native.Nat.{ℕ, zero, suc, ◌+◌, ◌≤◌, ◌<◌}
use native.Mathlib.Nat.{eq-or-lt_of_le}
use native.Mathlib.Omega.{arith}
use lib.Dec.{T}

-- f holds at each of the k numbers from n on
abbrev pub all_from : (ℕ → Bool) → ℕ → ℕ → Bool
all_from f zero n = true
all_from f (suc k) n = f n && all_from f k (suc n)

-- where both of two tests hold, each does
pub both_left : (a b : Bool) → T (a && b) → T a
both_left true b t = tt
both_left false b t = t

pub both_right : (a b : Bool) → T (a && b) → T b
both_right true b t = t
both_right false b t = absurd t

-- what is so computed holds at each of them
pub from_all : (f : ℕ → Bool) (k n : ℕ) → T (all_from f k n) → (m : ℕ) → n ≤ m → m < n + k → T (f m)
from_all f zero n t m lo hi = absurd (no lo hi)
  where
    no : n ≤ m → m < n + 0 → ⊥
    no a b = omega arith
from_all f (suc k) n t m lo hi =
    go (eq-or-lt_of_le lo) (λ l. from_all f k (suc n) (both_right (f n) (all_from f k (suc n)) t) m l (omega arith))
  where
    go : (n ≡ m) ⊎ (n < m) → (n < m → T (f m)) → T (f m)
    go (inl e) rest = subst (λ (x : ℕ). T (f x)) e (both_left (f n) (all_from f k (suc n)) t)
    go (inr l) rest = rest l

-- equal by the test
pub beq-eq : (a b : Bool) → T (beq a b) → a ≡ b
beq-eq true true t = refl
beq-eq true false t = absurd t
beq-eq false true t = absurd t
beq-eq false false t = refl
