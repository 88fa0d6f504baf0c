-- A list with repeats left out: what lets it be believed, and that two lists are left equally long where their tests say the same.
-- Assumes nothing.
use mathlib.Core.Path.{◌≡◌, refl, ap, ap₂, ◌∙◌}
use mathlib.Core.Bool.{Bool, true, false, ◌||◌, cond}
use mathlib.Core.List.{List, [], ◌∷◌, Forall₂}
use Prim.Native.Nat.{suc, ◌≤◌}
use native.Mathlib.Omega.{arith}
use lib.ListN.{length}
use Rattle.distinct.specs.Distinct.{is_among, without_repeats, has_repeats}

-- ---- where the test finds only equal members the same

module _ {A : Type 0} (same : A → A → Bool) (equal : (x y : A) → same x y ≡ true → x ≡ y) where
  -- the members of the list and of the list without repeats are the same ones
  pub same-members : (x : A) (ys : List A) → is_among same x (without_repeats same ys) ≡ is_among same x ys
  unfolding is_among without_repeats
  same-members x [] = refl
  same-members x (y ∷ ys) = go (is_among same y ys) refl (same x y) refl (same-members x ys)
    where
      go : (b : Bool) → is_among same y ys ≡ b → (c : Bool) → same x y ≡ c → is_among same x (without_repeats same ys) ≡ is_among same x ys
          → is_among same x (cond b (without_repeats same ys) (y ∷ without_repeats same ys)) ≡ (c || is_among same x ys)
      go true h true k e = e ∙ ap (λ (z : A). is_among same z ys) (equal x y k) ∙ h
      go true h false k e = e
      go false h c k e = ap₂ ◌||◌ k e

  -- and none of the latter is among those behind it
  pub none_twice : (xs : List A) → has_repeats same (without_repeats same xs) ≡ false
  unfolding without_repeats has_repeats
  none_twice [] = refl
  none_twice (x ∷ xs) = go (is_among same x xs) refl (none_twice xs)
    where
      kept : List A
      kept = without_repeats same xs

      go : (b : Bool) → is_among same x xs ≡ b → has_repeats same kept ≡ false → has_repeats same (cond b kept (x ∷ kept)) ≡ false
      go true h e = e
      go false h e = ap₂ ◌||◌ (same-members x xs ∙ h) e

-- ---- for any test

-- with repeats left out, a list is no longer
pub no_longer : {A : Type 0} (same : A → A → Bool) (xs : List A) → length (without_repeats same xs) ≤ length xs
unfolding without_repeats
no_longer same [] = omega arith
no_longer same (x ∷ xs) = go (is_among same x xs) (no_longer same xs)
  where
    go : (t : Bool) → length (without_repeats same xs) ≤ length xs → length (cond t (without_repeats same xs) (x ∷ without_repeats same xs)) ≤ suc (length xs)
    go true h = omega arith
    go false h = omega arith

-- ---- where two lists go together member by member, and the two tests say the same of members that do

module _ {A B : Type 0} (sameA : A → A → Bool) (sameB : B → B → Bool) (Together : A → B → Type 0)
    (alike : (x : A) (y : B) (u : A) (v : B) → Together x y → Together u v → sameA x u ≡ sameB y v) where
  -- one is among its list just where the other is among its own
  among-alike : (x : A) (y : B) → Together x y → {us : List A} {vs : List B} → Forall₂ Together us vs → is_among sameA x us ≡ is_among sameB y vs
  unfolding is_among
  among-alike x y t Forall₂.nil = refl
  among-alike x y t (Forall₂.cons {a = u} {b = v} s rest) = ap₂ ◌||◌ (alike x y u v t s) (among-alike x y t rest)

  -- so that as many are left of both
  pub equally-many : {xs : List A} {ys : List B} → Forall₂ Together xs ys → length (without_repeats sameA xs) ≡ length (without_repeats sameB ys)
  unfolding without_repeats
  equally-many Forall₂.nil = refl
  equally-many (Forall₂.cons {a = x} {b = y} {l₁ = xs} {l₂ = ys} t rest) =
      ap (λ (b : Bool). length (cond b (without_repeats sameA xs) (x ∷ without_repeats sameA xs))) (among-alike x y t rest)
      ∙ go (is_among sameB y ys) (equally-many rest)
    where
      go : (b : Bool) → length (without_repeats sameA xs) ≡ length (without_repeats sameB ys)
          → length (cond b (without_repeats sameA xs) (x ∷ without_repeats sameA xs)) ≡ length (cond b (without_repeats sameB ys) (y ∷ without_repeats sameB ys))
      go true e = e
      go false e = omega arith
