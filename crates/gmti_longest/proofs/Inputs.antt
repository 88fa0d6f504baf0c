-- What an input asks for, by the tests of the program.
-- Assumes nothing.
use Prim.Native.Nat.{ℕ, suc, ◌+◌, ◌-◌, ◌≤◌, ◌<◌}
use native.Mathlib.Omega.{arith}
use mathlib.Core.Path.{◌≡◌, refl, sym, ap, ◌∙◌}
use mathlib.Core.Bool.{Bool, true, false, not, ◌&&◌, cond, and-false, and-true}
use mathlib.Core.Logic.{◌⊎◌, inl, inr}
use mathlib.Core.List.{List, [], ◌∷◌}
use borrow.Author.Tests.{le-leb, lt-leb}
use lib.Dec.{leb, eqb}
use lib.Pointwise.{pointwise}
use Rattle.std.proofs.Common.{Option, Some, None, MatchOption, unwrap_or, Bor}
use Rattle.std.specs.List.{starts_with}
use Rattle.std.proofs.lemmas.List.{drop_all}
use Rattle.vectors.proofs.Spellings.{eqb-sym, number-some, number_missing}
use lib.ListN.{length, get_or, take, drop}
use lib.Seq.{drop-cons, take-length}
use Rattle.vectors.specs.Vectors.{is_number, number_of, spelt}
use Rattle.gmti_longest.specs.Longest.{without_line_feed, is_asked, asked}

-- no input, one that ends in a line feed, and any other one
pub digits-none : (l : List ℕ) → length l ≡ 0 → [] ≡ without_line_feed l
unfolding without_line_feed
digits-none [] h = refl
digits-none (x ∷ xs) h = absurd (omega arith)

pub digits-line : (l : List ℕ) → eqb (get_or l (length l - 1) 0) 10 ≡ true → take (length l - 1) l ≡ without_line_feed l
unfolding without_line_feed
digits-line l h = rw h

pub digits-all : (l : List ℕ) → eqb (get_or l (length l - 1) 0) 10 ≡ false → take (length l) l ≡ without_line_feed l
unfolding without_line_feed
digits-all l h = rw h (take-length l)

-- std's test of the last byte, by which an input ends in a line feed or not
last-is : (l : List ℕ) → pointwise eqb (drop (length l - 1) l) (10 ∷ []) ≡ eqb (get_or l (length l - 1) 0) 10
last-is [] = refl
last-is (x ∷ xs) =
    let n = length (x ∷ xs) - 1 in
    let h : n < length (x ∷ xs) = omega arith in
    let e : drop (suc n) (x ∷ xs) ≡ [] = drop_all (suc n) (x ∷ xs) (omega arith) in
    rw (drop-cons (x ∷ xs) n 0 h, e, and-true)

pub stripped : (a : Bor (List ℕ)) (r : Option (Bor (List ℕ)))
    → MatchOption r (pointwise eqb (drop (length a.now - 1) a.now) (10 ∷ []) ≡ false)
    (λ x. (pointwise eqb (drop (length a.now - 1) a.now) (10 ∷ []) ≡ true) × (x.now ≡ take (length a.now - 1) a.now) × (length x.now + 1 ≡ length a.now))
    → (unwrap_or r a).now ≡ without_line_feed a.now
stripped a None h = sym (take-length a.now) ∙ digits-all a.now (sym (last-is a.now) ∙ h)
stripped a (Some x) h = h.1 ∙ digits-line a.now (sym (last-is a.now) ∙ h.0)

-- std's test of the first byte
zero-is : (d : List ℕ) → starts_with eqb d (48 ∷ []) ≡ eqb (get_or d 0 0) 48
zero-is [] = refl
zero-is (x ∷ d) = rw (eqb-sym 48 x, and-true)

-- what is asked, where d is the input without a line feed at its end
module _ (l : List ℕ) {d : List ℕ} (e : d ≡ without_line_feed l) where
  asked-no-number : is_number d ≡ false → 0 ≡ asked l
  unfolding asked is_asked
  asked-no-number h = rw (← e, h)

  pub asked-zero : eqb (get_or d 0 0) 48 ≡ true → 0 ≡ asked l
  unfolding asked is_asked
  asked-zero h = rw (← e, h, and-false)

  pub asked_is : is_number d ≡ true → eqb (get_or d 0 0) 48 ≡ false → spelt d 0 ≤ 16362 → spelt d 0 ≡ asked l
  unfolding asked is_asked
  asked_is h z m = rw (← e, h, z, le-leb (spelt d 0) 16362 m)

  pub asked-over : is_number d ≡ true → eqb (get_or d 0 0) 48 ≡ false → 16362 < spelt d 0 → 0 ≡ asked l
  unfolding asked is_asked
  asked-over h z m = rw (← e, h, z, lt-leb (spelt d 0) 16362 m)

  -- the same by the program's own tests
  pub asked-missing : number_of d ≡ None → asked l ≡ 0
  unfolding asked is_asked
  asked-missing h = rw (← e) (ap (λ (t : Bool). cond t (spelt d 0) 0) (go (is_number d) (not (eqb (get_or d 0 0) 48)) (leb (spelt d 0) 16362) (number_missing d 16362 (omega arith) h)))
    where
      go : (x y z : Bool) → (x && z) ≡ false → (x && y && z) ≡ false
      go true true z f = f
      go true false z f = refl
      go false y z f = refl

  pub asked-none : starts_with eqb d (48 ∷ []) ≡ true → asked l ≡ 0
  asked-none h = sym (asked-zero (sym (zero-is d) ∙ h))

  module _ {k : ℕ} (f : starts_with eqb d (48 ∷ []) ≡ false) (n : number_of d ≡ Some k) where
    pub asked-some : k ≤ 16362 → k ≡ asked l
    asked-some m =
        let i = number-some d n in
        i.1 ∙ asked_is i.0 (sym (zero-is d) ∙ f) (omega (arith, i.1))

    pub asked-outside : ((1 ≤ k) × (16362 < k)) ⊎ (k < 1) → asked l ≡ 0
    asked-outside (inl m) =
        let i = number-some d n in
        sym (asked-over i.0 (sym (zero-is d) ∙ f) (omega (arith, i.1, m)))
    asked-outside (inr m) = omega (arith, asked-some (omega arith))
