-- Words of one letter.
-- Assumes nothing.
use mathlib.Core.Path.{◌≡◌, refl, sym, ap, ap₂, ◌∙◌}
use Rattle.std.proofs.Common.{Option, Some, None}
use mathlib.Core.Bool.{Bool, cond, and-false, and-true}
use mathlib.Core.List.{List, [], ◌∷◌}
use Prim.Native.Nat.{ℕ}
use native.Mathlib.Omega.{arith}
use borrow.Author.Tests.{eq-eqb, ne_eqb}
use lib.Dec.{eqb}
use lib.ListN.{length, get_or}
use Rattle.format.specs.Writer.{is_same}

-- the edition that a word names
abbrev pub named : List ℕ → Option ℕ
named w = cond (is_same w (49 ∷ [])) (Some 1) (cond (is_same w (51 ∷ [])) (Some 3) None)

pub other_length : (w : List ℕ) → (length w ≡ 1 → ⊥) → None ≡ named w
unfolding is_same
other_length [] h = refl
other_length (x ∷ []) h = absurd (h refl)
other_length (x ∷ y ∷ w) h = simp and-false

-- a word of one letter, by the letter
one-letter : (w : List ℕ) → length w ≡ 1 → cond (eqb (get_or w 0 0) 49) (Some 1) (cond (eqb (get_or w 0 0) 51) (Some 3) None) ≡ named w
unfolding is_same
one-letter [] h = absurd (omega (arith, h))
one-letter (x ∷ []) h = ap₂ (λ (a b : Bool). cond a (Some 1) (cond b (Some 3) None)) (sym (and-true (eqb x 49))) (sym (and-true (eqb x 51)))
one-letter (x ∷ y ∷ w) h = absurd (omega (arith, h))

module _ (w : List ℕ) (h : length w ≡ 1) where
  pub names-1 : get_or w 0 0 ≡ 49 → Some 1 ≡ named w
  names-1 e = sym (ap (λ (b : Bool). cond b (Some 1) (cond (eqb (get_or w 0 0) 51) (Some 3) None)) (eq-eqb _ _ e)) ∙ one-letter w h

  pub names-3 : (get_or w 0 0 ≡ 49 → ⊥) → get_or w 0 0 ≡ 51 → Some 3 ≡ named w
  names-3 n e = sym (ap₂ (λ (a b : Bool). cond a (Some 1) (cond b (Some 3) None)) (ne_eqb _ _ n) (eq-eqb _ _ e)) ∙ one-letter w h

  pub names-none : (get_or w 0 0 ≡ 49 → ⊥) → (get_or w 0 0 ≡ 51 → ⊥) → None ≡ named w
  names-none n m = sym (ap₂ (λ (a b : Bool). cond a (Some 1) (cond b (Some 3) None)) (ne_eqb _ _ n) (ne_eqb _ _ m)) ∙ one-letter w h
