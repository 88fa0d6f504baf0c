-- Turns over a list: what was seen or counted so far.
-- Assumes nothing.
use Rattle.std.proofs.Common.{◌≡◌, ℕ, ◌+◌, ◌≤◌, Bool, true, false, ◌||◌, eqb, List, [], ◌∷◌, ◌++◌, length, not, sym, ap, subst, ◌∙◌, arith}
use Rattle.std.specs.Int.{from_bool}
use mathlib.Core.Bool.{or_assoc, or-false}
use Rattle.distinct.specs.Distinct.{is_among, without_repeats}

-- whether x was seen among the numbers so far
abbrev pub Seen : ℕ → List ℕ → Bool → Type 0
Seen x s seen = seen ≡ is_among eqb x s

among-push : (x : ℕ) (s : List ℕ) (y : ℕ) → is_among eqb x (s ++ (y ∷ [])) ≡ (is_among eqb x s || eqb x y)
unfolding is_among
among-push x [] y = or-false (eqb x y)
among-push x (z ∷ s) y = rw (among-push x s y) (sym (or_assoc (eqb x z) (is_among eqb x s) (eqb x y)))

-- one number more
pub seen-more : (x : ℕ) (s : List ℕ) (y : ℕ) (seen next : Bool) → Seen x s seen → next ≡ (seen || eqb x y) → Seen x (s ++ (y ∷ [])) next
seen-more x s y seen next w e = e ∙ ap (λ (b : Bool). b || eqb x y) w ∙ sym (among-push x s y)

-- of the numbers s, n are counted, and the rest decides the others
pub record Counted (s : List ℕ) (n : ℕ) (rest : List ℕ) : Type 0 where
  pub few : n + length rest ≤ length s
  pub others : n + length (without_repeats eqb rest) ≡ length (without_repeats eqb s)

-- the first of the rest counts where it is not among those behind it
pub counted-more : (s rest : List ℕ) (n x k : ℕ) (behind : List ℕ) (b : Bool)
    → Counted s n rest → rest ≡ x ∷ behind → b ≡ is_among eqb x behind → k ≡ from_bool (not b) → Counted s (n + k) behind
unfolding without_repeats
counted-more s rest n x k behind b w r e f = go b e f (subst (λ (l : List ℕ). Counted s n l) r w)
  where
    go : (b : Bool) → b ≡ is_among eqb x behind → k ≡ from_bool (not b) → Counted s n (x ∷ behind) → Counted s (n + k) behind
    go true e f w = record { few = omega (arith, w.few); others = omega (arith, rw (sym e) at w.others) }
    go false e f w = record { few = omega (arith, w.few); others = omega (arith, rw (sym e) at w.others) }

pub counted-end : (s rest : List ℕ) (n : ℕ) → length rest ≡ 0 → Counted s n rest → n ≡ length (without_repeats eqb s)
unfolding without_repeats
counted-end s [] n e w = omega (arith, w.others)
counted-end s (x ∷ rest) n e w = absurd (omega arith)
