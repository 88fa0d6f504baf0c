-- The seven numbers of an answer: those of its case, and those of the outcome that it belongs to.
-- Assumes nothing.
use Prim.Native.Nat.{ℕ, ◌^◌, ◌<◌}
use mathlib.Core.Path.{◌≡◌, sym, ap, subst, ◌∙◌}
use mathlib.Core.List.{List}
use lib.ListN.{get_or}
use Rattle.format.specs.Answer.{Answer, Accepted, Refused, numbers_of, Outcome, outcome}

-- where the numbers of an answer fit 32 bits, those of its case do
module _ (a : Answer) (fit : (i : ℕ) → get_or (numbers_of a) i 0 < 2 ^ 32) where
  -- the answer, told by its case
  told : (b : Answer) → a ≡ b → (i : ℕ) → get_or (numbers_of b) i 0 < 2 ^ 32
  told b e i = subst (λ (x : Answer). get_or (numbers_of x) i 0 < 2 ^ 32) e (fit i)

  -- the counts and the length of an acceptance
  pub accepted-fit : {s d t n : ℕ} → a ≡ Accepted s d t n → (s < 2 ^ 32) × (d < 2 ^ 32) × (t < 2 ^ 32) × (n < 2 ^ 32)
  unfolding numbers_of
  accepted-fit {s} {d} {t} {n} e =
      let f = told (Accepted s d t n) e in
      (f 3, f 4, f 5, f 6)

  -- the number, the segment and the field of a refusal
  pub refused-fit : {number segment field : ℕ} → a ≡ Refused number segment field → (number < 2 ^ 32) × (segment < 2 ^ 32) × (field < 2 ^ 32)
  unfolding numbers_of
  refused-fit {number} {segment} {field} e =
      let f = told (Refused number segment field) e in
      (f 0, f 1, f 2)

-- a call that answers a and leaves these bytes has the outcome o
module _ (a : Answer) (left : List ℕ) (o : Outcome) (e : outcome a left ≡ o) where
  -- where the outcome's numbers fit, the answer's do
  pub outcome_fits : ((i : ℕ) → get_or o.numbers i 0 < 2 ^ 32) → (i : ℕ) → get_or (numbers_of a) i 0 < 2 ^ 32
  outcome_fits fit i = subst (λ (ns : List ℕ). get_or ns i 0 < 2 ^ 32) (sym (ap (λ (p : Outcome). p.numbers) e)) (fit i)

  -- the answer's numbers are the outcome's, and so is what is left
  pub outcome-parts : (ns : List ℕ) → ns ≡ numbers_of a → (ns ≡ o.numbers) × (left ≡ o.left)
  outcome-parts ns h = (h ∙ ap (λ (p : Outcome). p.numbers) e, ap (λ (p : Outcome). p.left) e)
