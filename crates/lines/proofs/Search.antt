-- The search for a byte: std's search says where the first one is.
-- Assumes nothing.
use Rattle.std.proofs.Common.{◌≡◌, ℕ, suc, Bool, true, false, cond, List, [], ◌∷◌, ◌+◌, ◌≤◌, not, eqb, ltb, ltb-false, length, zero-le, arith, refl, Option, Some, None}
use Rattle.std.specs.List.{position_or_len}
use Rattle.std.specs.Option.{unwrap_or}
use Rattle.lines.specs.Lines.{before}

-- a byte is found within the bytes searched, or not at all
pub before-le : (b : ℕ) (s : List ℕ) → before b s ≤ length s
unfolding before
before-le b [] = zero-le
before-le b (x ∷ s) = go (eqb x b) (before-le b s)
  where
    go : (t : Bool) → before b s ≤ length s → cond t 0 (suc (before b s)) ≤ suc (length s)
    go true h = zero-le
    go false h = omega arith

-- as std's search counts them
before-is : (b : ℕ) (s : List ℕ) → position_or_len (λ c. eqb c b) s ≡ before b s
unfolding before
before-is b [] = refl
before-is b (x ∷ s) = go (eqb x b) (before-is b s)
  where
    go : (t : Bool) {m n : ℕ} → m ≡ n → cond (not t) (1 + m) 0 ≡ cond t 0 (suc n)
    go true e = refl
    go false e = omega arith

-- the place that std's search answers, or the end
pub before-found : (b : ℕ) (s : List ℕ) {r : Option ℕ} → r ≡ cond (ltb (position_or_len (λ c. eqb c b) s) (length s)) (Some (position_or_len (λ c. eqb c b) s)) None → unwrap_or r (length s) ≡ before b s
before-found b s e = rw e (go (ltb n (length s)) refl (before-is b s) (before-le b s))
  where
    n : ℕ
    n = position_or_len (λ c. eqb c b) s

    go : (t : Bool) → ltb n (length s) ≡ t → n ≡ before b s → before b s ≤ length s → unwrap_or (cond t (Some n) None) (length s) ≡ before b s
    go true f i h = i
    go false f i h = omega (arith, ltb-false n (length s) f)
