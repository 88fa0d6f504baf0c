-- Six digits without a leading zero are more than is ever asked for, so an input of seven bytes or more asks for nothing, and the
-- first seven decide.
-- Assumes nothing.
use Prim.Native.Nat.{ℕ, ◌-◌, ◌*◌, ◌≤◌, ◌<◌}
use native.Mathlib.Omega.{arith}
use mathlib.Core.Path.{◌≡◌, refl, sym, ◌∙◌}
use mathlib.Core.Bool.{Bool, true, false, cond, not, ◌&&◌, and-eq-true_iff}
use mathlib.Core.List.{List, [], ◌∷◌}
use borrow.Author.Tests.{leb-true, leb-false, lt-leb, eqb-false}
use lib.Dec.{leb, ltb, eqb}
use lib.ListN.{length, get_or, take}
use lib.Seq.{take_all, length-take-le}
use Rattle.vectors.specs.Vectors.{is_digit, are_digits, is_number, digit_value, with_digit, spelt}
use Rattle.vectors.proofs.Spellings.{digit-range}
use Rattle.gmti_longest.specs.Longest.{without_line_feed, is_asked, asked, written}
use Rattle.gmti_longest.specs.Input.{FrontDecides}

-- each digit makes a number ten times as large, and none makes it smaller
tenfold : (b n c : ℕ) → b ≤ n → 10 * b ≤ 4294967296 → 10 * b ≤ with_digit n c
unfolding with_digit
tenfold b n c h m = omega arith

pub digit-most : (n c : ℕ) → with_digit n c ≤ 4294967296
unfolding with_digit
digit-most n c = omega arith

pub kept : (s : List ℕ) (n b : ℕ) → b ≤ n → b ≤ 4294967296 → b ≤ spelt s n
unfolding spelt with_digit
kept [] n b h m = h
kept (c ∷ s) n b h m = kept s (with_digit n c) b (omega arith) m

-- the first digit, where it is not 0
first-digit : (c : ℕ) → is_digit c ≡ true → eqb c 48 ≡ false → 1 ≤ with_digit 0 c
unfolding with_digit digit_value
first-digit c d z = let r = digit-range c d in let n : (c ≡ 48 → ⊥) = eqb-false c 48 z in rw d (omega (arith, n))

-- six digits and more
six-digits : (d : List ℕ) → 6 ≤ length d → are_digits d ≡ true → eqb (get_or d 0 0) 48 ≡ false → 100000 ≤ spelt d 0
unfolding are_digits spelt
six-digits [] h a z = absurd (omega arith)
six-digits (c ∷ []) h a z = absurd (omega arith)
six-digits (c ∷ c1 ∷ []) h a z = absurd (omega arith)
six-digits (c ∷ c1 ∷ c2 ∷ []) h a z = absurd (omega arith)
six-digits (c ∷ c1 ∷ c2 ∷ c3 ∷ []) h a z = absurd (omega arith)
six-digits (c ∷ c1 ∷ c2 ∷ c3 ∷ c4 ∷ []) h a z = absurd (omega arith)
six-digits (c ∷ c1 ∷ c2 ∷ c3 ∷ c4 ∷ c5 ∷ s) h a z =
    let one = first-digit c ((and-eq-true_iff _ _).0 a).0 z in
    kept s _ 100000
    (tenfold 10000 _ c5
    (tenfold 1000 _ c4
    (tenfold 100 _ c3
    (tenfold 10 _ c2
    (tenfold 1 _ c1 one (omega arith))
    (omega arith))
    (omega arith))
    (omega arith))
    (omega arith))
    (omega arith)

-- so they ask for nothing
six-ask-none : (d : List ℕ) → 6 ≤ length d → is_asked d ≡ false
unfolding is_asked is_number
six-ask-none d h = go (are_digits d) (ltb 0 (length d)) (eqb (get_or d 0 0) 48) refl refl
  where
    go : (a b z : Bool) → are_digits d ≡ a → eqb (get_or d 0 0) 48 ≡ z → (a && b && not z && leb (spelt d 0) 16362) ≡ false
    go true true false p q = lt-leb (spelt d 0) 16362 (omega (arith, six-digits d h p q))
    go true true true p q = refl
    go true false z p q = refl
    go false b z p q = refl

-- an input of seven bytes has six in front of a line feed
seven-digits : (l : List ℕ) → 7 ≤ length l → 6 ≤ length (without_line_feed l)
unfolding without_line_feed
seven-digits l h = go (eqb (get_or l (length l - 1) 0) 10)
  where
    go : (t : Bool) → 6 ≤ length (cond t (take (length l - 1) l) l)
    go true = omega (arith, length-take-le (length l - 1) l (omega arith))
    go false = omega arith

seven-ask-none : (l : List ℕ) → 7 ≤ length l → asked l ≡ 0
unfolding asked
seven-ask-none l h = rw (six-ask-none (without_line_feed l) (seven-digits l h))

-- so the first seven bytes decide what is asked for, and what is written
asked-by-front : (l : List ℕ) → asked (take 7 l) ≡ asked l
asked-by-front l = go (leb (length l) 7) refl
  where
    go : (t : Bool) → leb (length l) 7 ≡ t → asked (take 7 l) ≡ asked l
    go true e = rw (take_all 7 l (leb-true (length l) 7 e))
    go false e =
        let long : 7 < length l = leb-false (length l) 7 e in
        seven-ask-none (take 7 l) (omega (arith, length-take-le 7 l (omega arith))) ∙ sym (seven-ask-none l (omega arith))

pub front-decides : FrontDecides
unfolding written
front-decides l = rw (asked-by-front l)
