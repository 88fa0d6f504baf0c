-- When two runs of bytes are the same, by the test of the writer.
-- Assumes nothing.
use Prim.Native.Nat.{ℕ, ◌+◌, ◌≤◌, ◌<◌}
use native.Mathlib.Numerals.{add-one}
use native.Mathlib.Omega.{arith}
use mathlib.Core.Path.{◌≡◌, refl, sym, ap, ap₂, ◌∙◌}
use mathlib.Core.Bool.{Bool, true, false, ◌&&◌, true≢false, and-true, and_assoc}
use mathlib.Core.List.{List, [], ◌∷◌, ◌++◌}
use borrow.Author.Tests.{eq-eqb, eqb-true}
use lib.Dec.{eqb}
use lib.ListN.{length, get_or, take, drop}
use lib.Seq.{take-suc, length-take-le}
use Rattle.format.specs.Writer.{is_same}

-- a list is the same as itself
pub same-itself : (l : List ℕ) → is_same l l ≡ true
unfolding is_same
same-itself [] = refl
same-itself (x ∷ xs) = rw (eq-eqb x x refl) (same-itself xs)

-- and as no other one
pub same_lists : (l m : List ℕ) → is_same l m ≡ true → l ≡ m
unfolding is_same
same_lists [] [] e = refl
same_lists [] (y ∷ ys) e = absurd (true≢false (sym e))
same_lists (x ∷ xs) [] e = absurd (true≢false (sym e))
same_lists (x ∷ xs) (y ∷ ys) e = go (eqb x y) refl e (same_lists xs ys)
  where
    go : (t : Bool) → eqb x y ≡ t → (t && is_same xs ys) ≡ true → (is_same xs ys ≡ true → xs ≡ ys) → x ∷ xs ≡ y ∷ ys
    go true p q i = ap₂ (λ (a : ℕ) (l : List ℕ). a ∷ l) (eqb-true x y p) (i q)
    go false p q i = absurd (true≢false (sym q))

-- unequal ones fail it
pub same_not : (l m : List ℕ) → (l ≡ m → ⊥) → is_same l m ≡ false
same_not l m n = go (is_same l m) refl
  where
    go : (t : Bool) → is_same l m ≡ t → is_same l m ≡ false
    go true e = absurd (n (same_lists l m e))
    go false e = e

-- behind equal fronts, what is behind them decides
pub same-behind : (p l m : List ℕ) → is_same (p ++ l) (p ++ m) ≡ is_same l m
unfolding is_same
same-behind [] l m = refl
same-behind (x ∷ p) l m = rw (eq-eqb x x refl) (same-behind p l m)

-- two runs in a row are the same as x where each is the same as its part of x
pub same-split : (a b x : List ℕ) → length a ≤ length x → is_same (a ++ b) x ≡ (is_same a (take (length a) x) && is_same b (drop (length a) x))
unfolding is_same
same-split [] b x h = refl
same-split (u ∷ a) b [] h = absurd (omega arith)
same-split (u ∷ a) b (v ∷ x) h =
    ap (λ (t : Bool). eqb u v && t) (same-split a b x (omega arith))
    ∙ sym (and_assoc (eqb u v) (is_same a (take (length a) x)) (is_same b (drop (length a) x)))

-- with one byte more on each side
pub same_more : (a b : List ℕ) (i : ℕ) → i < length a → i < length b → is_same (take (i + 1) a) (take (i + 1) b) ≡ (is_same (take i a) (take i b) && eqb (get_or a i 0) (get_or b i 0))
unfolding is_same
same_more a b i p q = rw (add-one, take-suc a i 0 p, take-suc b i 0 q) (go (take i a) (take i b) (length-take-le i a (omega arith) ∙ sym (length-take-le i b (omega arith))))
  where
    x : ℕ
    x = get_or a i 0

    y : ℕ
    y = get_or b i 0

    go : (l m : List ℕ) → length l ≡ length m → is_same (l ++ x ∷ []) (m ++ y ∷ []) ≡ (is_same l m && eqb x y)
    go [] [] e = and-true (eqb x y)
    go [] (v ∷ m) e = absurd (omega (arith, e))
    go (u ∷ l) [] e = absurd (omega (arith, e))
    go (u ∷ l) (v ∷ m) e = rw (go l m (omega (arith, e))) (sym (and_assoc (eqb u v) (is_same l m) (eqb x y)))
