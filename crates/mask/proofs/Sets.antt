-- A word that stands for a set of fields: its rule is one computed test over the 64 fields.
-- Assumes nothing.
use mathlib.Core.Path.{◌≡◌, refl, sym, ap, ◌∙◌}
use mathlib.Core.Bool.{Bool, true, false, not, ◌&&◌, beq, true≢false, and-true, and-false}
use mathlib.Core.List.{List, [], ◌∷◌}
use Prim.Native.Nat.{ℕ, ◌≤◌, ◌<◌, ◌^◌}
use native.Mathlib.Omega.{arith}
use borrow.Author.Tests.{eq-eqb, ne_eqb, eqb-true}
use lib.Dec.{T, eqb}
use lib.Bits.{bit_and, and_le_l}
use Rattle.octets.proofs.Computed.{all_from, both_left, both_right, from_all, beq-eq}
use Rattle.mask.specs.Fields.{announced, d32}
use Rattle.mask.specs.Mask.{is_in, any_set, is_gap, is_doubled}
use Rattle.mask.proofs.Bit.{set-and, set-none}
use Rattle.mask.proofs.Lowest.{none-zero}

-- f holds at each number of a list
abbrev pub all_in : (ℕ → Bool) → List ℕ → Bool
all_in f [] = true
all_in f (x ∷ xs) = f x && all_in f xs

-- the word announces just the fields at which f holds; for a list g, f is `λ n. is_in n g`
abbrev pub stands-for : ℕ → (ℕ → Bool) → Bool
stands-for w f = all_from (λ n. beq (announced w n) (f n)) 64 2

is_true : (b : Bool) → T b → b ≡ true
is_true true t = refl
is_true false t = absurd t

-- the rule of a word, at each field
pub fields : (w : ℕ) (f : ℕ → Bool) → T (stands-for w f) → (n : ℕ) → 2 ≤ n → n < 66 → announced w n ≡ f n
fields w f t n lo hi = beq-eq (announced w n) (f n) (from_all (λ n. beq (announced w n) (f n)) 64 2 t n lo hi)

-- where no field of a list is set, none of them is
pub none-set : (m n : ℕ) (g : List ℕ) → any_set m g ≡ false → is_in n g ≡ true → announced m n ≡ false
unfolding any_set is_in
none-set m n [] h k = absurd (true≢false (sym k))
none-set m n (x ∷ xs) h k = go (eqb n x) refl (announced m x) refl (λ p q. none-set m n xs p q)
  where
    go : (b : Bool) → eqb n x ≡ b → (s : Bool) → announced m x ≡ s → (any_set m xs ≡ false → is_in n xs ≡ true → announced m n ≡ false) → announced m n ≡ false
    go true e true f rest = absurd (true≢false (rw f at h))
    go true e false f rest = ap (announced m) (eqb-true n x e) ∙ f
    go false e true f rest = absurd (true≢false (rw f at h))
    go false e false f rest = rest (rw f at h) (rw e at k)

-- where one is set, the word of the set and m have a field in common
some-set : (m w : ℕ) (g : List ℕ) → T (all_in (announced w) g) → any_set m g ≡ true → bit_and m w ≡ 0 → ⊥
unfolding any_set
some-set m w [] t h z = true≢false (sym h)
some-set m w (x ∷ xs) t h z = go (announced m x) refl (λ p. some-set m w xs (both_right (announced w x) (all_in (announced w) xs) t) p z)
  where
    go : (s : Bool) → announced m x ≡ s → (any_set m xs ≡ true → ⊥) → ⊥
    go true f rest =
        true≢false (sym (set-and m w x ∙ rw (f, is_true (announced w x) (both_left (announced w x) (all_in (announced w) xs) t))) ∙ ap (λ (v : ℕ). announced v x) z ∙ set-none x)
    go false f rest = rest (rw f at h)

-- a word of a list of fields. That it has each of them is a test of its own: a list may name numbers that are no fields
module _ (m w : ℕ) (g : List ℕ) (t : T (stands-for w (λ n. is_in n g))) (u : T (all_in (announced w) g)) (h : m < 2 ^ 64) where
  -- the test of the word is the test of the list
  any-is : not (eqb (bit_and m w) 0) ≡ any_set m g
  any-is = go (any_set m g) refl
    where
      go : (s : Bool) → any_set m g ≡ s → not (eqb (bit_and m w) 0) ≡ s
      go true e = rw (ne_eqb (bit_and m w) 0 (some-set m w g u e))
      go false e = rw (eq-eqb (bit_and m w) 0 (none-zero (bit_and m w) (omega (arith, and_le_l m w)) (λ n lo hi. clear n lo hi (is_in n g) refl)))
        where
          clear : (n : ℕ) → 2 ≤ n → n < 66 → (s : Bool) → is_in n g ≡ s → announced (bit_and m w) n ≡ false
          clear n lo hi true k = set-and m w n ∙ rw (none-set m n g e k)
          clear n lo hi false k = set-and m w n ∙ rw (fields w (λ n. is_in n g) t n lo hi ∙ k) (and-false (announced m n))

  -- so what the word says of a gap is what the list says
  pub gap_is : (n : ℕ) → 2 ≤ n → n < 66 → (announced w n && not (announced m n) && not (eqb (bit_and m w) 0)) ≡ is_gap m g n
  unfolding is_gap
  gap_is n lo hi = rw (fields w (λ n. is_in n g) t n lo hi, any-is)

-- D32.4 and D32.5 beside D32.2 and D32.3
abbrev pub is_delta : ℕ → Bool
is_delta n = is_in n (d32 4 ∷ d32 5 ∷ [])

pub doubled-yes : (w m n : ℕ) → T (stands-for w is_delta) → 2 ≤ n → n < 66 → announced m 33 ≡ true → announced m 34 ≡ true → (announced w n && announced m n) ≡ is_doubled m n
unfolding is_doubled
doubled-yes w m n t lo hi a b = rw (fields w is_delta t n lo hi, a, b) (sym (and-true (is_delta n && announced m n)))

pub doubled-no33 : (m n : ℕ) → announced m 33 ≡ false → announced 0 n ≡ is_doubled m n
unfolding is_doubled
doubled-no33 m n a = rw (set-none n, a) (sym (and-false (is_delta n && announced m n)))

pub doubled-no34 : (m n : ℕ) → announced m 34 ≡ false → announced 0 n ≡ is_doubled m n
unfolding is_doubled
doubled-no34 m n a = rw (set-none n, a, and-false (announced m 33)) (sym (and-false (is_delta n && announced m n)))
