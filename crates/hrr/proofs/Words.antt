-- The words of the mandatory fields and of the spare bits stand for their lists, so that one test of words is row 21's of each field.
-- Assumes nothing.
use mathlib.Core.Path.{◌≡◌, refl, sym, ap, ◌∙◌}
use mathlib.Core.Bool.{Bool, true, false, not, ◌&&◌, ◌||◌, and-eq-true_iff, true≢false}
use mathlib.Core.List.{List, [], ◌∷◌}
use Prim.Native.Nat.{ℕ, ◌≤◌, ◌<◌, ◌^◌}
use borrow.Author.Tests.{eq-eqb, ne_eqb, eqb-true, leb-true}
use native.Mathlib.Omega.{arith}
use lib.Dec.{T, leb, eqb}
use Rattle.mask.specs.Fields.{announced}
use Rattle.mask.specs.Mask.{is_in, any_set}
use Rattle.mask.proofs.Bit.{set-none}
use Rattle.mask.proofs.Lowest.{none-zero}
use Rattle.mask.proofs.Sets.{all_in, fields, none-set}
use Rattle.octets.proofs.Computed.{both_left, both_right}
use Rattle.hrr.specs.Hrr.{mandatory, spare, all_set, is_hrr_mask}

-- a number of a list is one of a longer list
later : (n x : ℕ) (xs : List ℕ) → is_in n xs ≡ true → is_in n (x ∷ xs) ≡ true
unfolding is_in
later n x xs k = go (eqb n x)
  where
    go : (b : Bool) → (b || is_in n xs) ≡ true
    go true = refl
    go false = k

module _ (m : ℕ) where
  -- where each field of a list is set, the one with this number is
  pub each_set : (n : ℕ) (g : List ℕ) → all_set m g ≡ true → is_in n g ≡ true → announced m n ≡ true
  unfolding all_set is_in
  each_set n [] h k = absurd (true≢false (sym k))
  each_set n (x ∷ xs) h k = go (eqb n x) refl ((and-eq-true_iff (announced m x) (all_set m xs)).0 h) (λ p q. each_set n xs p q)
    where
      go : (b : Bool) → eqb n x ≡ b → (announced m x ≡ true) × (all_set m xs ≡ true) → (all_set m xs ≡ true → is_in n xs ≡ true → announced m n ≡ true) → announced m n ≡ true
      go true e p rest = ap (announced m) (eqb-true n x e) ∙ p.0
      go false e p rest = rest p.1 (rw e at k)

  -- and where each number of a list is that of a set field, all are set; where none is, none is
  all_set_lem : (g : List ℕ) → ((n : ℕ) → is_in n g ≡ true → announced m n ≡ true) → all_set m g ≡ true
  unfolding all_set is_in
  all_set_lem [] h = refl
  all_set_lem (x ∷ xs) h = rw (h x (rw (eq-eqb x x refl)), all_set_lem xs (λ n k. h n (later n x xs k)))

  not-any : (g : List ℕ) → ((n : ℕ) → is_in n g ≡ true → announced m n ≡ false) → any_set m g ≡ false
  unfolding any_set is_in
  not-any [] h = refl
  not-any (x ∷ xs) h = rw (h x (rw (eq-eqb x x refl))) (not-any xs (λ n k. h n (later n x xs k)))

-- a number of a list that has none but those of fields
within : (n : ℕ) (g : List ℕ) → T (all_in (λ x. leb 2 x && leb x 65) g) → is_in n g ≡ true → (2 ≤ n) × (n < 66)
unfolding is_in
within n [] t k = absurd (true≢false (sym k))
within n (x ∷ xs) t k = go (eqb n x) refl (λ q. within n xs (both_right (leb 2 x && leb x 65) (all_in (λ x. leb 2 x && leb x 65) xs) t) q)
  where
    is : (b : Bool) → T b → b ≡ true
    is true u = refl
    is false u = absurd u

    go : (b : Bool) → eqb n x ≡ b → (is_in n xs ≡ true → (2 ≤ n) × (n < 66)) → (2 ≤ n) × (n < 66)
    go true e rest =
        let both = both_left (leb 2 x && leb x 65) (all_in (λ x. leb 2 x && leb x 65) xs) t in
        let lo = leb-true 2 x (is (leb 2 x) (both_left (leb 2 x) (leb x 65) both)) in
        let hi = leb-true x 65 (is (leb x 65) (both_right (leb 2 x) (leb x 65) both)) in
        let same = eqb-true n x e in
        (omega arith, omega arith)
    go false e rest = rest (rw e at k)

-- the word of the fields at fault, of a mask that row 21 looks at
module _ (m w : ℕ) (h : w < 2 ^ 64)
    (at : (n : ℕ) → announced w n ≡ ((announced 0xE2FB_C782_0000_0000 n && not (announced m n)) || (announced 0x3F00_0000 n && announced m n))) where
  mandatory-word : (n : ℕ) → 2 ≤ n → n < 66 → announced 0xE2FB_C782_0000_0000 n ≡ is_in n mandatory
  unfolding announced is_in
  mandatory-word = fields 0xE2FB_C782_0000_0000 (λ n. is_in n mandatory) tt

  spare-word : (n : ℕ) → 2 ≤ n → n < 66 → announced 0x3F00_0000 n ≡ is_in n spare
  unfolding announced is_in
  spare-word = fields 0x3F00_0000 (λ n. is_in n spare) tt

  -- none is at fault where all mandatory ones are set, and no spare one
  none-at-fault : all_set m mandatory ≡ true → any_set m spare ≡ false → w ≡ 0
  none-at-fault a s = none-zero w h (λ n lo hi. at n ∙ rw (mandatory-word n lo hi, spare-word n lo hi) (go n (is_in n mandatory) refl (is_in n spare) refl))
    where
      go : (n : ℕ) (x : Bool) → is_in n mandatory ≡ x → (y : Bool) → is_in n spare ≡ y → ((x && not (announced m n)) || (y && announced m n)) ≡ false
      go n true e true f = absurd (true≢false (sym (each_set m n mandatory a e) ∙ none-set m n spare s f))
      go n true e false f = rw (each_set m n mandatory a e)
      go n false e true f = none-set m n spare s f
      go n false e false f = refl

  -- and where none is at fault, they are
  all_there : w ≡ 0 → all_set m mandatory ≡ true
  all_there z = all_set_lem m mandatory (λ n k. go n k (within n mandatory tt k))
    where
      go : (n : ℕ) → is_in n mandatory ≡ true → (2 ≤ n) × (n < 66) → announced m n ≡ true
      go n k p =
          let none : ((announced 0xE2FB_C782_0000_0000 n && not (announced m n)) || (announced 0x3F00_0000 n && announced m n)) ≡ false =
          sym (at n) ∙ ap (λ (v : ℕ). announced v n) z ∙ set-none n in
          said (announced m n) (rw (mandatory-word n p.0 p.1 ∙ k) at none)
        where
          said : (b : Bool) → ((true && not b) || (announced 0x3F00_0000 n && b)) ≡ false → b ≡ true
          said true e = refl
          said false e = absurd (true≢false e)

  none-spare : w ≡ 0 → any_set m spare ≡ false
  none-spare z = not-any m spare (λ n k. go n k (within n spare tt k))
    where
      go : (n : ℕ) → is_in n spare ≡ true → (2 ≤ n) × (n < 66) → announced m n ≡ false
      go n k p =
          let none : ((announced 0xE2FB_C782_0000_0000 n && not (announced m n)) || (announced 0x3F00_0000 n && announced m n)) ≡ false =
          sym (at n) ∙ ap (λ (v : ℕ). announced v n) z ∙ set-none n in
          said (announced m n) (announced 0xE2FB_C782_0000_0000 n) (rw (spare-word n p.0 p.1 ∙ k) at none)
        where
          said : (b c : Bool) → ((c && not b) || (true && b)) ≡ false → b ≡ false
          said true true e = absurd (true≢false e)
          said true false e = absurd (true≢false e)
          said false c e = refl

  pub mask_is : eqb w 0 ≡ is_hrr_mask m
  unfolding is_hrr_mask
  mask_is = go (all_set m mandatory) refl (any_set m spare) refl
    where
      go : (a : Bool) → all_set m mandatory ≡ a → (s : Bool) → any_set m spare ≡ s → eqb w 0 ≡ (a && not s)
      go true e true f = ne_eqb w 0 (λ z. true≢false (sym f ∙ none-spare z))
      go true e false f = eq-eqb w 0 (none-at-fault e f)
      go false e s f = ne_eqb w 0 (λ z. true≢false (sym (all_there z) ∙ e))
