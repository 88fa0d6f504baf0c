-- The bytes that four fields take, looked up by the four bits that announce them: one law for any four widths.
-- Assumes nothing.
use mathlib.Core.Path.{◌≡◌, refl, sym, ap, ◌∙◌}
use mathlib.Core.Bool.{Bool, true, false, cond}
use mathlib.Core.List.{List, [], ◌∷◌}
use Prim.Native.Nat.{ℕ, zero, suc, ◌+◌, ◌-◌, ◌*◌, ◌/◌, ◌%◌, ◌^◌, ◌≤◌, ◌<◌}
use native.Mathlib.Nat.{div-one, div-div-eq-div-mul}
use native.Mathlib.Omega.{arith}
use lib.Dec.{eqb}
use lib.ListN.{get_or}
use lib.Pow.{shr-shr}
use Rattle.mask.specs.Fields.{announced, announced_length}

-- the 16 sums of four widths, the first width at the highest bit of the place
abbrev pub sums : ℕ → ℕ → ℕ → ℕ → List ℕ
sums a b c d =
    0 ∷ d ∷ c ∷ (c + d) ∷ b ∷ (b + d) ∷ (b + c) ∷ (b + c + d)
    ∷ a ∷ (a + d) ∷ (a + c) ∷ (a + c + d) ∷ (a + b) ∷ (a + b + d) ∷ (a + b + c) ∷ (a + b + c + d) ∷ []

-- a digit below 2 is 1 where it is set
digit : (x : ℕ) → x < 2 → x ≡ cond (eqb x 1) 1 0
digit zero h = refl
digit (suc zero) h = refl
digit (suc (suc x)) h = absurd (no x h)
  where
    no : (x : ℕ) → suc (suc x) < 2 → ⊥
    no x h = omega arith

-- a remainder by 16 is spelt by the number's four lowest bits
spelt : (q : ℕ) → q % 16 ≡ 8 * cond (eqb (q / 8 % 2) 1) 1 0 + 4 * cond (eqb (q / 4 % 2) 1) 1 0 + 2 * cond (eqb (q / 2 % 2) 1) 1 0 + cond (eqb (q % 2) 1) 1 0
spelt q =
    let x = digit (q / 8 % 2) (omega arith) in
    let y = digit (q / 4 % 2) (omega arith) in
    let z = digit (q / 2 % 2) (omega arith) in
    let w = digit (q % 2) (omega arith) in
    omega (arith, x, y, z, w, div-div-eq-div-mul q 2 2, div-div-eq-div-mul q 4 2, div-div-eq-div-mul q 8 2)

module _ (a b c d : ℕ) where
  -- the place that four bits spell has the sum of the widths whose bits are set
  place : (x y z w : Bool) → get_or (sums a b c d) (8 * cond x 1 0 + 4 * cond y 1 0 + 2 * cond z 1 0 + cond w 1 0) 0
      ≡ cond x a 0 + (cond y b 0 + (cond z c 0 + (cond w d 0 + 0)))
  place false false false false = omega arith
  place false false false true = omega arith
  place false false true false = omega arith
  place false false true true = omega arith
  place false true false false = omega arith
  place false true false true = omega arith
  place false true true false = omega arith
  place false true true true = omega arith
  place true false false false = omega arith
  place true false false true = omega arith
  place true false true false = omega arith
  place true false true true = omega arith
  place true true false false = omega arith
  place true true false true = omega arith
  place true true true false = omega arith
  place true true true true = omega arith

  -- so has a number's remainder by 16
  remainder : (q : ℕ) → get_or (sums a b c d) (q % 16) 0
      ≡ cond (eqb (q / 8 % 2) 1) a 0 + (cond (eqb (q / 4 % 2) 1) b 0 + (cond (eqb (q / 2 % 2) 1) c 0 + (cond (eqb (q % 2) 1) d 0 + 0)))
  remainder q =
      ap (λ (i : ℕ). get_or (sums a b c d) i 0) (spelt q)
      ∙ place (eqb (q / 8 % 2) 1) (eqb (q / 4 % 2) 1) (eqb (q / 2 % 2) 1) (eqb (q % 2) 1)

-- a field is announced by the bit j of what a shift by k leaves, where the two make up its place
bit : (mask k j n : ℕ) → 65 - n ≡ k + j → announced mask n ≡ eqb (mask / 2 ^ k / 2 ^ j % 2) 1
unfolding announced
bit mask k j n h = ap (λ (m : ℕ). eqb (mask / 2 ^ m % 2) 1) h ∙ ap (λ (m : ℕ). eqb (m % 2) 1) (sym (shr-shr mask k j))

-- four bits of the mask, from the field n on, look up what these fields take
four : (mask n a b c d : ℕ) → n ≤ 62 → get_or (sums a b c d) (mask / 2 ^ (62 - n) % 16) 0 ≡ announced_length mask n (a ∷ b ∷ c ∷ d ∷ [])
unfolding announced_length
four mask n a b c d h =
    let k = 62 - n in
    remainder a b c d (mask / 2 ^ k)
    ∙ rw (bit mask k 3 n (omega arith), bit mask k 2 (suc n) (omega arith), bit mask k 1 (suc (suc n)) (omega arith), bit mask k 0 (suc (suc (suc n))) (omega arith), div-one (mask / 2 ^ k))

-- a width of 0 adds nothing
none : (t : Bool) → ◌≡◌ {A = ℕ} (cond t 0 0) 0
none true = refl
none false = refl

-- so with one the same look-up gives what three fields take, and with two what two take
three : (mask n a b c : ℕ) → n ≤ 62 → get_or (sums a b c 0) (mask / 2 ^ (62 - n) % 16) 0 ≡ announced_length mask n (a ∷ b ∷ c ∷ [])
unfolding announced_length
three mask n a b c h = omega (arith, four mask n a b c 0 h, none (announced mask (suc (suc (suc n)))))

two : (mask n a b : ℕ) → n ≤ 62 → get_or (sums a b 0 0) (mask / 2 ^ (62 - n) % 16) 0 ≡ announced_length mask n (a ∷ b ∷ [])
unfolding announced_length
two mask n a b h = omega (arith, three mask n a b 0 h, none (announced mask (suc (suc n))))

-- the same of the widths of a range of the table, with its first field
module _ (mask n : ℕ) (ws : List ℕ) (h : n ≤ 62) where
  abbrev at : ℕ → ℕ
  at i = get_or ws i 0

  pub four-fields : get_or (sums (at 0) (at 1) (at 2) (at 3)) (mask / 2 ^ (62 - n) % 16) 0 ≡ announced_length mask n (at 0 ∷ at 1 ∷ at 2 ∷ at 3 ∷ [])
  four-fields = four mask n (at 0) (at 1) (at 2) (at 3) h

  pub three-fields : get_or (sums (at 0) (at 1) (at 2) 0) (mask / 2 ^ (62 - n) % 16) 0 ≡ announced_length mask n (at 0 ∷ at 1 ∷ at 2 ∷ [])
  three-fields = three mask n (at 0) (at 1) (at 2) h

  pub two_fields : get_or (sums (at 0) (at 1) 0 0) (mask / 2 ^ (62 - n) % 16) 0 ≡ announced_length mask n (at 0 ∷ at 1 ∷ [])
  two_fields = two mask n (at 0) (at 1) h
