-- A mask without a field at fault announces every field that is required, and these take all their bytes.
-- Assumes nothing.
use mathlib.Core.Path.{◌≡◌, refl, sym, ap, ◌∙◌}
use mathlib.Core.Logic.{◌⊎◌, inl, inr}
use mathlib.Core.Bool.{Bool, true, false, cond, ◌&&◌, ◌||◌, true≢false}
use mathlib.Core.List.{List, ◌++◌}
use Prim.Native.Nat.{ℕ, zero, suc, ◌+◌, ◌≤◌, ◌<◌}
use native.Mathlib.Nat.{eq-or-lt_of_le}
use native.Mathlib.Omega.{arith}
use borrow.Author.Tests.{leb-true}
use lib.Dec.{leb}
use Rattle.mask.specs.Fields.{announced, announced_length}
use Rattle.mask.specs.Mask.{is_required, is_fault, first_from, lowest_fault}
use Rattle.mask.specs.InnerFields.{widths, Required}

-- where the first number at which f holds is 0, f holds at none of the numbers looked at
first-zero : (f : ℕ → Bool) (k n : ℕ) → 0 < n → first_from f k n ≡ 0 → (m : ℕ) → n ≤ m → m < n + k → f m ≡ false
unfolding first_from
first-zero f zero n p e m lo hi = absurd (omega arith)
first-zero f (suc k) n p e m lo hi = go (f n) refl e (eq-or-lt_of_le lo) (λ q l. first-zero f k (suc n) (omega arith) q m l (omega arith))
  where
    go : (b : Bool) → f n ≡ b → cond b n (first_from f k (suc n)) ≡ 0 → (n ≡ m) ⊎ (n < m) → (first_from f k (suc n) ≡ 0 → n < m → f m ≡ false) → f m ≡ false
    go true h e s rest = absurd (omega arith)
    go false h e (inl q) rest = ap f (sym q) ∙ h
    go false h e (inr l) rest = rest e l

-- a required field lies between 2 and 27
required-within : (n : ℕ) → is_required n ≡ true → (2 ≤ n) × (n ≤ 27)
unfolding is_required
required-within n e = go (leb 2 n) (leb n 9) (leb 24 n) (leb n 27) refl refl refl refl e
  where
    go : (a b c d : Bool) → leb 2 n ≡ a → leb n 9 ≡ b → leb 24 n ≡ c → leb n 27 ≡ d → (a && b || c && d) ≡ true → (2 ≤ n) × (n ≤ 27)
    go true true c d ha hb hc hd e = (leb-true 2 n ha, omega (arith, leb-true n 9 hb))
    go true false true true ha hb hc hd e = (leb-true 2 n ha, leb-true n 27 hd)
    go true false true false ha hb hc hd e = absurd (true≢false (sym e))
    go true false false d ha hb hc hd e = absurd (true≢false (sym e))
    go false b true true ha hb hc hd e = (omega (arith, leb-true 24 n hc), leb-true n 27 hd)
    go false b true false ha hb hc hd e = absurd (true≢false (sym e))
    go false b false d ha hb hc hd e = absurd (true≢false (sym e))

-- so it is announced where no field is at fault
pub required-announced : (version mask : ℕ) → lowest_fault version mask ≡ 0 → (n : ℕ) → is_required n ≡ true → announced mask n ≡ true
unfolding lowest_fault is_fault
required-announced version mask e n q =
    let w = required-within n q in
    go (announced mask n) refl (first-zero (is_fault version mask) 64 2 (omega arith) e n w.0 (omega arith))
  where
    go : (b : Bool) → announced mask n ≡ b → is_fault version mask n ≡ false → announced mask n ≡ true
    go true h f = h
    go false h f = absurd (true≢false (sym (rw (q, h)) ∙ f))

-- the required fields take 23 bytes before D10 and 12 from D24 on, whatever follows them
module _ (mask : ℕ) (h : Required mask) where
  pub from-10 : (ws : List ℕ) → announced_length mask 2 (widths 2 9 ++ ws) ≡ 23 + announced_length mask 10 ws
  unfolding is_required announced_length
  from-10 ws = rw (h 2 refl, h 3 refl, h 4 refl, h 5 refl, h 6 refl, h 7 refl, h 8 refl, h 9 refl) (omega arith)

  pub from-28 : (ws : List ℕ) → announced_length mask 24 (widths 24 27 ++ ws) ≡ 12 + announced_length mask 28 ws
  unfolding is_required announced_length
  from-28 ws = rw (h 24 refl, h 25 refl, h 26 refl, h 27 refl) (omega arith)
