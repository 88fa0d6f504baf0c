-- The types of segments, told apart.
-- Assumes nothing.
use Prim.Native.Nat.{ℕ}
use mathlib.Core.Path.{◌≡◌, refl, sym, ap, ◌∙◌, subst}
use mathlib.Core.Bool.{Bool, true, false}
use borrow.Author.Tests.{eqb-true, ne_eqb}
use lib.Dec.{eqb}
use Rattle.format.specs.declared.Reading.{Reading}
use Rattle.format.specs.Edition.{is_hrr}
use Rattle.format.proofs.Rows.{both}

-- a segment that is read field by field as an HRR segment has type 3
pub hrr-type : (r : Reading) (t : ℕ) → is_hrr r t ≡ true → t ≡ 3
unfolding is_hrr
hrr-type r t h = eqb-true t 3 (both (eqb t 3) _ h).0

-- so one of another type is none
pub other-than-hrr : (r : Reading) (t : ℕ) → (t ≡ 3 → ⊥) → is_hrr r t ≡ false
unfolding is_hrr
other-than-hrr r t h = rw (ne_eqb t 3 h)

-- one case for each type of segment that has rows of its own, type 3 where it is read field by field, and one for the others
pub by_number : (r : Reading) (P : ℕ → Type 0) → P 1 → P 2 → (is_hrr r 3 ≡ true → P 3) → P 5 → P 6 → P 10 → P 13
    → ((t : ℕ) → eqb t 1 ≡ false → eqb t 2 ≡ false → is_hrr r t ≡ false → eqb t 5 ≡ false → eqb t 6 ≡ false → eqb t 10 ≡ false → eqb t 13 ≡ false
    → P t)
    → (t : ℕ) → P t
by_number r P a b h c d e f others t =
    go (eqb t 1) refl (eqb t 2) refl (is_hrr r t) refl (eqb t 5) refl (eqb t 6) refl (eqb t 10) refl (eqb t 13) refl
  where
    is : (n : ℕ) → eqb t n ≡ true → P n → P t
    is n e p = subst P (sym (eqb-true t n e)) p

    is-hrr : is_hrr r t ≡ true → P t
    is-hrr e = let three = hrr-type r t e in subst P (sym three) (h (sym (ap (is_hrr r) three) ∙ e))

    go : (x1 : Bool) → eqb t 1 ≡ x1 → (x2 : Bool) → eqb t 2 ≡ x2 → (x3 : Bool) → is_hrr r t ≡ x3 → (x5 : Bool) → eqb t 5 ≡ x5
        → (x6 : Bool) → eqb t 6 ≡ x6 → (x10 : Bool) → eqb t 10 ≡ x10 → (x13 : Bool) → eqb t 13 ≡ x13 → P t
    go true h1 x2 h2 x3 h3 x5 h5 x6 h6 x10 h10 x13 h13 = is 1 h1 a
    go false h1 true h2 x3 h3 x5 h5 x6 h6 x10 h10 x13 h13 = is 2 h2 b
    go false h1 false h2 true h3 x5 h5 x6 h6 x10 h10 x13 h13 = is-hrr h3
    go false h1 false h2 false h3 true h5 x6 h6 x10 h10 x13 h13 = is 5 h5 c
    go false h1 false h2 false h3 false h5 true h6 x10 h10 x13 h13 = is 6 h6 d
    go false h1 false h2 false h3 false h5 false h6 true h10 x13 h13 = is 10 h10 e
    go false h1 false h2 false h3 false h5 false h6 false h10 true h13 = is 13 h13 f
    go false h1 false h2 false h3 false h5 false h6 false h10 false h13 = others t h1 h2 h3 h5 h6 h10 h13
