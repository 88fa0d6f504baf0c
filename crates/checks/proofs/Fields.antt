-- Three fields of text: which one is named, by the tests of each.
-- Assumes nothing.
use Prim.Native.Nat.{ℕ}
use mathlib.Core.Path.{◌≡◌, sym}
use mathlib.Core.Bool.{Bool, cond}

-- the first of three tests that fails, where the tests are those of the fields
pub first-is : (i j k : ℕ) {r : ℕ} {a b c x y z : Bool} → a ≡ x → b ≡ y → c ≡ z → r ≡ cond a (cond b (cond c 0 k) j) i
    → r ≡ cond x (cond y (cond z 0 k) j) i
first-is i j k p q s e = rw (sym p, sym q, sym s) e
