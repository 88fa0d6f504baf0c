-- Tests gathered in a byte: 0 where all hold, else 1.
-- Assumes nothing.
use mathlib.Core.Path.{◌≡◌, refl}
use mathlib.Core.Bool.{Bool, true, false, ◌&&◌, cond}
use lib.Bits.{bit_or}
use lib.Dec.{eqb}

-- two tests, each 0 where it holds and else 1
pub or_is : (b c : Bool) → bit_or (cond b 0 1) (cond c 0 1) ≡ cond (b && c) 0 1
or_is true true = refl
or_is true false = refl
or_is false true = refl
or_is false false = refl

-- the byte is zero where the test holds
pub is_zero : (b : Bool) → eqb (cond b 0 1) 0 ≡ b
is_zero true = refl
is_zero false = refl
