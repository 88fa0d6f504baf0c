-- `bound::sheet_bound` meets its contract. What it answers is the bound, and that is enough (crate demands).
-- Assumes nothing.
use Prim.Native.Nat.{ℕ, ◌<◌}
use mathlib.Core.Path.{◌≡◌, refl, sym}
use mathlib.Core.Bool.{Bool, true, false, ◌&&◌}
use borrow.Author.Tests.{lt-leb}
use lib.Dec.{leb}
use Rattle.format.specs.Bound.{sheet_bound, EnoughFor}
use Rattle.demands.proofs.Bound.{bound-is, enough}
use Rattle.bound.proofs.sheet_bound.Goals as goal

-- the bound is enough
promised : (n r : ℕ) → sheet_bound n ≡ r → (r ≡ sheet_bound n) × EnoughFor n r
promised n r e = (sym e, rw (sym e) (enough n))

-- it is 0 where no packet has so many bytes
too_few : (n : ℕ) → n < 32 → sheet_bound n ≡ 0
unfolding sheet_bound
too_few n h = rw (lt-leb 32 n h)

too_many : (n : ℕ) → 65536 < n → sheet_bound n ≡ 0
unfolding sheet_bound
too_many n h = rw (lt-leb n 65536 h, neither-way (leb 32 n))
  where
    neither-way : (t : Bool) → (t && false) ≡ false
    neither-way true = refl
    neither-way false = refl

pub returns-then-n-lt-LEN : goal.returns-then-n-lt-LEN
returns-then-n-lt-LEN c = promised _ 0 (too_few _ c.if-n-lt-LEN.true)

pub returns-then-n-gt-LONGEST_PACKET : goal.returns-then-n-gt-LONGEST_PACKET
returns-then-n-gt-LONGEST_PACKET c = promised _ 0 (too_many _ c.if-n-gt-LONGEST_PACKET.true)

pub returns : goal.returns
returns c = promised _ _ (bound-is _ c.if-n-lt-LEN.false c.if-n-gt-LONGEST_PACKET.false)
