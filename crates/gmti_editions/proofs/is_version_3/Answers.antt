-- `gmti_editions::is_version_3` meets its contract. A version is its character's distance from the character 0.
-- Assumes nothing.
use Prim.Native.Nat.{ℕ, ◌-◌}
use native.Mathlib.Omega.{arith}
use mathlib.Core.Path.{◌≡◌, refl, sym}
use mathlib.Core.Bool.{Bool, true, false}
use borrow.Author.Tests.{le-ltb, eq-eqb, ne_eqb, eqb-true, eqb-false}
use lib.Dec.{eqb}
use lib.ListN.{length, get_or, get_or-eq_default}
use Rattle.format.specs.Packet.{version}
use Rattle.gmti_editions.proofs.is_version_3.Goals as goal

-- the character 3 alone is 3 behind the character 0
three : (x : ℕ) → eqb x 51 ≡ eqb (x - 48) 3
three x = go (eqb x 51) refl
  where
    go : (t : Bool) → eqb x 51 ≡ t → t ≡ eqb (x - 48) 3
    go true e = sym (eq-eqb (x - 48) 3 (omega (arith, eqb-true x 51 e)))
    go false e = sym (ne_eqb (x - 48) 3 (λ h. eqb-false x 51 e (omega arith)))

pub returns-then-packet-gt0 : goal.returns-then-packet-gt0
unfolding version
returns-then-packet-gt0 c = three (get_or c.args.packet.now 0 0)

pub returns-else-packet-gt0 : goal.returns-else-packet-gt0
unfolding version
returns-else-packet-gt0 c = let l = c.args.packet.now in rw (le-ltb 0 (length l) c.if-packet-gt0.false, get_or-eq_default l 0 {n = 0} c.if-packet-gt0.false)
