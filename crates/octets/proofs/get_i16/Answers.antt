-- `octets::get_i16` meets its contract. The bits are what get_u16 ensures, read as signed, which `twos-is` says of the contract's reading.
-- Assumes nothing.
use Prim.Native.Nat.{ℕ}
use mathlib.Core.Path.{◌≡◌, refl, sym, ap, ◌∙◌}
use mathlib.Core.List.{List}
use native.Mathlib.Omega.{arith}
use lib.IntN.{ℤ}
use mir.Syntax.{w16}
use mir.Val.{to_z}
use Rattle.std.proofs.lemmas.Int.{ints}
use Rattle.octets.specs.Octets.{be, twos, signed}
use Rattle.octets.proofs.Signed.{twos-is}
use Rattle.octets.proofs.get_i16.Goals as goal

-- the bits n of s, read as signed
read : {z : ℤ} {n : ℕ} (s : List ℕ) → n ≡ be 2 s → z ≡ to_z w16 n → z ≡ signed 2 s
unfolding signed
read {n = n} s e h = h ∙ sym (twos-is 2 w16 refl n) ∙ ap (twos 2) e

pub returns : goal.returns
returns c = read _ c.get_u16.ensures (grind (arith, ints))
