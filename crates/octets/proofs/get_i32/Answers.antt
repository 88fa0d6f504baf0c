-- `octets::get_i32` meets its contract. The bits are what get_u32 ensures, read as signed, which `twos-is` says of the contract's reading.
-- Assumes nothing.
use borrow.Author.Rules.{sfits_of}
use mathlib.Core.Path.{refl, sym, ap, ◌∙◌}
use mir.Syntax.{w32}
use mir.Facts.{to_z-of_z}
use Rattle.octets.specs.Octets.{twos, signed}
use Rattle.octets.proofs.Signed.{twos-is}
use Rattle.octets.proofs.get_i32.Goals as goal

pub returns : goal.returns
unfolding signed
returns c = to_z-of_z (sfits_of {w = w32} c.cast_signed.type_inv) ∙ c.cast_signed.ensures ∙ sym (twos-is 4 w32 refl c.get_u32.result) ∙ ap (twos 4) c.get_u32.ensures
