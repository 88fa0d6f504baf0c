-- `octets::put_i32` meets its contract. The bits are written, which `signed_written` says of the contract's bytes.
-- Assumes nothing.
use mathlib.Core.Path.{refl, ap, ◌∙◌}
use mir.Syntax.{w32}
use lib.Seq.{sets}
use Rattle.octets.specs.Octets.{bytes}
use Rattle.octets.proofs.Signed.{signed_written}
use Rattle.octets.proofs.put_i32.Goals as goal

pub returns : goal.returns
returns c = c.put_u32.ensures ∙ ap (sets c.args.s.now c.args.at) (ap (bytes 4) c.cast_unsigned.ensures ∙ signed_written 4 w32 refl c.args.v c.ranges.v)
