-- `checks::reading_of` meets its contract. The first character of P1 is a digit above 0.
-- Assumes nothing.
use mathlib.Core.Path.{refl}
use native.Mathlib.Omega.{arith}
use Rattle.format.specs.Packet.{version}
use Rattle.format.proofs.Acceptance.{header-sized, header-digit}
use Rattle.checks.proofs.reading_of.Goals as goal

pub bounds-packet-0 : goal.bounds-packet-0
bounds-packet-0 c = omega (arith, (header-sized c.args.settings c.args.packet.now c.requires).long)

pub overflow_sub-version : goal.overflow_sub-version
overflow_sub-version c = header-digit c.args.settings c.args.packet.now c.requires

pub returns : goal.returns
unfolding version
returns c = refl
