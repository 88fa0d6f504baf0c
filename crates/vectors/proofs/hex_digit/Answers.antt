-- `vectors::hex_digit` meets its contract. The digits below 10 and the letters.
-- Assumes nothing.
use native.Mathlib.Omega.{arith}
use mathlib.Core.Path.{sym}
use Rattle.vectors.proofs.Spellings.{hex-low, hex-high}
use Rattle.vectors.proofs.hex_digit.Goals as goal

pub returns-then-d-lt10 : goal.returns-then-d-lt10
returns-then-d-lt10 c = sym (hex-low c.args.d (omega arith))

pub returns-else-d-lt10 : goal.returns-else-d-lt10
returns-else-d-lt10 c = sym (hex-high c.args.d (omega arith))
