-- `octets::get_u16` meets its contract. The value is `be 2` written out.
-- Assumes nothing.
use native.Mathlib.Omega.{arith}
use native.Mathlib.Nat.{add-zero}
use lib.Seq.{get_or-drop}
use Rattle.octets.specs.Octets.{be}
use Rattle.octets.proofs.get_u16.Goals as goal

pub returns : goal.returns
unfolding be
returns c = simp (get_or-drop, add-zero) (omega arith)
