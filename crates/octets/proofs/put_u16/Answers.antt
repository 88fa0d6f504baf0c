-- `octets::put_u16` meets its contract. Two stores in a row are a run of stores, by computation.
-- Assumes nothing.
use native.Mathlib.Omega.{arith}
use native.Mathlib.Numerals.{add-one}
use lib.ListN.{length-set}
use Rattle.octets.specs.Octets.{bytes}
use Rattle.octets.proofs.put_u16.Goals as goal

pub bounds-s-at-2 : goal.bounds-s-at-2
bounds-s-at-2 c = simp length-set (omega arith)

pub returns : goal.returns
unfolding bytes
returns c = rw add-one
