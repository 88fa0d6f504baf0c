-- `segments::pieces_length` meets its contract.
-- Assumes nothing.
use native.Mathlib.Omega.{arith}
use Rattle.format.specs.Sheet.{piece_count}
use Rattle.segments.proofs.pieces_length.Goals as goal

pub returns : goal.returns
unfolding piece_count
returns c = omega arith
