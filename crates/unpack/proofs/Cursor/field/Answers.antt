-- `unpack::Cursor::field` meets its contract. An announced field is copied, and one that is not is zero.
-- Assumes nothing.
use native.Mathlib.Omega.{arith}
use Rattle.octets.specs.Layout.{total}
use Rattle.unpack.proofs.Lines.{block_needs, block, blank}
use Rattle.unpack.proofs.Cursor.field.Goals as goal

pub block-requires : goal.block-requires
unfolding total
block-requires g c = omega (arith, block_needs c.requires.2 (rw (← c.has.ensures, c.if-has.true)))

pub blank-requires : goal.blank-requires
unfolding total
blank-requires g c = omega (arith, c.requires.2.room)

pub returns-then-has : goal.returns-then-has
unfolding total
returns-then-has g c = block (omega arith) c.requires.2 (rw (← c.has.ensures, c.if-has.true)) c.block.ensures

pub returns-else-has : goal.returns-else-has
unfolding total
returns-else-has g c = blank (omega arith) (rw (← c.has.ensures, c.if-has.false)) c.blank.ensures
