-- `unpack::Cursor::field_onto_zeros` meets its contract. Where a field is not announced, its zeros are there.
-- Assumes nothing.
use native.Mathlib.Omega.{arith}
use borrow.Author.Rules.{rules}
use mathlib.Core.Path.{refl}
use Rattle.octets.specs.Layout.{total}
use Rattle.unpack.proofs.Lines.{block_needs, block, blank-there}
use Rattle.unpack.proofs.Cursor.field_onto_zeros.Goals as goal

pub block-requires : goal.block-requires
unfolding total
block-requires g c = omega (arith, block_needs c.requires.2 (rw (← c.has.ensures, c.if-has.true)))

pub overflow_add-self : goal.overflow_add-self
unfolding total
overflow_add-self g c = search (rules, c.requires.2.room)

pub returns-then-has : goal.returns-then-has
unfolding total
returns-then-has g c = block (omega arith) c.requires.2 (rw (← c.has.ensures, c.if-has.true)) c.block.ensures

pub returns-else-has : goal.returns-else-has
unfolding total
returns-else-has g c =
    blank-there (omega arith) c.requires.2 (rw (← c.has.ensures, c.if-has.false)) c.requires.3
    (record { next = omega arith; behind = refl; stored = refl; long = refl; given = refl; masked = refl; lent = refl })
