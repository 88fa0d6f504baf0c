-- `pack::field` meets its contract. An announced field is copied, and one that is not is left out. Assumes nothing.
use mathlib.Core.Path.{refl}
use native.Mathlib.Omega.{arith}
use borrow.Author.Rules.{rules}
use Rattle.octets.specs.Layout.{total}
use Rattle.pack.proofs.Lines.{block_needs, block, blank}
use Rattle.pack.proofs.field.Goals as goal

pub block-requires : goal.block-requires
unfolding total
block-requires g c = omega (arith, block_needs c.requires.2 (rw (← c.has.ensures, c.if-has.true)))

pub overflow_add-u : goal.overflow_add-u
unfolding total
overflow_add-u g c = search (rules, c.requires.2.held)

pub returns-then-has : goal.returns-then-has
unfolding total
returns-then-has g c = block (omega arith) (rw (← c.has.ensures, c.if-has.true)) c.block.ensures

pub returns-else-has : goal.returns-else-has
unfolding total
returns-else-has g c =
    blank (omega arith) (rw (← c.has.ensures, c.if-has.false))
    (record { next = refl; behind = omega arith; stored = refl; long = refl; given = refl; masked = refl; lent = refl })
