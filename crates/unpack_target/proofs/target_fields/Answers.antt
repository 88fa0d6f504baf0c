-- `unpack_target::target_fields` meets its contract. Each part is laid out where the one before it ends, in the lent memory that the cursor holds.
-- Assumes nothing.
use mathlib.Core.Path.{sym}
use borrow.Author.Rules.{rules}
use Rattle.octets.specs.Layout.{total}
use Rattle.unpack.proofs.Lines.{onward}
use Rattle.unpack_target.proofs.target_fields.Goals as goal

pub returns : goal.returns
unfolding total
returns c =
    let moved = onward (onward (onward (onward c.field.ensures c.places.ensures) c.deltas.ensures) c.behind.ensures) c.field-2.ensures in
    let lent = sym moved.lent in
    let stored = moved.stored in
    record { next = moved.next; stored = search rules }
