-- `unpack_dwell::dwell_fields` meets its contract. Each part is laid out where the one before it ends, in the lent memory that the cursor holds.
-- Assumes nothing.
use mathlib.Core.Path.{sym}
use borrow.Author.Rules.{rules}
use Rattle.octets.specs.Layout.{total}
use Rattle.unpack.proofs.Lines.{onward}
use Rattle.unpack_dwell.proofs.dwell_fields.Goals as goal

pub returns : goal.returns
unfolding total
returns c =
    let moved = onward c.d2_to_19.ensures c.d20_to_31.ensures in
    let lent = sym moved.lent in
    let stored = moved.stored in
    record { next = moved.next; stored = search rules }
