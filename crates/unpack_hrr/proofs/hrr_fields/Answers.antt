-- `unpack_hrr::hrr_fields` meets its contract. Each part is laid out where the one before it ends, in the lent memory that the cursor holds.
-- Assumes nothing.
use mathlib.Core.Path.{sym}
use borrow.Author.Rules.{rules}
use Rattle.octets.specs.Layout.{total}
use Rattle.unpack.proofs.Lines.{onward}
use Rattle.unpack_hrr.proofs.hrr_fields.Goals as goal

pub returns : goal.returns
unfolding total
returns c =
    let moved = onward (onward (onward (onward c.h2_to_7.ensures c.h8_to_13.ensures) c.h14_to_19.ensures) c.h20_to_25.ensures) c.h26_to_31.ensures in
    let lent = sym moved.lent in
    let stored = moved.stored in
    record { next = moved.next; stored = search rules }
