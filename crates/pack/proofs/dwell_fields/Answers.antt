-- `pack::dwell_fields` meets its contract. Each part is packed where the one before it ends, in the lent memory that the cursor holds.
-- Assumes nothing.
use mathlib.Core.Path.{sym}
use borrow.Author.Rules.{rules}
use Rattle.octets.specs.Layout.{total}
use Rattle.pack.proofs.Lines.{onward}
use Rattle.pack.proofs.dwell_fields.Goals as goal

pub returns : goal.returns
unfolding total
returns c =
    let moved = onward (onward (onward (onward (onward (λ _. c.d2_to_9.ensures) c.d10_to_14.ensures) c.d15_to_19.ensures) c.d20_to_23.ensures) c.d24_to_27.ensures) c.d28_to_31.ensures c.requires.held in
    let lent = sym moved.lent in
    let stored = moved.stored in
    record { next = moved.behind; stored = search rules }
