-- `pack::target_fields` meets its contract. Each part is packed where the one before it ends, in the lent memory that the cursor holds.
-- Assumes nothing.
use mathlib.Core.Path.{sym}
use borrow.Author.Rules.{rules}
use Rattle.octets.specs.Layout.{total}
use Rattle.pack.proofs.Lines.{onward}
use Rattle.pack.proofs.target_fields.Goals as goal

pub returns : goal.returns
unfolding total
returns c =
    let moved = onward (onward (onward (onward (λ _. c.field.ensures) c.d32_2_and_3.ensures) c.d32_4_and_5.ensures) c.d32_6_to_15.ensures) c.d32_16_to_18.ensures c.requires.held in
    let lent = sym moved.lent in
    let stored = moved.stored in
    record { next = moved.behind; stored = search rules }
