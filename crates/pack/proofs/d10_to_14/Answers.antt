-- `pack::d10_to_14` meets its contract. Each part is packed where the one before it ends. Assumes nothing.
use Rattle.octets.specs.Layout.{total}
use Rattle.pack.proofs.Lines.{onward}
use Rattle.pack.proofs.d10_to_14.Goals as goal

pub returns : goal.returns
unfolding total
returns c = onward (onward (onward (onward (λ _. c.field.ensures) c.field-2.ensures) c.field-3.ensures) c.field-4.ensures) c.field-5.ensures c.requires.held
