-- `unpack_target::d32_11_to_15` meets its contract. Each field is laid out where the one before it ends.
-- Assumes nothing.
use native.Mathlib.Omega.{arith}
use borrow.Author.Rules.{rules}
use Rattle.octets.specs.Layout.{total}
use Rattle.mask.specs.Fields.{announced_length}
use Rattle.unpack.proofs.Lines.{onward, clear_behind}
use Rattle.unpack_target.proofs.d32_11_to_15.Goals as goal

-- each field of two bytes goes onto zeros: those of the start, of which the fields before it leave the ones behind them
pub field_onto_zeros-requires : goal.field_onto_zeros-requires
unfolding announced_length total
field_onto_zeros-requires c =
    let zeros = clear_behind 2 (omega arith) c.requires.1 c.field.ensures in
    search rules

pub field_onto_zeros-requires-2 : goal.field_onto_zeros-requires-2
unfolding announced_length total
field_onto_zeros-requires-2 c =
    let zeros = clear_behind 2 (omega arith) c.requires.1 (onward c.field.ensures c.field_onto_zeros.ensures) in
    search rules

pub field_onto_zeros-requires-3 : goal.field_onto_zeros-requires-3
unfolding announced_length total
field_onto_zeros-requires-3 c =
    let laid = onward (onward (onward c.field.ensures c.field_onto_zeros.ensures) c.field_onto_zeros-2.ensures) c.field-2.ensures in
    let zeros = clear_behind 2 (omega arith) c.requires.1 laid in
    search rules

pub returns : goal.returns
unfolding total
returns c =
    onward (onward (onward (onward c.field.ensures c.field_onto_zeros.ensures) c.field_onto_zeros-2.ensures) c.field-2.ensures) c.field_onto_zeros-3.ensures
