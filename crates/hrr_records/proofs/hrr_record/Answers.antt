-- `hrr_records::hrr_record` meets its contract. The kind, the mask, and the fields at full widths.
-- Assumes nothing.
use native.Mathlib.Omega.{arith}
use borrow.Author.Rules.{rules}
use Rattle.octets.specs.Layout.{total}
use Rattle.hrr_records.proofs.Segments.{hrr-laid}
use Rattle.hrr_records.proofs.hrr_record.Goals as goal

pub hrr_fields-requires : goal.hrr_fields-requires
unfolding total
hrr_fields-requires c = search rules

pub returns : goal.returns
returns c =
    let a = c.args in
    hrr-laid a.mask a.b.now a.o.now c.requires.0.0 (omega (arith, c.requires.0.2)) c.put_byte.ensures c.copy.ensures c.hrr_fields.ensures.stored
