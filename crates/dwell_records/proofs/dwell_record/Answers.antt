-- `dwell_records::dwell_record` meets its contract. The kind, the mask, the fields at full widths, D27 withheld where the reading is the older one, and the mark.
-- Assumes nothing.
use native.Mathlib.Omega.{arith}
use Rattle.octets.specs.Layout.{total}
use Rattle.dwell_records.proofs.Dwells.{dwell-laid}
use borrow.Author.Rules.{rules}
use Rattle.dwell_records.proofs.dwell_record.Goals as goal

pub dwell_fields-requires : goal.dwell_fields-requires
unfolding total
dwell_fields-requires c = search rules

pub returns : goal.returns
returns c =
    let a = c.args in
    dwell-laid a.r a.mask c.mark_of.result a.b.now a.o.now c.requires.0.0 c.mark_of.ensures (omega (arith, c.requires.0.2))
    c.put_byte.ensures c.copy.ensures c.dwell_fields.ensures.stored c.withhold.ensures c.put_byte-2.ensures
