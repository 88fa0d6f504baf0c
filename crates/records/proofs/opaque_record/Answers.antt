-- `records::opaque_record` meets its contract. The kind, the type, and the length.
-- Assumes nothing.
use Rattle.records.proofs.Bodies.{opaque-first}
use Rattle.records.proofs.opaque_record.Goals as goal

pub returns : goal.returns
returns c =
    let a = c.args in
    opaque-first a.segment_type a.b.now a.o.now c.put_byte.ensures c.put_byte-2.ensures c.put_u32.ensures
