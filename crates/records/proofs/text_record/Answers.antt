-- `records::text_record` meets its contract. The kind, F1 and F2, and the length of F3.
-- Assumes nothing.
use Rattle.records.proofs.Bodies.{text-first}
use Rattle.records.proofs.text_record.Goals as goal
use Rattle.records.proofs.text_record.Goals.{Start}

pub returns : goal.returns
returns c =
    text-first c.args.b.now c.args.o.now c.requires.0 c.put_byte.ensures c.copy_all.ensures c.put_u32.ensures
