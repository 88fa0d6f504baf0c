-- `writer::write_shaped` meets its contract. A packet that is too long is row 19, and any other goes through an array that holds it.
-- Assumes nothing.
use native.Mathlib.Omega.{arith}
use Rattle.writer.proofs.WriterRows.{row-19-packet, settled-refused}
use Rattle.writer.proofs.write_shaped.Goals as goal

pub returns-then-n-gt-LONGEST_PACKET : goal.returns-then-n-gt-LONGEST_PACKET
returns-then-n-gt-LONGEST_PACKET c =
    let x = c.args.x.now in
    settled-refused x c.args.o.now _ 19 0 0 c.row.ensures
    (row-19-packet x c.requires.0 (omega (arith, c.requires.1, c.if-n-gt-LONGEST_PACKET.true)))
