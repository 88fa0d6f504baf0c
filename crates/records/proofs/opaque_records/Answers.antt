-- `records::opaque_records` meets its contract. Its own record, and the pieces in a part of the sheet.
-- Assumes nothing.
use Rattle.octets.proofs.Parts.{part_filled}
use Rattle.format.specs.Sheet.{pieces_of, record_bytes}
use Rattle.format.specs.Lengths.{record_length}
use Rattle.records.proofs.Bodies.{opaque-laid}
use Rattle.records.proofs.opaque_records.Goals as goal

pub returns : goal.returns
returns c =
    let a = c.args in
    opaque-laid a.segment_type a.b.now a.o.now c.opaque_record.ensures
    (part_filled c.opaque_record.new.o (record_bytes (pieces_of a.b.now)) (record_length 7) c.piece_records.ensures)
