-- `records::text_records` meets its contract. Its own record, and the pieces in a part of the sheet.
-- Assumes nothing.
use Prim.Native.Nat.{ℕ}
use mathlib.Core.List.{List}
use Rattle.format.specs.Sheet.{piece_count, pieces_of, record_bytes}
use Rattle.format.specs.Lengths.{record_length}
use Rattle.records.proofs.Laid.{part-laid}
use Rattle.records.proofs.Bodies.{text-laid}
use borrow.Author.Rules.{rules}
use Rattle.records.proofs.text_records.Goals as goal

pub piece_records-requires : goal.piece_records-requires
unfolding piece_count
piece_records-requires c = search rules

pub returns : goal.returns
returns c =
    let a = c.args in
    text-laid a.b.now a.o.now c.text_record.ensures
    (part-laid (λ (t : List ℕ). record_bytes (pieces_of t)) a.b.now c.text_record.new.o 20 (record_length 5) c.piece_records.ensures)
