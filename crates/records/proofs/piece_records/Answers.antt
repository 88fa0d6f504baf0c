-- `records::piece_records` meets its contract. The pieces that are full, and where bytes are left one more.
-- Assumes nothing.
use Prim.Native.Nat.{ℕ, ◌*◌, ◌/◌}
use mathlib.Core.List.{List, [], ◌∷◌}
use lib.ListN.{length}
use borrow.Author.Rules.{rules}
use Rattle.format.specs.Sheet.{piece_record, piece_count, record_bytes}
use Rattle.format.specs.Lengths.{record_length}
use Rattle.records.proofs.Laid.{part-laid}
use Rattle.records.proofs.Pieces.{pieces-with-last, pieces-all-full}
use Rattle.records.proofs.piece_records.Goals as goal

pub full_pieces-requires : goal.full_pieces-requires
unfolding piece_count
full_pieces-requires c = search rules

pub slice_bounds-last_piece-count-then-full-b : goal.slice_bounds-last_piece-count-then-full-b
unfolding piece_count
slice_bounds-last_piece-count-then-full-b c = search rules

pub slice_bounds-last_piece-start-then-full-b : goal.slice_bounds-last_piece-start-then-full-b
unfolding piece_count
slice_bounds-last_piece-start-then-full-b c = search rules

pub last_piece-requires : goal.last_piece-requires
unfolding piece_count
last_piece-requires c = search rules

pub returns-then-full-b : goal.returns-then-full-b
returns-then-full-b c =
    let a = c.args in
    let n = length a.b.now / 32 in
    pieces-with-last a.b.now a.o.now (search rules) c.full_pieces.ensures
    (part-laid (λ (t : List ℕ). record_bytes (piece_record t ∷ [])) a.b.now c.full_pieces.new.o (n * 32) (n * record_length 6) c.last_piece.ensures)

pub returns-else-full-b : goal.returns-else-full-b
returns-else-full-b c =
    let a = c.args in
    pieces-all-full a.b.now a.o.now (search rules) c.full_pieces.ensures
