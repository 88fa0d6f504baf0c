-- `readback::same_pieces` meets its contract. The full pieces, and behind them the last.
-- Assumes nothing.
use native.Mathlib.Omega.{arith}
use borrow.Author.Rules.{rules}
use Rattle.format.specs.Sheet.{piece_count}
use Rattle.readback.proofs.PiecesSame.{full-within, left-short, full-differ, full-same}
use Rattle.readback.proofs.same_pieces.Goals as goal

pub same_full_pieces-requires : goal.same_full_pieces-requires
same_full_pieces-requires c =
    (search rules, full-within c.args.b.now c.args.x.now c.requires)

pub returns-then-not-same_full_pieces : goal.returns-then-not-same_full_pieces
returns-then-not-same_full_pieces c =
    full-differ c.args.b.now c.args.x.now c.requires c.same_full_pieces.ensures c.if-not-same_full_pieces.true

pub piece_records-requires : goal.piece_records-requires
unfolding piece_count
piece_records-requires c = search rules

pub slice_bounds-is_front-count : goal.slice_bounds-is_front-count
slice_bounds-is_front-count c =
    omega (arith, full-within c.args.b.now c.args.x.now c.requires)

pub slice_bounds-is_front-start : goal.slice_bounds-is_front-start
slice_bounds-is_front-start c =
    omega (arith, full-within c.args.b.now c.args.x.now c.requires)

pub is_front-requires : goal.is_front-requires
is_front-requires c =
    omega (arith, left-short c.args.b.now c.args.x.now c.requires, c.piece_records.auto, c.told-window)

pub returns : goal.returns
returns c =
    full-same c.args.b.now c.args.x.now c.requires c.same_full_pieces.ensures c.args.window.now _
    c.if-not-same_full_pieces.false c.piece_records.ensures (omega (arith, c.told-window)) c.is_front.ensures
