-- `readback::same_piece` meets its contract. The kind and the count of a full piece, and behind them its bytes.
-- Assumes nothing.
use mathlib.Core.Path.{sym, ap, ◌∙◌}
use mathlib.Core.Bool.{Bool, ◌&&◌}
use lib.ListN.{take, drop}
use lib.Seq.{length-take-le}
use Rattle.format.specs.Writer.{is_same}
use Rattle.readback.proofs.PiecesSame.{piece-told}
use Rattle.readback.proofs.same_piece.Goals as goal

pub slice_bounds-same-end : goal.slice_bounds-same-end
slice_bounds-same-end c =
    sym (length-take-le 32 c.args.b.now c.requires.0)

pub returns-then-is_full_piece : goal.returns-then-is_full_piece
returns-then-is_full_piece c =
    let b = c.args.b.now in
    let x = c.args.x.now in
    let full = sym c.is_full_piece.ensures ∙ c.if-is_full_piece.true in
    c.same.ensures ∙ sym (piece-told b x c.requires.0 c.requires.1 ∙ ap (λ (t : Bool). t && is_same (take 32 b) (take 32 (drop 2 x))) full)

pub returns-else-is_full_piece : goal.returns-else-is_full_piece
returns-else-is_full_piece c =
    let b = c.args.b.now in
    let x = c.args.x.now in
    let none = sym c.is_full_piece.ensures ∙ c.if-is_full_piece.false in
    c.if-is_full_piece.false ∙ sym (piece-told b x c.requires.0 c.requires.1 ∙ ap (λ (t : Bool). t && is_same (take 32 b) (take 32 (drop 2 x))) none)
