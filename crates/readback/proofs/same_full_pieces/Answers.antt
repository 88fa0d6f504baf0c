-- `readback::same_full_pieces` meets its contract. The loop keeps that the pieces that are left decide as all of them do.
-- Assumes nothing.
use native.Mathlib.Omega.{arith}
use mathlib.Core.Path.{sym, ◌∙◌}
use Rattle.readback.proofs.PiecesSame.{pieces-first, piece-differs, piece-same, pieces_end}
use Rattle.readback.proofs.same_full_pieces.Goals as goal

pub loop-i-init : goal.loop-i-init
loop-i-init c = let a = c.args in (omega arith, pieces-first a.b.now a.x.now a.count)

pub returns-then-not-same_piece : goal.returns-then-not-same_piece
returns-then-not-same_piece c =
    let l = c.loop-i in
    let a = c.args in
    piece-differs a.b.now a.x.now a.count l.i c.loop-i-test.true c.requires.1 c.same_piece.ensures c.if-not-same_piece.true ∙ l.invariant.1

pub loop-i-preserved : goal.loop-i-preserved
loop-i-preserved c =
    let l = c.loop-i in
    let a = c.args in (
      omega (arith, c.loop-i-test.true),
      piece-same a.b.now a.x.now a.count l.i c.loop-i-test.true c.requires.1 c.same_piece.ensures c.if-not-same_piece.false ∙ l.invariant.1,
    )

pub returns : goal.returns
returns c =
    let l = c.loop-i in
    let a = c.args in
    sym (pieces_end a.b.now a.x.now a.count l.i c.loop-i-test.false) ∙ l.invariant.1
