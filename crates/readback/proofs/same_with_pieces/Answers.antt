-- `readback::same_with_pieces` meets its contract. The record that stands in the window, and the pieces behind it.
-- Assumes nothing.
use native.Mathlib.Omega.{arith}
use mathlib.Core.Path.{refl}
use lib.Seq.{length-take-le}
use Rattle.octets.proofs.Parts.{tail-is}
use Rattle.readback.proofs.Fronts.{head-differs, head-same}
use Rattle.readback.proofs.same_with_pieces.Goals as goal

pub returns-then-not-is_front : goal.returns-then-not-is_front
returns-then-not-is_front c =
    let w = c.args.window.now in
    head-differs _ _ c.args.x.now w c.args.head refl (length-take-le _ w c.requires.0) (omega (arith, c.requires.1)) c.is_front.ensures c.if-not-is_front.true

pub returns : goal.returns
returns c =
    let w = c.args.window.now in
    head-same _ _ c.args.x.now w c.args.head refl (length-take-le _ w c.requires.0) (omega (arith, c.requires.1)) c.is_front.ensures _ c.if-not-is_front.false (tail-is c.args.head c.args.x.now) c.same_pieces.ensures
