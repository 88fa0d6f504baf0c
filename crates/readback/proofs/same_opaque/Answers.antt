-- `readback::same_opaque` meets its contract. The record in the window, and the pieces behind it.
-- Assumes nothing.
use mathlib.Core.Path.{refl}
use native.Mathlib.Omega.{arith}
use Rattle.format.specs.Sheet.{body_length, record_of, pieces_of, opaque_records, record_bytes}
use Rattle.format.specs.Lengths.{record_length}
use Rattle.format.proofs.Lengths.{length-one}
use Rattle.readback.proofs.Types.{behind-same}
use Rattle.readback.proofs.same_opaque.Goals as goal

pub opaque_record-requires : goal.opaque_record-requires
opaque_record-requires c = (c.requires.0, omega (arith, c.told-window))

pub same_with_pieces-requires : goal.same_with_pieces-requires
same_with_pieces-requires c =
    let kept = c.opaque_record.auto in
    (omega (arith, kept, c.told-window), c.requires.1)

pub returns : goal.returns
unfolding opaque_records body_length
returns c =
    behind-same (record_of 7 _) (pieces_of c.args.b.now) (record_bytes (opaque_records c.args.segment_type c.args.b.now)) c.args.x.now c.args.window.now _ (record_length 7) c.opaque_record.ensures (length-one 7 _) (omega (arith, c.told-window)) c.same_with_pieces.ensures refl
