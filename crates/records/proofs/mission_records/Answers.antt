-- `records::mission_records` meets its contract. The kind, and the bytes copied behind it.
-- Assumes nothing.
use native.Mathlib.Omega.{arith}
use Rattle.format.specs.Sheet.{body_length}
use Rattle.records.proofs.Laid.{record-copied}
use Rattle.records.proofs.Laid.{cut}
use Rattle.records.proofs.mission_records.Goals as goal
use Rattle.records.proofs.mission_records.Goals.{Start}

pub slice_bounds-copy_all-end : goal.slice_bounds-copy_all-end
unfolding body_length
slice_bounds-copy_all-end c = cut 39 c.args.b.now (omega (arith, c.requires.0))

pub copy_all-requires : goal.copy_all-requires
unfolding body_length
copy_all-requires c = omega (arith, cut 39 c.args.b.now (omega (arith, c.requires.0)))

pub returns : goal.returns
unfolding body_length
returns c =
    record-copied 2 c.args.b.now c.args.o.now (omega (arith, c.requires.0)) c.put_byte.ensures c.copy_all.ensures
