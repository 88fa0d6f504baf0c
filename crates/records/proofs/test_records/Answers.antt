-- `records::test_records` meets its contract. The kind, and the bytes copied behind it.
-- Assumes nothing.
use native.Mathlib.Omega.{arith}
use Rattle.format.specs.Sheet.{body_length}
use Rattle.records.proofs.Laid.{record-copied}
use Rattle.records.proofs.test_records.Goals as goal
use Rattle.records.proofs.test_records.Goals.{Start}

pub returns : goal.returns
unfolding body_length
returns c =
    record-copied 9 c.args.b.now c.args.o.now (omega (arith, c.requires.0)) c.put_byte.ensures c.copy_all.ensures
