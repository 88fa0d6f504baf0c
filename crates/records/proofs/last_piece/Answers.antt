-- `records::last_piece` meets its contract. The kind, the count, zeros, and the bytes copied over the zeros.
-- Assumes nothing.
use native.Mathlib.Omega.{arith}
use Rattle.records.proofs.Pieces.{last-laid}
use Rattle.records.proofs.last_piece.Goals as goal

pub returns : goal.returns
returns c =
    let a = c.args in
    last-laid a.b.now a.o.now (omega arith) c.put_byte.ensures c.put_byte-2.ensures c.clear.ensures c.copy_each.ensures
