-- `records::full_piece` meets its contract. The kind, a count of 32, and the bytes copied behind them.
-- Assumes nothing.
use native.Mathlib.Omega.{arith}
use Rattle.records.proofs.Pieces.{full-laid}
use Rattle.records.proofs.full_piece.Goals as goal

pub returns : goal.returns
returns c =
    let a = c.args in
    full-laid a.b.now a.o.now (omega arith) c.put_byte.ensures c.put_byte-2.ensures c.copy32.ensures
