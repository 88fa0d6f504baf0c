-- `hrr_records::widen` meets its contract. The bytes stand behind zeros.
-- Assumes nothing.
use native.Mathlib.Nat.{one-le-pow}
use native.Mathlib.Omega.{arith}
use lib.Dec.{lit<}
use Rattle.words.proofs.Words.{half}
use Rattle.hrr_records.proofs.Widened.{wide-spelt}
use Rattle.hrr_records.proofs.widen.Goals as goal

pub join-requires : goal.join-requires
join-requires c =
    (omega arith, one-le-pow _ 256 (lit< tt), half c.args.w (omega (arith, c.requires)) c.get.ensures)

pub returns : goal.returns
returns c =
    wide-spelt c.args.w c.args.at _ _ c.args.t.now c.requires.0 c.requires.1 c.get.ensures c.join.ensures
