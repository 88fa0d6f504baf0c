-- `printing::put_answer` meets its contract. The two cases of an answer: each a word and its numbers.
-- Assumes nothing.
use native.Mathlib.Omega.{arith}
use mathlib.Core.Path.{ap}
use Rattle.format.specs.Answer.{answer_of}
use lib.ListN.{length-set}
use Rattle.printing.proofs.Lines.{put-accepted, put_refused}
use Rattle.printing.proofs.put_answer.Goals as goal

pub returns-in-Ok : goal.returns-in-Ok
returns-in-Ok c =
    let h = put-accepted _ _ (ap answer_of c.in-Ok.is) c.put_three-p.ensures c.put_spaced.ensures in
    record { value = (h.next, h.room); o_after = h.stored }

pub returns-in-Err : goal.returns-in-Err
returns-in-Err c =
    let h = put_refused _ _ (ap answer_of c.in-Err.is) c.put_three.ensures in
    record { value = (h.next, h.room); o_after = h.stored }

pub bounds-o-at-in-Ok : goal.bounds-o-at-in-Ok
bounds-o-at-in-Ok c = simp length-set (omega arith)

pub put_three-p-requires : goal.put_three-p-requires
put_three-p-requires c = simp length-set (omega arith)

pub bounds-o-at-in-Err-2 : goal.bounds-o-at-in-Err-2
bounds-o-at-in-Err-2 c = simp length-set (omega arith)

pub put_three-requires : goal.put_three-requires
put_three-requires c = simp length-set (omega arith)
