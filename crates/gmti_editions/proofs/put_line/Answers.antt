-- `gmti_editions::put_line` meets its contract. The name, what is said of the packet, and the end of the line.
-- Assumes nothing.
use Rattle.format.specs.Answer.{answer_of}
use native.Mathlib.Omega.{arith}
use Prim.Native.Nat.{ℕ}
use mathlib.Core.Path.{◌≡◌, ◌∙◌}
use lib.ListN.{length, set, length-set}
use Rattle.vectors.proofs.Spellings.{label-laid}
use Rattle.gmti_editions.proofs.Said.{judged-laid}
use Rattle.gmti_editions.proofs.put_line.Goals as goal
use Rattle.gmti_editions.proofs.put_line.Goals.{After-put_judged-q}

-- the buffer keeps its length
kept : (c : After-put_judged-q) → length (set c.put_judged-q.new.o c.put_judged-q.result 10) ≡ length c.args.out.now
kept c = length-set {A = ℕ} c.put_judged-q.new.o c.put_judged-q.result 10 ∙ c.put_judged-q.auto.o ∙ c.put_name-p.auto.o

pub shape_of-out : goal.shape_of-out
shape_of-out c = kept (goal.at.shape_of-out c).After-put_judged-q

pub returns : goal.returns
returns c =
    let name = c.put_name-p in
    let put = c.put_judged-q in
    let j = c.args.j in
    let laid = judged-laid c.args.name.now c.args.out.now j.verdict (answer_of j.newer) (answer_of j.older) (label-laid c.args.name.now c.args.out.now name.ensures.value name.ensures.o_after) (put.ensures.value.0, put.ensures.o_after) in
    record { value = (omega (arith, laid.0), omega (arith, kept (goal.at.returns c).After-put_judged-q, put.ensures.value.1, name.ensures.value, c.requires)); out_after = laid.1 }
