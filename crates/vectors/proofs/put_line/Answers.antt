-- `vectors::put_line` meets its contract. The name, the answer and the sheet, one after another.
-- Assumes nothing.
use native.Mathlib.Omega.{arith}
use native.Mathlib.Nat.{zero-add}
use Prim.Native.Nat.{ℕ, ◌+◌, ◌<◌}
use mathlib.Core.Path.{◌≡◌, ◌∙◌}
use lib.ListN.{length, length-set}
use Rattle.format.specs.Answer.{answer_of}
use Rattle.vectors.proofs.Spellings.{label-laid, hex-laid, line-laid}
use Rattle.vectors.proofs.put_line.Goals as goal
use Rattle.vectors.proofs.put_line.Goals.{After-put_hex-r}

-- the buffer keeps its length up to the sheet's bytes
kept : (c : After-put_hex-r) → length c.put_hex-r.new.o ≡ length c.args.o.now
kept c =
    c.put_hex-r.auto.o
    ∙ length-set {A = ℕ} c.put_answer-q.new.o c.put_answer-q.result 32
    ∙ c.put_answer-q.auto.o
    ∙ c.put_name-p.auto.o

-- and they end within it
room : (c : After-put_hex-r) → c.put_hex-r.result < length c.put_hex-r.new.o
room c =
    let n = c.put_name-p.ensures in
    let e = c.put_answer-q.ensures in
    omega (arith, kept c, c.put_hex-r.ensures.value, e.value.1, n.value, c.requires)

pub put_hex-r-requires : goal.put_hex-r-requires
put_hex-r-requires c =
    let n = c.put_name-p in
    let e = c.put_answer-q in
    rw (length-set, e.auto.o, n.auto.o) (omega (arith, e.ensures.value.1, n.ensures.value, c.requires))

pub bounds-o-r : goal.bounds-o-r
bounds-o-r c = room (goal.at.bounds-o-r c).After-put_hex-r

pub returns : goal.returns
returns c =
    let a = c.args in
    let n = c.put_name-p.ensures in
    let e = c.put_answer-q.ensures in
    let f = c.put_hex-r.ensures in
    let h = line-laid a.name.now a.o.now a.sheet.now (answer_of a.a) (label-laid a.name.now a.o.now n.value n.o_after) (e.value.0, e.o_after) (hex-laid a.sheet.now _ (c.put_answer-q.result + 1) f.value f.o_after) in
    record { value = (h.0 ∙ zero-add _, rw length-set (omega (arith, room (goal.at.returns c).After-put_hex-r))); o_after = h.1 }
