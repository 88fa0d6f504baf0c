-- One digit more, and the end.
use Rattle.std.proofs.Common.{arith, ap, sym, ◌∙◌, ◌+◌, drop}
use Rattle.vectors.specs.Vectors.{spelt}
use Rattle.vectors.proofs.Spellings.{spelt-turn, spelt-end}
use Rattle.vectors.proofs.number.Goals as goal

pub loop-c-preserved : goal.loop-c-preserved
loop-c-preserved c =
    let s = c.args.s.now in
    let l = c.loop-c in
    (omega arith, ap (spelt (drop (l.c-index + 1) s)) c.with_digit-n.ensures.0 ∙ spelt-turn s l.c-index l.n (omega arith) ∙ l.invariant.1)

pub returns : goal.returns
returns c = let l = c.loop-c in sym (spelt-end c.args.s.now l.c-index l.n (omega arith)) ∙ l.invariant.1
