-- `gmti_editions::older_verdict` meets its contract. What is new in the packet, by cases.
-- Assumes nothing.
use mathlib.Core.Path.{sym, ap, ◌∙◌}
use Rattle.format.specs.Answer.{answer_of}
use Rattle.format.specs.New.{new_of}
use Rattle.gmti_editions.specs.Verdict.{new_in}
use Rattle.gmti_editions.proofs.Cases.{older-nothing, older-found}
use Rattle.gmti_editions.proofs.older_verdict.Goals as goal

pub returns-in-None : goal.returns-in-None
returns-in-None c =
    let x = c.args in
    older-nothing x.l.now x.counts.segments x.counts.dwells x.counts.targets x.counts.length (answer_of x.a) x.older.now x.newer.now x.buffer.now (new_in x.l.now)
    (sym c.new_in.ensures ∙ ap new_of c.in-None.is) c.alike_verdict.ensures

pub returns-in-Some : goal.returns-in-Some
returns-in-Some c =
    let x = c.args in
    older-found x.l.now x.counts.segments x.counts.dwells x.counts.targets x.counts.length (answer_of x.a) x.older.now x.newer.now x.buffer.now (new_in x.l.now) _ _
    (sym c.new_in.ensures ∙ ap new_of c.in-Some.is) c.new_verdict.ensures
