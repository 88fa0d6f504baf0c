-- `gmti_editions::alike_verdict` meets its contract. The test of the Edition 1 reading's answer, and what the writer makes of the sheets.
-- Assumes nothing.
use mathlib.Core.Bool.{Bool, true, false, cond}
use mathlib.Core.Path.{sym, ap, ◌∙◌}
use Rattle.gmti_editions.specs.declared.Verdict.TheVariants.{Alike, Broken}
use Rattle.gmti_editions.proofs.Cases.{alike_said}
use Rattle.gmti_editions.proofs.alike_verdict.Goals as goal
use Rattle.gmti_editions.proofs.alike_verdict.Goals.{else-eq-via-then-eq+else-is_alike, else-eq-via-else-eq}

pub returns-then-is_alike : goal.returns-then-is_alike
returns-then-is_alike c =
    let x = c.args in
    sym
    (alike_said x.l.now x.counts x.older.now x.newer.now x.buffer.now x.a true (sym c.if-eq.true ∙ c.eq.ensures)
    ∙ ap (λ (b : Bool). cond b Alike Broken) (sym c.is_alike.ensures ∙ c.if-is_alike.true))

pub returns-else-eq : goal.returns-else-eq
returns-else-eq c =
    let x = c.args in
    sym
    (elim c.else-eq.branch [
      | else-eq-via-then-eq+else-is_alike w ↦
          alike_said x.l.now x.counts x.older.now x.newer.now x.buffer.now x.a true (sym w.if-eq.true ∙ c.eq.ensures)
          ∙ ap (λ (b : Bool). cond b Alike Broken) (sym w.is_alike.ensures ∙ w.if-is_alike.false)
      | else-eq-via-else-eq w ↦
          alike_said x.l.now x.counts x.older.now x.newer.now x.buffer.now x.a false (sym w.if-eq.false ∙ c.eq.ensures)
    ])
