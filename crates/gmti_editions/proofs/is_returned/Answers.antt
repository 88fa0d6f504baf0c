-- `gmti_editions::is_returned` meets its contract. The writer's answer by cases, and its counts by the test.
-- Assumes nothing.
use mathlib.Core.List.{List}
use mathlib.Core.Path.{sym, ap, ◌∙◌}
use Prim.Native.Nat.{ℕ}
use Rattle.format.specs.Writer.{is_same}
use Rattle.gmti_editions.proofs.Cases.{returned-refused, returned-by}
use Rattle.gmti_editions.proofs.is_returned.Goals as goal

pub returns-in-Err : goal.returns-in-Err
returns-in-Err c =
    let x = c.args in
    returned-refused x.l.now x.counts x.buffer.now x.a _ c.in-Err.is

pub returns-then-eq : goal.returns-then-eq
returns-then-eq c =
    let x = c.args in
    c.same.ensures
    ∙ ap (λ (y : List ℕ). is_same y x.l.now) c.front.ensures
    ∙ returned-by x.l.now x.counts x.buffer.now x.a _ c.in-Ok.is _ (sym c.if-eq.true ∙ c.eq.ensures)

pub returns-else-eq : goal.returns-else-eq
returns-else-eq c =
    let x = c.args in
    c.if-eq.false ∙ returned-by x.l.now x.counts x.buffer.now x.a _ c.in-Ok.is _ (sym c.if-eq.false ∙ c.eq.ensures)
