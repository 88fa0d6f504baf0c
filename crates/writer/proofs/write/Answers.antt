-- `writer::write` meets its contract. The room is looked at last.
-- Assumes nothing.
use mathlib.Core.Path.{refl, ap, ◌∙◌}
use Rattle.std.specs.Prelude.{Err}
use Rattle.std.proofs.lemmas.Result.{err_from_is_err_and}
use Rattle.format.specs.Answer.{Answer, answer_of, outcome}
use Rattle.writer.proofs.WriterRows.{write-refused, write-short, write-laid}
use Rattle.writer.proofs.write.Goals as goal

pub returns-in_err-counts : goal.returns-in_err-counts
returns-in_err-counts c =
    let a = c.args in
    let w = c.write_where_room in
    let (f, p, e) = err_from_is_err_and c.from_residual.result c.from_residual.ensures.1 in
    ap (λ (r : Answer). outcome r w.new.o) (ap answer_of (p ∙ ap Err e))
    ∙ write-refused a.x.now a.o.now _ _ c.in_err-counts.ensures _ _ _ refl

pub returns-then-room-counts : goal.returns-then-room-counts
returns-then-room-counts c =
    let a = c.args in
    let w = c.write_where_room in
    ap (λ (r : Answer). outcome r w.new.o) c.row.ensures
    ∙ write-short a.x.now a.o.now _ _ c.in_ok-counts.ensures _ _ _ _ refl c.if-room-counts.true

pub returns : goal.returns
returns c =
    let a = c.args in
    write-laid a.x.now a.o.now _ _ c.in_ok-counts.ensures _ _ _ _ refl c.if-room-counts.false
