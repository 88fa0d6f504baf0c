-- `reader::read_with` meets its contract. Each way it ends is an outcome of the meaning.
-- Assumes nothing.
use mathlib.Core.Path.{refl, ap, ◌∙◌}
use Rattle.std.specs.Prelude.{Err}
use Rattle.std.proofs.lemmas.Result.{err_from_is_err_and}
use Rattle.format.specs.Answer.{Answer, answer_of, outcome}
use Rattle.reader.proofs.Outcomes.{read-refused, roomy, read_short, read-laid}
use Rattle.reader.proofs.read_with.Goals as goal

pub returns-in_err-counts : goal.returns-in_err-counts
returns-in_err-counts c =
    let a = c.args in
    let (f, p, e) = err_from_is_err_and c.from_residual.result c.from_residual.ensures.1 in
    ap (λ (b : Answer). outcome b a.sheet.now) (ap answer_of (p ∙ ap Err e))
    ∙ read-refused a.settings a.packet.now a.sheet.now _ c.in_err-counts.ensures _ _ _ refl

pub returns-then-sheet-counts : goal.returns-then-sheet-counts
returns-then-sheet-counts c =
    let a = c.args in
    ap (λ (b : Answer). outcome b a.sheet.now) c.row.ensures
    ∙ read_short a.settings a.packet.now a.sheet.now _ c.in_ok-counts.ensures _ _ _ _ refl c.if-sheet-counts.true

pub set_out-requires : goal.set_out-requires
set_out-requires c =
    let a = c.args in
    let r = roomy a.settings a.packet.now a.sheet.now _ c.in_ok-counts.ensures _ _ _ _ refl c.if-sheet-counts.false in
    (record { header = r.header; ending = r.ending }, r.fits)

pub returns : goal.returns
returns c =
    let a = c.args in
    read-laid a.settings a.packet.now a.sheet.now _ c.in_ok-counts.ensures _ _ _ _ refl c.if-sheet-counts.false _ c.set_out.ensures
