-- What is written is of the answer and the sheet that the reading gives: the front of the sheet, or all that was put in the line.
use Rattle.std.proofs.Common.{arith, sym, ap, ◌∙◌, ℕ}
use Rattle.format.specs.Answer.{answer_of}
use Rattle.format.specs.Edition.{as_edition}
use Rattle.format.specs.Reader.{read}
use Rattle.printing.specs.Printing.{answer_line}
use Rattle.gmti_sheet.specs.Said.{said, said_of}
use Rattle.gmti_sheet.proofs.Lines.{front-stored}
use Rattle.gmti_sheet.proofs.answer.Goals as goal

pub returns-in-Ok : goal.returns-in-Ok
unfolding said
returns-in-Ok c =
    let a = c.args in
    c.front.ensures
    ∙ ap (λ r. said (answer_of r) c.read-a.new.sheet) (sym c.in-Ok.is)
    ∙ ap said_of c.read-a.ensures
    ∙ ap (λ (k : ℕ). said_of (read (as_edition k) a.packet.now a.sheet.now)) c.unwrap_or.ensures

pub returns-in-Err : goal.returns-in-Err
unfolding said
returns-in-Err c =
    let a = c.args in
    let k = c.answer_line-k in
    let l = answer_line (answer_of c.read-a.result) in
    c.front-in-Err.ensures
    ∙ front-stored l a.line.now k.ensures.value.0 k.ensures.o_after (omega (arith, k.ensures.value, c.requires))
    ∙ ap (λ r. answer_line (answer_of r)) c.in-Err.is
    ∙ ap (λ r. said (answer_of r) c.read-a.new.sheet) (sym c.in-Err.is)
    ∙ ap said_of c.read-a.ensures
    ∙ ap (λ (k : ℕ). said_of (read (as_edition k) a.packet.now a.sheet.now)) c.unwrap_or.ensures
