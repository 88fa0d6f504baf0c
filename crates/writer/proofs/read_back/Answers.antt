-- `writer::read_back` meets its contract. What the packet's rows answer and what the sheet is decide row 19.
-- Assumes nothing.
use mathlib.Core.Path.{◌≡◌, sym, ap, ◌∙◌}
use Rattle.std.specs.Prelude.{Ok, Err}
use Rattle.std.proofs.Common.{rules}
use Rattle.std.proofs.lemmas.Result.{err_from_is_err_and}
use Rattle.format.specs.Answer.{Refused, answer_of}
use Rattle.format.proofs.Rows.{mapped-ok, mapped-err}
use Rattle.writer.proofs.ReadingBack.{reread-refused, comparable, reread-not, reread-other, reread-same}
use Rattle.writer.proofs.read_back.Goals as goal
use Rattle.writer.proofs.read_back.Goals.{In_ok-counts, else-counts-x-via-then-counts-x+else-is_sheet, else-counts-x-via-else-counts-x}

-- the packet is accepted with these counts
accepted : (c : In_ok-counts) → answer_of c.check.result ≡ answer_of (Ok c.in_ok-counts.counts)
accepted c = ap answer_of (mapped-ok _ c.check.result c.map_err.result _ c.map_err.ensures.cases c.in_ok-counts.was)

pub returns-in_err-counts : goal.returns-in_err-counts
returns-in_err-counts c =
    let (f, q, h) = mapped-err _ c.check.result c.map_err.result _ c.map_err.ensures.cases c.in_err-counts.was in
    let (d, p, e) = err_from_is_err_and c.from_residual.result c.from_residual.ensures.1 in
    let made : answer_of (Err c.in_err-counts.field-0.0) ≡ Refused 19 0 0 = search rules in
    ap answer_of (p ∙ ap Err e)
    ∙ made
    ∙ reread-refused c.args.packet.now c.args.x.now c.requires _ c.check.ensures _ _ _ (ap answer_of q)

pub is_sheet-requires : goal.is_sheet-requires
is_sheet-requires c =
    comparable c.args.packet.now c.args.x.now c.requires _ c.check.ensures _ _ _ _ (accepted (goal.at.is_sheet-requires c).In_ok-counts) c.if-counts-x.true

pub returns-then-is_sheet : goal.returns-then-is_sheet
returns-then-is_sheet c =
    reread-same c.args.packet.now c.args.x.now c.requires _ c.check.ensures _ _ _ _ (accepted (goal.at.returns-then-is_sheet c).In_ok-counts) (sym c.is_sheet.ensures ∙ c.if-is_sheet.true)

pub returns-else-counts-x : goal.returns-else-counts-x
returns-else-counts-x c =
    let answer = accepted (goal.at.returns-else-counts-x c).In_ok-counts in
    c.row.ensures
    ∙ elim c.else-counts-x.branch [
      | else-counts-x-via-then-counts-x+else-is_sheet w ↦ reread-not c.args.packet.now c.args.x.now c.requires _ c.check.ensures _ _ _ _ answer (sym w.is_sheet.ensures ∙ w.if-is_sheet.false)
      | else-counts-x-via-else-counts-x w ↦ reread-other c.args.packet.now c.args.x.now c.requires _ c.check.ensures _ _ _ _ answer w.if-counts-x.false
    ]
