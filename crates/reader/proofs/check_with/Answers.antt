-- `reader::check_with` meets its contract. A row of the header refuses, or the walk over the segments answers.
-- Assumes nothing.
use native.Mathlib.Omega.{arith}
use mathlib.Core.Path.{◌≡◌, sym, ap, ◌∙◌}
use Rattle.std.specs.Prelude.{Err}
use Rattle.std.proofs.Common.{rules}
use Rattle.std.proofs.lemmas.Result.{err_from_is_err_and}
use lib.ListN.{length-drop}
use Rattle.octets.proofs.Parts.{tail-is}
use Rattle.format.specs.Check.{Passed, check_of}
use Rattle.format.specs.Answer.{Refused, answer_of}
use Rattle.format.proofs.Rows.{mapped-ok, mapped-err}
use Rattle.format.specs.Rows.{first_row, header_rows}
use Rattle.format.proofs.Acceptance.{Sized, header-sized}
use Rattle.reader.proofs.Outcomes.{answer-header, answer-walked}
use Rattle.reader.proofs.check_with.Goals as goal
use Rattle.reader.proofs.check_with.Goals.{In_ok-map_err}

-- no row of the header applies
passed : (c : In_ok-map_err) → let a = c.args in first_row (header_rows a.settings a.packet.now) ≡ Passed
passed c = sym c.header_check.ensures ∙ ap check_of (mapped-ok _ c.header_check.result c.map_err.result _ c.map_err.ensures.cases c.in_ok-map_err.was)

-- so the packet has its header, and is not too long
sized : (c : In_ok-map_err) → Sized c.args.packet.now
sized c = let a = c.args in header-sized a.settings a.packet.now (passed c)

pub returns-in_err-map_err : goal.returns-in_err-map_err
returns-in_err-map_err c =
    let a = c.args in
    let (f, q, h) = mapped-err _ c.header_check.result c.map_err.result _ c.map_err.ensures.cases c.in_err-map_err.was in
    let (d, p, e) = err_from_is_err_and c.from_residual.result c.from_residual.ensures.1 in
    let made : answer_of (Err c.in_err-map_err.field-0.0) ≡ Refused f.number 0 f.field = search rules in
    ap answer_of (p ∙ ap Err e) ∙ made ∙ answer-header a.settings a.packet.now _ _ (sym c.header_check.ensures ∙ ap check_of q)

pub reading_of-r-requires : goal.reading_of-r-requires
reading_of-r-requires c = passed (goal.at.reading_of-r-requires c).In_ok-map_err

pub slice_bounds-check-count : goal.slice_bounds-check-count
slice_bounds-check-count c = omega (arith, (sized (goal.at.slice_bounds-check-count c).In_ok-map_err).long)

pub slice_bounds-check-start : goal.slice_bounds-check-start
slice_bounds-check-start c = omega (arith, (sized (goal.at.slice_bounds-check-start c).In_ok-map_err).long)

pub check-requires : goal.check-requires
check-requires c =
    let packet = c.args.packet.now in
    rw (tail-is 32 packet, length-drop) (omega (arith, (sized (goal.at.check-requires c).In_ok-map_err).short))

pub returns : goal.returns
returns c =
    let a = c.args in
    answer-walked a.settings a.packet.now (passed (goal.at.returns c).In_ok-map_err) _ _ c.reading_of-r.ensures (tail-is 32 a.packet.now) c.check.ensures
