-- `writer::write_where_room` meets its contract. The survey refuses by row 17 or 18, and any other sheet has its shape.
-- Assumes nothing.
use Rattle.std.proofs.Common.{Err, ap, ◌∙◌}
use Rattle.spelling.specs.declared.Misshapen.{Misshapen}
use Rattle.spelling.proofs.Surveyed.{said}
use Rattle.writer.proofs.WriterRows.{row-17, row-18, settled-refused}
use Rattle.writer.proofs.write_where_room.Goals as goal

pub returns-in-Err-Unlisted : goal.returns-in-Err-Unlisted
returns-in-Err-Unlisted c =
    let a = c.args in
    let x = a.x.now in
    settled-refused x a.o.now _ 17 0 0 c.row.ensures (row-17 x (said x c.survey_of.ensures (c.in-Err-Unlisted.is ∙ ap (λ (m : Misshapen). Err m) c.in-Err-Unlisted.field-0-is)))

pub returns-in-Err-Incomplete : goal.returns-in-Err-Incomplete
returns-in-Err-Incomplete c =
    let a = c.args in
    let x = a.x.now in
    settled-refused x a.o.now _ 18 0 0 c.row-in-Err-Incomplete.ensures (row-18 x (said x c.survey_of.ensures (c.in-Err-Incomplete.is ∙ ap (λ (m : Misshapen). Err m) c.in-Err-Incomplete.field-0-is)))

pub write_shaped-requires : goal.write_shaped-requires
write_shaped-requires c =
    said c.args.x.now c.survey_of.ensures c.in-Ok.is
