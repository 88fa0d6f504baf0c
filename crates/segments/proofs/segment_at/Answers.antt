-- `segments::segment_at` meets its contract. A segment to which no row applies is found with its size and what it adds to the answer.
-- Assumes nothing.
use native.Mathlib.Omega.{arith}
use mathlib.Core.Path.{◌≡◌, refl, sym, ap, ◌∙◌}
use Rattle.std.specs.Prelude.{Err}
use Rattle.std.proofs.lemmas.Result.{err_from_is_err_and}
use Rattle.format.specs.Check.{Passed}
use Rattle.format.specs.Packet.{type_at}
use Rattle.format.specs.Rows.{first_row, segment_rows}
use Rattle.format.proofs.Rows.{Segmented, segment-passes}
use Rattle.format.proofs.Segments.{body-part}
use Rattle.format.proofs.Filling.{Handed, handed}
use Rattle.segments.proofs.Walking.{handed-checked, found-good, found-bad}
use Rattle.segments.proofs.segment_at.Goals as goal
use Rattle.segments.proofs.segment_at.Goals.{In_ok-segment_check, After-size_at-size}

-- no row applies
passed : (c : In_ok-segment_check) → let a = c.args in first_row (segment_rows a.r a.l.now) ≡ Passed
passed c = sym c.in_ok-segment_check.ensures

known : (c : In_ok-segment_check) → let a = c.args in Segmented a.r a.l.now
known c = let a = c.args in segment-passes a.r a.l.now (passed c)

-- what is handed on
part : (c : After-size_at-size) → let a = c.args in Handed a.r a.l.now a.l.now 0 c.size_at-size.result
part c = let a = c.args in handed a.r a.l.now a.l.now 0 _ refl c.size_at-size.ensures (passed (goal.at.After-size_at-size c).In_ok-segment_check)

pub bounds-l-0 : goal.bounds-l-0
bounds-l-0 c = omega (arith, (known (goal.at.bounds-l-0 c).In_ok-segment_check).header, (known (goal.at.bounds-l-0 c).In_ok-segment_check).within)

pub size_at-size-requires : goal.size_at-size-requires
size_at-size-requires c = omega (arith, (known (goal.at.size_at-size-requires c).In_ok-segment_check).header, (known (goal.at.size_at-size-requires c).In_ok-segment_check).within)

pub slice_bounds-b-count : goal.slice_bounds-b-count
slice_bounds-b-count c = (part (goal.at.slice_bounds-b-count c).After-size_at-size).header

pub slice_bounds-b-start : goal.slice_bounds-b-start
slice_bounds-b-start c = omega (arith, (part (goal.at.slice_bounds-b-start c).After-size_at-size).header)

pub slice_bounds-b-end : goal.slice_bounds-b-end
slice_bounds-b-end c = omega (arith, (part (goal.at.slice_bounds-b-end c).After-size_at-size).within)

pub targets_in-requires : goal.targets_in-requires
targets_in-requires c =
    handed-checked c.args.r c.args.l.now c.args.l.now 0 _ c.requires (part (goal.at.targets_in-requires c).After-size_at-size)

pub records_length-requires : goal.records_length-requires
records_length-requires c =
    handed-checked c.args.r c.args.l.now c.args.l.now 0 _ c.requires (part (goal.at.records_length-requires c).After-size_at-size)

pub returns-in_err-segment_check : goal.returns-in_err-segment_check
returns-in_err-segment_check c =
    let a = c.args in
    let (f, q, h) = err_from_is_err_and c.from_residual.result c.from_residual.ensures.1 in
    q ∙ ap Err h ∙ found-bad a.r a.l.now _ _ (sym c.in_err-segment_check.ensures)

pub returns : goal.returns
unfolding type_at
returns c =
    let a = c.args in
    found-good a.r a.l.now _ (passed (goal.at.returns c).In_ok-segment_check) c.size_at-size.ensures
    (body-part a.l.now _ c.size_at-size.ensures (part (goal.at.returns c).After-size_at-size).header) c.targets_in.ensures.0 c.records_length.ensures
