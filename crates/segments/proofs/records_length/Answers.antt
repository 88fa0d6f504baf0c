-- `segments::records_length` meets its contract. Each arm has the length of its type's records.
-- Assumes nothing.
use Prim.Native.Nat.{ℕ}
use native.Mathlib.Omega.{arith}
use Rattle.std.proofs.Common.{rules}
use mathlib.Core.Path.{◌≡◌, refl, sym, ap, ◌∙◌}
use lib.ListN.{length}
use Rattle.format.specs.Edition.{is_hrr}
use Rattle.format.specs.Sheet.{piece_count}
use Rattle.format.specs.Rows.{body_rows}
use Rattle.format.proofs.Bodies.{text-length}
use Rattle.format.proofs.ByType.{rows_as}
use Rattle.format.proofs.Lengths.{records_of}
use Rattle.segments.specs.InnerWalk.{bytes_of, targets_of_type}
use Rattle.segments.proofs.Types.{length-as, bytes-other, length-as-opaque}
use Rattle.segments.proofs.records_length.Goals as goal
use Rattle.segments.proofs.records_length.Goals.{Start}

-- what the arm of type k answers
is : (s : Start) (k : ℕ) {n : ℕ} → let a = s.args in a.segment_type ≡ k → n ≡ records_of a.r k a.b.now → n ≡ length (bytes_of a.r a.segment_type a.b.now)
is s k e h = length-as s.args.r s.args.b.now s.args.segment_type k e h

pub hrr_length-requires : goal.hrr_length-requires
unfolding body_rows
hrr_length-requires c =
    rw (sym c.is_hrr_read.ensures ∙ c.if-is_hrr_read.true) at (rows_as c.args.r c.args.b.now c.args.segment_type 3 c.in-3.is c.requires.rows)

pub overflow_sub-b : goal.overflow_sub-b
unfolding body_rows is_hrr
overflow_sub-b c =
    let b = c.args.b.now in
    text-length b (rows_as c.args.r b c.args.segment_type 6 c.in-6.is c.requires.rows)

pub overflow_add-result-in-6 : goal.overflow_add-result-in-6
unfolding piece_count
overflow_add-result-in-6 c = omega (arith, c.pieces_length.ensures)

pub returns-in-1 : goal.returns-in-1
returns-in-1 c = is (goal.at.returns-in-1 c).Start 1 c.in-1.is refl

pub returns-in-2 : goal.returns-in-2
returns-in-2 c =
    let e = c.in-2.is in
    is (goal.at.returns-in-2 c).Start 2 e (omega (arith, c.targets_in.ensures.0 ∙ ap (λ (t : ℕ). targets_of_type t c.args.b.now) e))

pub returns-then-is_hrr_read : goal.returns-then-is_hrr_read
returns-then-is_hrr_read c =
    is (goal.at.returns-then-is_hrr_read c).Start 3 c.in-3.is (rw (sym c.is_hrr_read.ensures ∙ c.if-is_hrr_read.true) c.hrr_length.ensures)

pub returns-else-is_hrr_read : goal.returns-else-is_hrr_read
returns-else-is_hrr_read c =
    is (goal.at.returns-else-is_hrr_read c).Start 3 c.in-3.is (rw (sym c.is_hrr_read.ensures ∙ c.if-is_hrr_read.false) c.opaque_length.ensures)

pub returns-in-5 : goal.returns-in-5
returns-in-5 c = is (goal.at.returns-in-5 c).Start 5 c.in-5.is refl

pub returns-in-6 : goal.returns-in-6
returns-in-6 c = is (goal.at.returns-in-6 c).Start 6 c.in-6.is (omega (arith, c.pieces_length.ensures))

pub returns-in-10 : goal.returns-in-10
returns-in-10 c = is (goal.at.returns-in-10 c).Start 10 c.in-10.is refl

pub returns-in-13 : goal.returns-in-13
returns-in-13 c = is (goal.at.returns-in-13 c).Start 13 c.in-13.is refl

pub returns-in_default : goal.returns-in_default
returns-in_default c =
    let a = c.args in
    length-as-opaque a.r a.b.now a.segment_type (bytes-other a.r a.b.now a.segment_type (search rules)) c.opaque_length-in_default.ensures
