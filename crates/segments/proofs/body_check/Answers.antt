-- `segments::body_check` meets its contract. Each type's check answers the first of the type's rows that applies.
-- Assumes nothing.
use Rattle.std.proofs.Common.{rules}
use mathlib.Core.Path.{◌≡◌, sym, ◌∙◌}
use Prim.Native.Nat.{ℕ}
use Rattle.format.specs.Check.{Check}
use Rattle.format.specs.Edition.{is_hrr}
use Rattle.format.specs.Rows.{first_row, body_rows}
use Rattle.segments.proofs.Types.{row_as, row_other}
use Rattle.segments.proofs.body_check.Goals as goal
use Rattle.segments.proofs.body_check.Goals.{Start}

-- what the check of type k answers
is : (s : Start) (k : ℕ) {c : Check} → let a = s.args in a.segment_type ≡ k → c ≡ first_row (body_rows a.r k a.b.now) → c ≡ first_row (body_rows a.r a.segment_type a.b.now)
is s k e h = row_as s.args.r s.args.b.now s.args.segment_type k e h

pub returns-in-1 : goal.returns-in-1
unfolding body_rows
returns-in-1 c = is (goal.at.returns-in-1 c).Start 1 c.in-1.is c.mission_check.ensures

pub returns-in-2 : goal.returns-in-2
unfolding body_rows
returns-in-2 c = is (goal.at.returns-in-2 c).Start 2 c.in-2.is c.dwell_check.ensures

pub returns-then-is_hrr_read : goal.returns-then-is_hrr_read
unfolding body_rows
returns-then-is_hrr_read c =
    is (goal.at.returns-then-is_hrr_read c).Start 3 c.in-3.is (rw (sym c.is_hrr_read.ensures ∙ c.if-is_hrr_read.true) c.hrr_check.ensures)

pub returns-else-is_hrr_read : goal.returns-else-is_hrr_read
unfolding body_rows first_row
returns-else-is_hrr_read c =
    is (goal.at.returns-else-is_hrr_read c).Start 3 c.in-3.is (rw (sym c.is_hrr_read.ensures ∙ c.if-is_hrr_read.false))

pub returns-in-5 : goal.returns-in-5
unfolding body_rows is_hrr
returns-in-5 c = is (goal.at.returns-in-5 c).Start 5 c.in-5.is c.job_check.ensures

pub returns-in-6 : goal.returns-in-6
unfolding body_rows is_hrr
returns-in-6 c = is (goal.at.returns-in-6 c).Start 6 c.in-6.is c.text_check.ensures

pub returns-in-10 : goal.returns-in-10
unfolding body_rows is_hrr
returns-in-10 c = is (goal.at.returns-in-10 c).Start 10 c.in-10.is c.kept_check.ensures

pub returns-in-13 : goal.returns-in-13
unfolding body_rows is_hrr
returns-in-13 c = is (goal.at.returns-in-13 c).Start 13 c.in-13.is c.kept_check-in-13.ensures

pub returns-in_default : goal.returns-in_default
returns-in_default c = let a = c.args in row_other a.r a.b.now a.segment_type (search rules)
