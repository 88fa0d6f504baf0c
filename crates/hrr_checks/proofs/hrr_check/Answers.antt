-- `hrr_checks::hrr_check` meets its contract. The rows of an HRR segment's body, in their order.
-- Assumes nothing.
use borrow.Author.Tests.{lt-ltb, le-ltb}
use mathlib.Core.Path.{◌≡◌, sym, ap, ◌∙◌}
use native.Mathlib.Omega.{arith}
use lib.ListN.{drop}
use Rattle.hrr.specs.Hrr.{hrr_mask, is_hrr_mask}
use Rattle.format.specs.Packet.{s2}
use Rattle.format.specs.Rows.{first_row, hrr_rows}
use Rattle.hrr_checks.proofs.hrr_check.Goals as goal
use Rattle.hrr_checks.proofs.hrr_check.Goals.{After-is_mask, Else-b-lt-MASK}

-- row 9 does not apply
past-9 : (c : Else-b-lt-MASK) → let b = c.args.b.now in first_row (hrr_rows b) ≡ first_row (drop 1 (hrr_rows b))
unfolding first_row hrr_rows
past-9 c = rw (le-ltb (s2 c.args.b.now) 10 (omega arith))

-- what row 21 says of the mask
mask_is : (c : After-is_mask) → c.is_mask.result ≡ is_hrr_mask (hrr_mask c.args.b.now)
mask_is c = c.is_mask.ensures ∙ ap is_hrr_mask c.mask_of-mask.ensures

pub returns-then-b-lt-MASK : goal.returns-then-b-lt-MASK
unfolding first_row hrr_rows
returns-then-b-lt-MASK c =
    c.row.ensures
    ∙ rw (lt-ltb (s2 c.args.b.now) 10 (omega arith))

pub returns-then-not-is_mask : goal.returns-then-not-is_mask
unfolding first_row hrr_rows
returns-then-not-is_mask c =
    c.row-then-not-is_mask.ensures
    ∙ sym (past-9 (goal.at.returns-then-not-is_mask c).Else-b-lt-MASK ∙ rw (sym (mask_is (goal.at.returns-then-not-is_mask c).After-is_mask), c.if-not-is_mask.true))

pub size_check-requires : goal.size_check-requires
size_check-requires c =
    (c.mask_of-mask.ensures, sym c.is_mask.ensures ∙ c.if-not-is_mask.false, omega arith)

pub returns : goal.returns
unfolding first_row hrr_rows
returns c =
    c.size_check.ensures ∙ sym (past-9 (goal.at.returns c).Else-b-lt-MASK ∙ rw (sym (mask_is (goal.at.returns c).After-is_mask), c.if-not-is_mask.false))
