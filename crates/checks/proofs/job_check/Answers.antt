-- `checks::job_check` meets its contract. The rows of a job definition's body, in their order.
-- Assumes nothing.
use Prim.Native.Nat.{ℕ}
use Rattle.std.specs.Prelude.{List}
use native.Mathlib.Omega.{arith}
use mathlib.Core.Path.{◌≡◌, sym, ◌∙◌}
use borrow.Author.Tests.{eq-eqb, ne_eqb}
use lib.ListN.{drop}
use Rattle.octets.specs.Layout.{total, field, value}
use Rattle.text.specs.Text.{text_fault}
use Rattle.format.specs.declared.Reading.{Reading}
use Rattle.format.specs.Check.{Check}
use Rattle.format.specs.Packet.{s2}
use Rattle.format.specs.Rows.{first_row, job_rows}
use Rattle.octets.proofs.Laws.{one_byte}
use Rattle.checks.proofs.job_check.Goals as goal
use Rattle.checks.proofs.job_check.Goals.{else-is_older-via-then-is_older+else-is_new_mode, else-is_older-via-else-is_older}
use Rattle.checks.proofs.job_check.Goals.{Else-b-ne68, Else-not-is_line}

-- the first row that applies, of those from the k-th on
abbrev from : ℕ → Reading → List ℕ → Check
from k r b = first_row (drop k (job_rows r b))

-- row 9 does not apply
past-9 : (c : Else-b-ne68) → from 0 c.args.r c.args.b.now ≡ from 1 c.args.r c.args.b.now
unfolding first_row job_rows
past-9 c = rw (eq-eqb (s2 c.args.b.now) 73 (omega arith))

-- nor does row 10
past-10 : (c : Else-not-is_line) → from 0 c.args.r c.args.b.now ≡ from 2 c.args.r c.args.b.now
unfolding first_row job_rows text_fault field total
past-10 c = past-9 (goal.at.Else-not-is_line c).Else-b-ne68 ∙ rw (sym c.is_line.ensures ∙ c.if-not-is_line.false)

pub returns-then-b-ne68 : goal.returns-then-b-ne68
unfolding first_row job_rows
returns-then-b-ne68 c =
    c.row.ensures
    ∙ rw (ne_eqb (s2 c.args.b.now) 73 (λ e. c.if-b-ne68.true (omega arith)))

pub returns-then-not-is_line : goal.returns-then-not-is_line
unfolding first_row job_rows text_fault field total
returns-then-not-is_line c =
    c.naming.ensures
    ∙ sym (past-9 (goal.at.returns-then-not-is_line c).Else-b-ne68 ∙ rw (sym c.is_line.ensures ∙ c.if-not-is_line.true))

pub returns-then-is_new_mode : goal.returns-then-is_new_mode
unfolding first_row job_rows value total
returns-then-is_new_mode c =
    c.naming-then-is_new_mode.ensures
    ∙ sym
    (past-10 (goal.at.returns-then-is_new_mode c).Else-not-is_line
    ∙ rw (sym c.is_older.ensures ∙ c.if-is_older.true, one_byte 45 c.args.b.now, sym c.is_new_mode.ensures ∙ c.if-is_new_mode.true))

pub returns : goal.returns
unfolding first_row job_rows value total
returns c =
    let older = sym c.is_older.ensures in
    sym
    (past-10 (goal.at.returns c).Else-not-is_line
    ∙ elim c.else-is_older.branch [
      | else-is_older-via-then-is_older+else-is_new_mode w ↦
          rw (older ∙ w.if-is_older.true, one_byte 45 c.args.b.now, sym w.is_new_mode.ensures ∙ w.if-is_new_mode.false)
      | else-is_older-via-else-is_older w ↦ rw (older ∙ w.if-is_older.false)
    ])
