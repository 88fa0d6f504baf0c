-- `checks::mission_check` meets its contract. The rows of a mission's body, in their order.
-- Assumes nothing.
use Prim.Native.Nat.{ℕ}
use Rattle.std.specs.Prelude.{List, [], ◌∷◌}
use native.Mathlib.Omega.{arith}
use mathlib.Core.Path.{◌≡◌, sym, ◌∙◌}
use borrow.Author.Tests.{eq-eqb, ne_eqb}
use lib.ListN.{drop}
use Rattle.octets.specs.Layout.{total, value}
use Rattle.format.specs.Check.{Check}
use Rattle.format.specs.Packet.{s2}
use Rattle.format.specs.Rows.{naming, first_row, mission_rows}
use Rattle.format.proofs.Rows.{rows-passed, rows-failed, handed-on}
use Rattle.octets.proofs.Laws.{one_byte}
use Rattle.checks.proofs.mission_check.Goals as goal
use Rattle.checks.proofs.mission_check.Goals.{Else-b-ne39, In_ok-mission_text, Else-not-is_between}

-- the first row that applies, of those from the k-th on
abbrev from : ℕ → List ℕ → Check
from k b = first_row (drop k (mission_rows b))

-- row 9 does not apply
past-9 : (c : Else-b-ne39) → from 0 c.args.b.now ≡ from 1 c.args.b.now
unfolding first_row mission_rows
past-9 c = rw (eq-eqb (s2 c.args.b.now) 44 (omega arith))

-- nor does row 10
past-10 : (c : In_ok-mission_text) → from 0 c.args.b.now ≡ from 2 c.args.b.now
unfolding first_row mission_rows
past-10 c =
    past-9 (goal.at.In_ok-mission_text c).Else-b-ne39 ∙ rows-passed (naming 10 _ ∷ []) (drop 2 (mission_rows c.args.b.now)) (c.in_ok-mission_text.ensures)

-- nor row 13 for M6
past-month : (c : Else-not-is_between) → from 0 c.args.b.now ≡ from 3 c.args.b.now
unfolding first_row mission_rows value total
past-month c =
    past-10 (goal.at.Else-not-is_between c).In_ok-mission_text
    ∙ rw (one_byte 37 c.args.b.now, sym c.is_between.ensures ∙ c.if-not-is_between.false)

pub returns-then-b-ne39 : goal.returns-then-b-ne39
unfolding first_row mission_rows
returns-then-b-ne39 c =
    c.row.ensures
    ∙ rw (ne_eqb (s2 c.args.b.now) 44 (λ e. c.if-b-ne39.true (omega arith)))

pub returns-in_err-mission_text : goal.returns-in_err-mission_text
unfolding first_row mission_rows
returns-in_err-mission_text c =
    let b = c.args.b.now in
    handed-on c.from_residual.result c.from_residual.ensures.1
    ∙ rows-failed (naming 10 _ ∷ []) (drop 2 (mission_rows b)) c.in_err-mission_text.ensures
    ∙ sym (past-9 (goal.at.returns-in_err-mission_text c).Else-b-ne39)

pub returns-then-not-is_between : goal.returns-then-not-is_between
unfolding first_row mission_rows value total
returns-then-not-is_between c =
    c.naming.ensures
    ∙ sym
    (past-10 (goal.at.returns-then-not-is_between c).In_ok-mission_text
    ∙ rw (one_byte 37 c.args.b.now, sym c.is_between.ensures ∙ c.if-not-is_between.true))

pub returns-then-not-is_between-2 : goal.returns-then-not-is_between-2
unfolding first_row mission_rows value total
returns-then-not-is_between-2 c =
    c.naming-then-not-is_between-2.ensures
    ∙ sym
    (past-month (goal.at.returns-then-not-is_between-2 c).Else-not-is_between
    ∙ rw (one_byte 38 c.args.b.now, sym c.is_between-2.ensures ∙ c.if-not-is_between-2.true))

pub returns : goal.returns
unfolding first_row mission_rows value total
returns c =
    sym
    (past-month (goal.at.returns c).Else-not-is_between
    ∙ rw (one_byte 38 c.args.b.now, sym c.is_between-2.ensures ∙ c.if-not-is_between-2.false))
