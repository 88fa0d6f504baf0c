-- `segments::segment_check` meets its contract. The rows of a segment, in their order.
-- Assumes nothing.
use Prim.Native.Nat.{ℕ}
use native.Mathlib.Omega.{arith}
use mathlib.Core.Path.{◌≡◌, sym, ap, ◌∙◌}
use mathlib.Core.List.{List}
use mathlib.Core.Logic.{inl, inr}
use borrow.Author.Tests.{lt-ltb, le-ltb, eq-eqb, ne_eqb}
use lib.ListN.{length, drop}
use Rattle.format.specs.declared.Reading.{Reading}
use Rattle.format.specs.Check.{Check}
use Rattle.format.specs.Packet.{type_at}
use Rattle.format.specs.Rows.{first_row, body_rows, segment_rows}
use Rattle.format.proofs.Segments.{body-part}
use Rattle.segments.proofs.segment_check.Goals as goal
use Rattle.segments.proofs.segment_check.Goals.{else-is_older-via-then-is_older+else-segment_type-eq3, else-is_older-via-else-is_older}
use Rattle.segments.proofs.segment_check.Goals.{Else-l-lt5, Else-l-size, Else-not-is_known_type, Joined-else-is_older}

-- the first row that applies, of those from the k-th on
abbrev from : ℕ → Reading → List ℕ → Check
from k r l = first_row (drop k (segment_rows r l))

-- row 6 does not apply
past-6 : (c : Else-l-lt5) → from 0 c.args.r c.args.l.now ≡ from 1 c.args.r c.args.l.now
unfolding first_row segment_rows
past-6 c = rw (le-ltb (length c.args.l.now) 5 c.if-l-lt5.false)

-- nor does row 7
past-7 : (c : Else-not-is_known_type) → from 0 c.args.r c.args.l.now ≡ from 2 c.args.r c.args.l.now
unfolding first_row segment_rows type_at
past-7 c = past-6 (goal.at.Else-not-is_known_type c).Else-l-lt5 ∙ rw (sym c.is_known_type.ensures ∙ c.if-not-is_known_type.false)

-- nor row 8
past-8 : (c : Else-l-size) → from 0 c.args.r c.args.l.now ≡ from 3 c.args.r c.args.l.now
unfolding first_row segment_rows
past-8 c =
    let size = c.size_at-size in
    past-7 (goal.at.Else-l-size c).Else-not-is_known_type ∙ rw (sym size.ensures, le-ltb size.result 5 c.if-size-lt5.false, le-ltb (length c.args.l.now) size.result c.if-l-size.false)

-- nor row 15
past-15 : (c : Joined-else-is_older) → from 0 c.args.r c.args.l.now ≡ from 4 c.args.r c.args.l.now
unfolding first_row segment_rows type_at
past-15 c =
    let older = sym c.is_older.ensures in
    past-8 (goal.at.Joined-else-is_older c).Else-l-size
    ∙ elim c.else-is_older.branch [
      | else-is_older-via-then-is_older+else-segment_type-eq3 w ↦ rw (older ∙ w.if-is_older.true, ne_eqb _ 3 w.if-segment_type-eq3.false)
      | else-is_older-via-else-is_older w ↦ rw (older ∙ w.if-is_older.false)
    ]

pub returns-then-l-lt5 : goal.returns-then-l-lt5
unfolding first_row segment_rows
returns-then-l-lt5 c =
    c.row.ensures
    ∙ rw (lt-ltb (length c.args.l.now) 5 c.if-l-lt5.true)

pub returns-then-not-is_known_type : goal.returns-then-not-is_known_type
unfolding first_row segment_rows type_at
returns-then-not-is_known_type c =
    c.row-then-not-is_known_type.ensures
    ∙ sym (past-6 (goal.at.returns-then-not-is_known_type c).Else-l-lt5 ∙ rw (sym c.is_known_type.ensures ∙ c.if-not-is_known_type.true))

pub returns-then-size-lt5 : goal.returns-then-size-lt5
unfolding first_row segment_rows
returns-then-size-lt5 c =
    let z = c.size_at-size.result in
    c.row-then-size-lt5.ensures
    ∙ sym
    (past-7 (goal.at.returns-then-size-lt5 c).Else-not-is_known_type
    ∙ rw (sym c.size_at-size.ensures)
    (elim c.then-size-lt5.either [ inl h ↦ rw (lt-ltb z 5 h) | inr h ↦ rw (le-ltb z 5 h.0, lt-ltb (length c.args.l.now) z h.1) ]))

pub returns-then-segment_type-eq3 : goal.returns-then-segment_type-eq3
unfolding first_row segment_rows type_at
returns-then-segment_type-eq3 c =
    c.row-then-segment_type-eq3.ensures
    ∙ sym (past-8 (goal.at.returns-then-segment_type-eq3 c).Else-l-size ∙ rw (sym c.is_older.ensures ∙ c.if-is_older.true, eq-eqb _ 3 c.if-segment_type-eq3.true))

pub returns : goal.returns
unfolding segment_rows type_at
returns c =
    let rows : List ℕ → Check = λ b. first_row (body_rows c.args.r (type_at c.args.l.now) b) in
    let body = body-part c.args.l.now c.size_at-size.result c.size_at-size.ensures (omega arith) in
    sym (past-15 (goal.at.returns c).Joined-else-is_older ∙ ap rows (sym body) ∙ sym c.body_check.ensures)
