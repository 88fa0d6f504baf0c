-- `spelling::put_next` meets its contract. What the record gives and, in the part that is left, what its row gives.
-- Assumes nothing.
use mathlib.Core.Path.{◌≡◌, sym, ap, ◌∙◌}
use mathlib.Core.List.{List}
use Prim.Native.Nat.{ℕ, ◌+◌, ◌≤◌}
use native.Mathlib.Omega.{arith}
use lib.ListN.{length, length-drop}
use lib.Seq.{sets}
use Rattle.octets.proofs.Laws.{then}
use Rattle.octets.proofs.Parts.{tail-is, part_filled}
use Rattle.format.specs.Sheet.{Record}
use Rattle.spelling.specs.InnerSpelling.{spelt, given_in_row, record_in, leading}
use Rattle.spelling.proofs.Nexts.{next-is, next-length, alone-next, alone-read, no_row}
use Rattle.spelling.proofs.put_next.Goals as goal
use Rattle.spelling.proofs.put_next.Goals.{Start}

-- what the record gives, and what its row
module _ (s : Start) where
  abbrev record_of : Record
  record_of = record_in s.args.kind s.args.b.now

  abbrev first : List ℕ
  first = spelt (leading s.args.leader.now) record_of

  abbrev behind : List ℕ
  behind = given_in_row record_of s.args.rest.now

  -- both have room
  room : length first + length behind ≤ length s.args.o.now
  room = omega (arith, s.requires.1, next-length (leading s.args.leader.now) record_of s.args.rest.now)

pub put_record-n-requires : goal.put_record-n-requires
put_record-n-requires c =
    (c.requires.0.0, omega (arith, room (goal.at.put_record-n-requires c).Start))

-- the row's part of o
pub slice_bounds-put_row-count : goal.slice_bounds-put_row-count
slice_bounds-put_row-count c =
    let put = c.put_record-n in
    omega (arith, room (goal.at.slice_bounds-put_row-count c).Start, put.ensures.value, put.auto.o)

pub slice_bounds-put_row-start : goal.slice_bounds-put_row-start
slice_bounds-put_row-start c =
    let put = c.put_record-n in
    omega (arith, room (goal.at.slice_bounds-put_row-start c).Start, put.ensures.value, put.auto.o)

pub put_row-behind-requires : goal.put_row-behind-requires
put_row-behind-requires c =
    let put = c.put_record-n in
    let o = put.new.o in (
      c.requires.0.0.0,
      sym c.leads_row.ensures ∙ c.if-leads_row.true,
      (c.requires.0.1, rw (tail-is put.result o, length-drop) (omega (arith, room (goal.at.put_row-behind-requires c).Start, put.ensures.value, put.auto.o))),
    )

pub overflow_add-result : goal.overflow_add-result
overflow_add-result c =
    let put = c.put_record-n in
    omega (arith, room (goal.at.overflow_add-result c).Start, put.ensures.value, c.put_row-behind.ensures.written_is, c.well_formed)

pub returns-then-leads_row : goal.returns-then-leads_row
returns-then-leads_row c =
    let put = c.put_record-n in
    let row = c.put_row-behind.ensures in
    let n = put.result in
    let o = put.new.o in
    let start : n ≡ 0 + n = omega arith in
    let leader = leading c.args.leader.now in
    record {
      read_value = (row.read_is, omega (arith, put.ensures.value, row.written_is, next-length leader (record_of (goal.at.returns-then-leads_row c).Start) c.args.rest.now));
      o_after =
          then (first (goal.at.returns-then-leads_row c).Start) (behind (goal.at.returns-then-leads_row c).Start) c.args.o.now 0 n put.ensures.o_after (sym put.ensures.value) (part_filled o (behind (goal.at.returns-then-leads_row c).Start) n row.stored ∙ ap (λ (i : ℕ). sets o i (behind (goal.at.returns-then-leads_row c).Start)) start)
          ∙ ap (sets c.args.o.now 0) (next-is leader (record_of (goal.at.returns-then-leads_row c).Start) c.args.rest.now);
    }

pub returns : goal.returns
returns c =
    let put = c.put_record-n in
    let leader = leading c.args.leader.now in
    let none = no_row c.args.kind c.args.b.now (sym c.leads_row.ensures ∙ c.if-leads_row.false) in
    let e = alone-next leader (record_of (goal.at.returns c).Start) c.args.rest.now none in
    record {
      read_value = (alone-read leader (record_of (goal.at.returns c).Start) c.args.rest.now none, put.ensures.value ∙ ap length e);
      o_after = put.ensures.o_after ∙ ap (sets c.args.o.now 0) e;
    }
