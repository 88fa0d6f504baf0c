-- `reader::lay_out` meets its contract. Each type's filler is handed a body to which that type's rows do not apply.
-- Assumes nothing.
use Prim.Native.Nat.{ℕ, ◌≤◌}
use native.Mathlib.Omega.{arith}
use borrow.Author.Rules.{rules}
use mathlib.Core.Path.{◌≡◌, sym, ◌∙◌}
use mathlib.Core.List.{List}
use lib.ListN.{length}
use lib.Seq.{sets}
use Rattle.format.specs.Check.{Passed}
use Rattle.format.specs.Edition.{is_hrr}
use Rattle.format.specs.Sheet.{body_length, opaque_records, segment_records, record_bytes}
use Rattle.format.specs.Rows.{first_row, body_rows}
use Rattle.format.proofs.Bodies.{mission-length, job-length, kept-length, text-length}
use Rattle.format.proofs.ByType.{rows_as, room_as, laid_as}
use Rattle.format.proofs.Lengths.{records_of}
use Rattle.segments.specs.InnerWalk.{bytes_of}
use Rattle.segments.proofs.Types.{bytes-other, bytes-three, room-as-opaque, laid-as-opaque}
use Rattle.reader.proofs.lay_out.Goals as goal
use Rattle.reader.proofs.lay_out.Goals.{Else-is_hrr_read, In_default, Start}

-- in the arm of type k: its rows do not apply, its records have room, and laid out they are the segment's
module _ (s : Start) (k : ℕ) (e : s.args.segment_type ≡ k) where
  abbrev b : List ℕ
  b = s.args.b.now

  abbrev o : List ℕ
  o = s.args.o.now

  rows : first_row (body_rows s.args.r k b) ≡ Passed
  rows = rows_as s.args.r b s.args.segment_type k e s.requires.0.rows

  room : records_of s.args.r k b ≤ length o
  room = room_as s.args.r b s.args.segment_type k _ e s.requires.1

  laid : {p : List ℕ} → p ≡ sets o 0 (bytes_of s.args.r k b) → p ≡ sets o 0 (bytes_of s.args.r s.args.segment_type b)
  laid h = laid_as s.args.r b s.args.segment_type k o e h

pub mission_records-requires : goal.mission_records-requires
unfolding body_rows body_length
mission_records-requires c = let e = c.in-1.is in (mission-length c.args.b.now (rows (goal.at.mission_records-requires c).Start 1 e), room (goal.at.mission_records-requires c).Start 1 e)

pub dwell_records-requires : goal.dwell_records-requires
unfolding body_rows
dwell_records-requires c = let e = c.in-2.is in (rows (goal.at.dwell_records-requires c).Start 2 e, room (goal.at.dwell_records-requires c).Start 2 e)

pub hrr_records-requires : goal.hrr_records-requires
unfolding body_rows
hrr_records-requires c =
    let e = c.in-3.is in
    let h = sym c.is_hrr_read.ensures ∙ c.if-is_hrr_read.true in
    (rw h at (rows (goal.at.hrr_records-requires c).Start 3 e), rw h at (room (goal.at.hrr_records-requires c).Start 3 e))

-- a segment of type 3 that is not read field by field
three : (c : Else-is_hrr_read) → let a = c.args in
    bytes_of a.r a.segment_type a.b.now ≡ record_bytes (opaque_records a.segment_type a.b.now)
three c =
    let a = c.args in
    bytes-three a.r a.b.now a.segment_type c.in-3.is (sym c.is_hrr_read.ensures ∙ c.if-is_hrr_read.false)

pub opaque_records-requires : goal.opaque_records-requires
opaque_records-requires c =
    (c.requires.0.short, room-as-opaque c.args.r c.args.b.now c.args.segment_type (three (goal.at.opaque_records-requires c).Else-is_hrr_read) _ c.requires.1)

pub job_records-requires : goal.job_records-requires
unfolding body_rows is_hrr body_length
job_records-requires c = let e = c.in-5.is in (omega (arith, job-length c.args.r c.args.b.now (rows (goal.at.job_records-requires c).Start 5 e)), room (goal.at.job_records-requires c).Start 5 e)

pub text_records-requires : goal.text_records-requires
unfolding body_rows is_hrr
text_records-requires c = let e = c.in-6.is in (text-length c.args.b.now (rows (goal.at.text_records-requires c).Start 6 e), c.requires.0.short, room (goal.at.text_records-requires c).Start 6 e)

pub test_records-requires : goal.test_records-requires
unfolding body_rows is_hrr body_length
test_records-requires c = let e = c.in-10.is in (kept-length 14 c.args.b.now (rows (goal.at.test_records-requires c).Start 10 e), room (goal.at.test_records-requires c).Start 10 e)

pub location_records-requires : goal.location_records-requires
unfolding body_rows is_hrr body_length
location_records-requires c = let e = c.in-13.is in (kept-length 23 c.args.b.now (rows (goal.at.location_records-requires c).Start 13 e), room (goal.at.location_records-requires c).Start 13 e)

-- a segment of another type
other : (c : In_default) → let a = c.args in
    bytes_of a.r a.segment_type a.b.now ≡ record_bytes (opaque_records a.segment_type a.b.now)
other c = let a = c.args in bytes-other a.r a.b.now a.segment_type (search rules)

pub opaque_records-requires-in_default : goal.opaque_records-requires-in_default
opaque_records-requires-in_default c =
    (c.requires.0.short, room-as-opaque c.args.r c.args.b.now c.args.segment_type (other (goal.at.opaque_records-requires-in_default c).In_default) _ c.requires.1)

pub returns-in-1 : goal.returns-in-1
unfolding segment_records
returns-in-1 c = laid (goal.at.returns-in-1 c).Start 1 c.in-1.is c.mission_records.ensures

pub returns-in-2 : goal.returns-in-2
unfolding segment_records
returns-in-2 c = laid (goal.at.returns-in-2 c).Start 2 c.in-2.is c.dwell_records.ensures

pub returns-then-is_hrr_read : goal.returns-then-is_hrr_read
unfolding segment_records
returns-then-is_hrr_read c =
    laid (goal.at.returns-then-is_hrr_read c).Start 3 c.in-3.is (rw (sym c.is_hrr_read.ensures ∙ c.if-is_hrr_read.true) c.hrr_records.ensures)

pub returns-else-is_hrr_read : goal.returns-else-is_hrr_read
returns-else-is_hrr_read c =
    let a = c.args in
    laid-as-opaque a.r a.b.now a.segment_type (three (goal.at.returns-else-is_hrr_read c).Else-is_hrr_read) a.o.now c.opaque_records.ensures

pub returns-in-5 : goal.returns-in-5
unfolding segment_records is_hrr
returns-in-5 c = laid (goal.at.returns-in-5 c).Start 5 c.in-5.is c.job_records.ensures

pub returns-in-6 : goal.returns-in-6
unfolding segment_records is_hrr
returns-in-6 c = laid (goal.at.returns-in-6 c).Start 6 c.in-6.is c.text_records.ensures

pub returns-in-10 : goal.returns-in-10
unfolding segment_records is_hrr
returns-in-10 c = laid (goal.at.returns-in-10 c).Start 10 c.in-10.is c.test_records.ensures

pub returns-in-13 : goal.returns-in-13
unfolding segment_records is_hrr
returns-in-13 c = laid (goal.at.returns-in-13 c).Start 13 c.in-13.is c.location_records.ensures

pub returns-in_default : goal.returns-in_default
returns-in_default c =
    let a = c.args in
    laid-as-opaque a.r a.b.now a.segment_type (other (goal.at.returns-in_default c).In_default) a.o.now c.opaque_records-in_default.ensures
