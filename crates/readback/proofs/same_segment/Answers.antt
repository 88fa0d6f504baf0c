-- `readback::same_segment` meets its contract. Records that fit are compared in the window; longer ones are a dwell's, an HRR segment's, a
-- text's, or opaque.
-- Assumes nothing.
use Prim.Native.Nat.{ℕ, ◌-◌}
use native.Mathlib.Omega.{arith}
use borrow.Author.Rules.{rules}
use mathlib.Core.Path.{◌≡◌, refl, sym, ap, ◌∙◌}
use mathlib.Core.Bool.{Bool, false}
use mathlib.Core.List.{List}
use lib.ListN.{length, take, drop, length-drop}
use Rattle.octets.proofs.Parts.{tail-is}
use Rattle.format.specs.Check.{Passed}
use Rattle.format.specs.Edition.{is_hrr}
use Rattle.format.specs.Sheet.{body_length, record_of, pieces_of, piece_count, text_records, opaque_records, segment_records, record_bytes}
use Rattle.format.specs.Lengths.{record_length}
use Rattle.format.specs.Rows.{first_row, body_rows}
use Rattle.format.specs.Writer.{is_same}
use Rattle.format.proofs.Bodies.{text-length}
use Rattle.format.proofs.ByType.{rows_as}
use Rattle.format.proofs.Lengths.{records_of, length-one, length-opaque}
use Rattle.format.proofs.Types.{other-than-hrr}
use Rattle.segments.specs.InnerWalk.{bytes_of}
use Rattle.segments.proofs.Types.{length-as, bytes-three}
use Rattle.readback.proofs.Types.{filled-same, behind-same, longer-is}
use Rattle.readback.proofs.same_segment.Goals as goal
use Rattle.readback.proofs.same_segment.Goals.{In_default, Start}

module _ (s : Start) where
  abbrev b : List ℕ
  b = s.args.b.now

  abbrev x : List ℕ
  x = s.args.x.now

  -- the segment's records, were it of type k
  abbrev bytes_as : ℕ → List ℕ
  bytes_as k = bytes_of s.args.r k b

  -- an answer on bytes that are the segment's records
  told : (y : List ℕ) {same : Bool} → bytes_as s.args.segment_type ≡ y → same ≡ is_same y x → same ≡ is_same (bytes_as s.args.segment_type) x
  told y e h = h ∙ sym (ap (λ (u : List ℕ). is_same u x) e)

  -- in the arm of type k: its rows do not apply, and x is as long as its records
  module _ (k : ℕ) (e : s.args.segment_type ≡ k) where
    rows : first_row (body_rows s.args.r k b) ≡ Passed
    rows = rows_as s.args.r b s.args.segment_type k e s.requires.0.rows

    long : records_of s.args.r k b ≡ length x
    long = length-as s.args.r b s.args.segment_type k e refl ∙ s.requires.1

    bytes-are : bytes_as s.args.segment_type ≡ bytes_as k
    bytes-are = ap bytes_as e

  -- what is handed on of a text's body has the length of F3
  pieces : length (take (length b - 20) (drop 20 b)) ≡ length b - 20
  pieces = ap length (tail-is 20 b) ∙ length-drop 20 b

  -- a segment of type 3 that is not read field by field is opaque
  unread : {read : Bool} → s.args.segment_type ≡ 3 → read ≡ is_hrr s.args.r 3 → read ≡ false → bytes_as s.args.segment_type ≡ record_bytes (opaque_records s.args.segment_type b)
  unread e is h = bytes-three s.args.r b s.args.segment_type e (sym is ∙ h)

  -- an opaque segment's records are as long as x
  long-opaque : bytes_as s.args.segment_type ≡ record_bytes (opaque_records s.args.segment_type b) → length (record_bytes (opaque_records s.args.segment_type b)) ≡ length x
  long-opaque e = sym (ap length e) ∙ s.requires.1

-- in the last arm the segment is opaque
opaque : (c : In_default) → bytes_as (goal.at.In_default c).Start c.args.segment_type ≡ record_bytes (opaque_records c.args.segment_type (b (goal.at.In_default c).Start))
opaque c =
    longer-is c.args.r (b (goal.at.In_default c).Start) c.args.segment_type (omega (arith, c.requires.1, c.if-x-le-WINDOW.false)) (search rules) (other-than-hrr c.args.r c.args.segment_type (search rules)) (search rules)

pub returns-then-x-le-WINDOW : goal.returns-then-x-le-WINDOW
returns-then-x-le-WINDOW c =
    filled-same (bytes_as (goal.at.returns-then-x-le-WINDOW c).Start c.args.segment_type) (x (goal.at.returns-then-x-le-WINDOW c).Start) c.args.window.now _ c.segment_records.ensures.o_after c.requires.1 (omega (arith, c.if-x-le-WINDOW.true, c.told-window)) c.is_front.ensures

pub same_dwell-requires : goal.same_dwell-requires
unfolding body_rows is_hrr
same_dwell-requires c =
    let e = c.in-2.is in
    (rows (goal.at.same_dwell-requires c).Start 2 e, long (goal.at.same_dwell-requires c).Start 2 e)

pub same_hrr-requires : goal.same_hrr-requires
unfolding body_rows is_hrr
same_hrr-requires c =
    let e = c.in-3.is in
    let read = sym c.is_hrr_read.ensures ∙ c.if-is_hrr_read.true in
    (rw read at (rows (goal.at.same_hrr-requires c).Start 3 e), rw read at (long (goal.at.same_hrr-requires c).Start 3 e))

pub same_opaque-requires : goal.same_opaque-requires
same_opaque-requires c =
    (c.requires.0.short, sym (length-opaque c.args.segment_type (b (goal.at.same_opaque-requires c).Start)) ∙ long-opaque (goal.at.same_opaque-requires c).Start (unread (goal.at.same_opaque-requires c).Start c.in-3.is c.is_hrr_read.ensures c.if-is_hrr_read.false))

pub text_record-requires : goal.text_record-requires
unfolding body_rows is_hrr
text_record-requires c =
    (text-length (b (goal.at.text_record-requires c).Start) (rows (goal.at.text_record-requires c).Start 6 c.in-6.is), c.requires.0.short, omega (arith, c.told-window))

pub slice_bounds-same_with_pieces-count : goal.slice_bounds-same_with_pieces-count
unfolding body_rows is_hrr
slice_bounds-same_with_pieces-count c =
    text-length (b (goal.at.slice_bounds-same_with_pieces-count c).Start) (rows (goal.at.slice_bounds-same_with_pieces-count c).Start 6 c.in-6.is)

pub slice_bounds-same_with_pieces-start : goal.slice_bounds-same_with_pieces-start
unfolding body_rows is_hrr
slice_bounds-same_with_pieces-start c = omega (arith, text-length (b (goal.at.slice_bounds-same_with_pieces-start c).Start) (rows (goal.at.slice_bounds-same_with_pieces-start c).Start 6 c.in-6.is))

pub same_with_pieces-requires : goal.same_with_pieces-requires
same_with_pieces-requires c =
    let kept = c.text_record.auto in
    (omega (arith, kept, c.told-window), omega (arith, long (goal.at.same_with_pieces-requires c).Start 6 c.in-6.is, ap piece_count (pieces (goal.at.same_with_pieces-requires c).Start)))

pub same_opaque-requires-in_default : goal.same_opaque-requires-in_default
same_opaque-requires-in_default c =
    (c.requires.0.short, sym (length-opaque c.args.segment_type (b (goal.at.same_opaque-requires-in_default c).Start)) ∙ long-opaque (goal.at.same_opaque-requires-in_default c).Start (opaque (goal.at.same_opaque-requires-in_default c).In_default))

pub returns-in-2 : goal.returns-in-2
unfolding segment_records
returns-in-2 c =
    told (goal.at.returns-in-2 c).Start (bytes_as (goal.at.returns-in-2 c).Start 2) (bytes-are (goal.at.returns-in-2 c).Start 2 c.in-2.is) c.same_dwell.ensures

pub returns-then-is_hrr_read : goal.returns-then-is_hrr_read
unfolding segment_records
returns-then-is_hrr_read c =
    told (goal.at.returns-then-is_hrr_read c).Start _ (rw (sym c.is_hrr_read.ensures ∙ c.if-is_hrr_read.true) at (bytes-are (goal.at.returns-then-is_hrr_read c).Start 3 c.in-3.is)) c.same_hrr.ensures

pub returns-else-is_hrr_read : goal.returns-else-is_hrr_read
returns-else-is_hrr_read c =
    told (goal.at.returns-else-is_hrr_read c).Start _ (unread (goal.at.returns-else-is_hrr_read c).Start c.in-3.is c.is_hrr_read.ensures c.if-is_hrr_read.false) c.same_opaque.ensures

pub returns-in-6 : goal.returns-in-6
unfolding segment_records text_records body_length is_hrr
returns-in-6 c =
    behind-same (record_of 5 _) (pieces_of (take (length (b (goal.at.returns-in-6 c).Start) - 20) (drop 20 (b (goal.at.returns-in-6 c).Start)))) (bytes_as (goal.at.returns-in-6 c).Start c.args.segment_type) (x (goal.at.returns-in-6 c).Start) c.args.window.now _ (record_length 5) c.text_record.ensures (length-one 5 _) (omega (arith, c.told-window)) c.same_with_pieces.ensures
    (rw (tail-is 20 (b (goal.at.returns-in-6 c).Start)) (bytes-are (goal.at.returns-in-6 c).Start 6 c.in-6.is))

pub returns-in_default : goal.returns-in_default
returns-in_default c =
    told (goal.at.returns-in_default c).Start _ (opaque (goal.at.returns-in_default c).In_default) c.same_opaque-in_default.ensures
