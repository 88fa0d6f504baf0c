-- `readback::same_sheet` meets its contract. The header's record, and the records of the segments behind it.
-- Assumes nothing.
use Prim.Native.Nat.{ℕ, ◌+◌}
use native.Mathlib.Omega.{arith}
use mathlib.Core.Path.{◌≡◌, sym, ap, ◌∙◌}
use mathlib.Core.List.{List, [], ◌∷◌}
use lib.ListN.{length, take}
use Rattle.octets.proofs.Parts.{tail-is}
use Rattle.format.specs.Sheet.{body_length, header_record, record_bytes}
use Rattle.format.specs.Lengths.{record_length}
use Rattle.format.specs.Writer.{is_same}
use Rattle.format.proofs.Lengths.{length-header}
use Rattle.segments.specs.InnerWalk.{all_bytes}
use Rattle.segments.proofs.Packets.{behind, Whole, whole}
use Rattle.readback.proofs.Fronts.{front-is, head-differs, head-same}
use Rattle.readback.proofs.Rests.{left-length}
use Rattle.readback.proofs.same_sheet.Goals as goal
use Rattle.readback.proofs.same_sheet.Goals.{After-header_record, After-reading_of-r}

-- what is known of the packet, where its reading is; x is as long as the sheet
module _ (c : After-reading_of-r) where
  abbrev packet : List ℕ
  packet = c.args.packet.now

  abbrev x : List ℕ
  x = c.args.x.now

  abbrev header : List ℕ
  header = record_bytes (header_record packet ∷ [])

  known : Whole c.args.settings packet c.reading_of-r.result
  known = whole c.args.settings packet c.reading_of-r.result c.requires.0 c.reading_of-r.ensures

  long : length x ≡ record_length 1 + length (all_bytes c.reading_of-r.result (behind packet))
  long = sym c.requires.1 ∙ known.sheet-length

-- the header's record stands in the window
laid : (c : After-header_record) → take (record_length 1) c.header_record.new.o ≡ header (goal.at.After-header_record c).After-reading_of-r
laid c = front-is (header (goal.at.After-header_record c).After-reading_of-r) c.args.window.now _ (record_length 1) c.header_record.ensures (length-header (packet (goal.at.After-header_record c).After-reading_of-r)) (omega (arith, c.told-window))

pub header_record-requires : goal.header_record-requires
unfolding body_length
header_record-requires c = ((known (goal.at.header_record-requires c).After-reading_of-r).headed, omega (arith, c.told-window))

pub slice_bounds-is_front-end-2 : goal.slice_bounds-is_front-end-2
slice_bounds-is_front-end-2 c = omega (arith, long (goal.at.slice_bounds-is_front-end-2 c).After-reading_of-r)

pub returns-then-not-is_front : goal.returns-then-not-is_front
returns-then-not-is_front c =
    head-differs (header (goal.at.returns-then-not-is_front c).After-reading_of-r) _ (x (goal.at.returns-then-not-is_front c).After-reading_of-r) _ (record_length 1) (laid (goal.at.returns-then-not-is_front c).After-header_record) (length-header (packet (goal.at.returns-then-not-is_front c).After-reading_of-r)) (omega (arith, long (goal.at.returns-then-not-is_front c).After-reading_of-r)) c.is_front.ensures c.if-not-is_front.true
    ∙ ap (λ (y : List ℕ). is_same y (x (goal.at.returns-then-not-is_front c).After-reading_of-r)) (sym (known (goal.at.returns-then-not-is_front c).After-reading_of-r).sheet-is)

pub slice_bounds-same_records-count : goal.slice_bounds-same_records-count
slice_bounds-same_records-count c = omega (arith, (known (goal.at.slice_bounds-same_records-count c).After-reading_of-r).headed)

pub slice_bounds-same_records-start : goal.slice_bounds-same_records-start
slice_bounds-same_records-start c = omega (arith, (known (goal.at.slice_bounds-same_records-start c).After-reading_of-r).headed)

pub slice_bounds-same_records-count-2 : goal.slice_bounds-same_records-count-2
slice_bounds-same_records-count-2 c = omega (arith, long (goal.at.slice_bounds-same_records-count-2 c).After-reading_of-r)

pub slice_bounds-same_records-start-2 : goal.slice_bounds-same_records-start-2
slice_bounds-same_records-start-2 c = omega (arith, long (goal.at.slice_bounds-same_records-start-2 c).After-reading_of-r)

pub same_records-requires : goal.same_records-requires
same_records-requires c =
    ((known (goal.at.same_records-requires c).After-reading_of-r).checked, sym (left-length (record_length 1) _ (x (goal.at.same_records-requires c).After-reading_of-r) (long (goal.at.same_records-requires c).After-reading_of-r)))

pub returns : goal.returns
returns c =
    head-same (header (goal.at.returns c).After-reading_of-r) _ (x (goal.at.returns c).After-reading_of-r) _ (record_length 1) (laid (goal.at.returns c).After-header_record) (length-header (packet (goal.at.returns c).After-reading_of-r)) (omega (arith, long (goal.at.returns c).After-reading_of-r)) c.is_front.ensures _ c.if-not-is_front.false (tail-is (record_length 1) (x (goal.at.returns c).After-reading_of-r)) c.same_records.ensures
    ∙ ap (λ (y : List ℕ). is_same y (x (goal.at.returns c).After-reading_of-r)) (sym (known (goal.at.returns c).After-reading_of-r).sheet-is)
