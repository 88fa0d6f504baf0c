-- `reader::set_out` meets its contract. The header's record stands first, and the others in the part of the sheet behind it.
-- Assumes nothing.
use Prim.Native.Nat.{ℕ, ◌+◌, ◌≤◌}
use native.Mathlib.Omega.{arith}
use mathlib.Core.Path.{sym, ap, ◌∙◌}
use mathlib.Core.List.{List}
use lib.ListN.{length, length-drop}
use lib.Seq.{sets}
use Rattle.octets.proofs.Parts.{tail-is}
use Rattle.format.specs.Sheet.{body_length}
use Rattle.format.specs.Lengths.{record_length}
use Rattle.segments.specs.InnerWalk.{all_bytes}
use Rattle.segments.proofs.Packets.{behind, Whole, whole}
use Rattle.reader.proofs.Outcomes.{laid-behind}
use Rattle.reader.proofs.set_out.Goals as goal
use Rattle.reader.proofs.set_out.Goals.{After-header_record, After-reading_of-r}

-- what is known of the packet, where its reading is
module _ (c : After-reading_of-r) where
  abbrev packet : List ℕ
  packet = c.args.packet.now

  known : Whole c.args.settings packet c.reading_of-r.result
  known = whole c.args.settings packet c.reading_of-r.result c.requires.0 c.reading_of-r.ensures

pub header_record-requires : goal.header_record-requires
unfolding body_length
header_record-requires c = ((known (goal.at.header_record-requires c).After-reading_of-r).headed, omega (arith, (known (goal.at.header_record-requires c).After-reading_of-r).sheet-length, c.requires.1))

pub slice_bounds-packet_records-count : goal.slice_bounds-packet_records-count
slice_bounds-packet_records-count c = omega (arith, (known (goal.at.slice_bounds-packet_records-count c).After-reading_of-r).headed)

pub slice_bounds-packet_records-start : goal.slice_bounds-packet_records-start
slice_bounds-packet_records-start c = omega (arith, (known (goal.at.slice_bounds-packet_records-start c).After-reading_of-r).headed)

-- the sheet has room behind the header's record
room : (c : After-header_record) → record_length 1 + length (all_bytes c.reading_of-r.result (behind (packet (goal.at.After-header_record c).After-reading_of-r))) ≤ length c.header_record.new.o
room c = omega (arith, c.header_record.auto, (known (goal.at.After-header_record c).After-reading_of-r).sheet-length, c.requires.1)

pub slice_bounds-packet_records-count-2 : goal.slice_bounds-packet_records-count-2
slice_bounds-packet_records-count-2 c = omega (arith, room (goal.at.slice_bounds-packet_records-count-2 c).After-header_record)

pub slice_bounds-packet_records-start-2 : goal.slice_bounds-packet_records-start-2
slice_bounds-packet_records-start-2 c = omega (arith, room (goal.at.slice_bounds-packet_records-start-2 c).After-header_record)

pub packet_records-requires : goal.packet_records-requires
packet_records-requires c =
    let o = c.header_record.new.o in
    ((known (goal.at.packet_records-requires c).After-reading_of-r).checked, rw (tail-is (record_length 1) o, length-drop (record_length 1) o) (omega (arith, room (goal.at.packet_records-requires c).After-header_record)))

pub returns : goal.returns
returns c =
    let lent = c.args.sheet.now in
    laid-behind (packet (goal.at.returns c).After-reading_of-r) lent c.header_record.new.o _ _ c.header_record.ensures c.packet_records.ensures ∙ sym (ap (sets lent 0) (known (goal.at.returns c).After-reading_of-r).sheet-is)
