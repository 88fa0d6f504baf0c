-- What the walk that checks a packet's segments finds: of one segment, and of all. Contracts of this crate cite these; a reading's
-- contract cites `read` of format alone.
-- Assumes nothing.
use Rattle.std.specs.Prelude.{ℕ, ◌+◌, ◌/◌, ◌≤◌, ◌≡◌, cond, List, [], ◌∷◌, leb, eqb, length, drop, Result, Ok, Err}
use Rattle.octets.specs.Octets.{be}
use Rattle.format.specs.declared.Settings.{Settings}
use Rattle.format.specs.declared.Reading.{Reading}
use Rattle.format.specs.Check.{Check, Passed, Failed}
use Rattle.format.specs.Answer.{Answer, Accepted, Refused}
use Rattle.format.specs.Packet.{Segment, type_at, size_at, body_at}
use Rattle.format.specs.Dwell.{target_count}
use Rattle.format.specs.Sheet.{segment_records, packet_records, record_bytes}
use Rattle.format.specs.Lengths.{record_length}
use Rattle.format.specs.Rows.{first_row, header_rows, body_rows, segment_rows}
use Rattle.format.specs.Reader.{Parsed, parse, parsed, dwells_in, targets_in}
use Rattle.segments.specs.declared.Dwells.{Dwells}
use Rattle.segments.specs.declared.Found.{Found}
use Rattle.format.specs.declared.Fault.{Fault}

-- ---- one segment

-- what is known of a segment's body behind the rows: none of its type's applies, and it is no longer than a packet may be
pub record Checked (r : Reading) (type : ℕ) (b : List ℕ) : Type 0 where
  pub rows : first_row (body_rows r type b) ≡ Passed
  pub short : length b ≤ 65536

-- the bytes of the records of a segment with this type and body
abbrev pub bytes_of : Reading → ℕ → List ℕ → List ℕ
bytes_of r type b = record_bytes (segment_records r (record { type = type; body = b }))

-- its targets
abbrev pub targets_of_type : ℕ → List ℕ → ℕ
targets_of_type type b = cond (eqb type 2) (target_count b) 0

-- what is found at the front of l, by the first row that applies: the segment's size, and what it adds to the targets and to the sheet
abbrev pub good : ℕ → ℕ → ℕ → Result Found Fault
good size targets n = Ok (record { size = size; targets = targets; length = n })

abbrev pub bad : ℕ → ℕ → Result Found Fault
bad number field = Err (record { number = number; field = field })

abbrev pub found_by : Reading → List ℕ → Check → Result Found Fault
found_by r l Passed = good (size_at l) (targets_of_type (type_at l) (body_at l)) (length (bytes_of r (type_at l) (body_at l)))
found_by r l (Failed number field) = bad number field

-- the segment at the front of l
unfoldable pub found_at : Reading → List ℕ → Result Found Fault
found_at r l = found_by r l (first_row (segment_rows r l))

-- ---- the dwells: what the walk keeps of the pairs of D2 and D3, by a fold of its own over all segments

-- D2 and D3 as one number: they stand behind the mask, with two bytes each
abbrev pub pair_number : List ℕ → ℕ
pair_number b = be 4 (drop 8 b)

-- those of the dwells, in their order
unfoldable pub pair_numbers : List Segment → List ℕ
pair_numbers [] = []
pair_numbers (s ∷ ss) = cond (eqb s.type 2) (pair_number s.body ∷ pair_numbers ss) (pair_numbers ss)

-- before the first segment
abbrev pub no_dwells : Dwells
no_dwells = record { rises = 0; falls = 0; above = 0 }

-- past a dwell with this number: it rose where it is above the last one, and it fell where it is below
unfoldable pub past_pair : Dwells → ℕ → Dwells
past_pair d p = record { rises = d.rises + cond (leb d.above p) 1 0; falls = d.falls + cond (leb d.above (p + 1)) 0 1; above = p + 1 }

-- past a segment with this type and body
unfoldable pub past : Dwells → ℕ → List ℕ → Dwells
past d type b = cond (eqb type 2) (past_pair d (pair_number b)) d

-- past all of these
unfoldable pub past_all : Dwells → List Segment → Dwells
past_all d [] = d
past_all d (s ∷ ss) = past_all (past d s.type s.body) ss

-- so many rises at most, and so many falls
abbrev pub AtMost : ℕ → Dwells → Type 0
AtMost n d = (d.rises ≤ n) × (d.falls ≤ n)

-- ---- all segments

-- as many bytes as a packet may have, 65,536, without its header's 32
abbrev pub longest_rest : ℕ
longest_rest = 65504

-- as many dwells as l has room for, at 48 bytes each: 5 of the segment's header, 8 of the mask, 35 of the required fields
abbrev pub most_dwells : List ℕ → ℕ
most_dwells l = length l / 48

-- l is a packet behind its header: it is no longer than that may be, and no row applies to a segment of it
pub record CheckedAll (r : Reading) (l : List ℕ) : Type 0 where
  pub short : length l ≤ longest_rest
  pub ending : (parse r (length l) l).ending ≡ Passed

-- l is a whole packet, and no row applies to it
pub record CheckedPacket (settings : Settings) (l : List ℕ) : Type 0 where
  pub header : first_row (header_rows settings l) ≡ Passed
  pub ending : (parsed settings l).ending ≡ Passed

-- the segments of l
abbrev pub segments_of : Reading → List ℕ → List Segment
segments_of r l = (parse r (length l) l).segments

-- the bytes of the records of all segments of l
abbrev pub all_bytes : Reading → List ℕ → List ℕ
all_bytes r l = record_bytes (packet_records r (segments_of r l))

-- the answer but for row 16, after so many segments, targets and bytes of the sheet, where the packet has so many dwells in all
unfoldable pub answer_from : Reading → Parsed → ℕ → ℕ → ℕ → ℕ → Answer
answer_from r p segments dwells targets n =
    elim p.ending [
      | Passed ↦ Accepted (segments + length p.segments) dwells (targets + targets_in p.segments) (n + length (record_bytes (packet_records r p.segments)))
      | Failed number field ↦ Refused number (segments + length p.segments + 1) field
    ]

-- that of l, a packet behind its header
abbrev pub rest_answer : Reading → List ℕ → Answer
rest_answer r l = answer_from r (parse r (length l) l) 0 (dwells_in (segments_of r l)) 0 (record_length 1)
