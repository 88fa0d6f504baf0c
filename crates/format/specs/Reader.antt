-- The two readings: a packet of any bytes, read as any edition onto a lent sheet (document 01; demand 1).
-- Assumes nothing.
use Rattle.std.specs.Prelude.{ℕ, zero, suc, ◌+◌, cond, List, [], ◌∷◌, leb, eqb, length, drop}
use Rattle.distinct.specs.Distinct.{without_repeats}
use Rattle.format.specs.declared.Settings.{Settings}
use Rattle.format.specs.declared.Reading.{Reading}
use Rattle.format.specs.Check.{Check, Passed, Failed}
use Rattle.format.specs.Answer.{Answer, Accepted, Refused, Outcome, outcome, left_by}
use Rattle.format.specs.Packet.{version, Segment, size_at, segment_at}
use Rattle.format.specs.Dwell.{dwell_fields, target_count, Pair, pair_of, is_same_pair}
use Rattle.format.specs.Sheet.{header_record, packet_records, record_bytes}
use Rattle.format.specs.Rows.{first_row, header_rows, segment_rows}

-- "Segments fill the rest; there may be none": the segments up to the packet's end (Passed) or to the first to which a row applies
pub record Parsed : Type 0 where
  pub segments : List Segment
  pub ending : Check

-- "first fault wins": a segment to which a row applies ends the walk, and any other is followed by the rest
abbrev pub onward : Check → Segment → Parsed → Parsed
onward Passed s rest = record { segments = s ∷ rest.segments; ending = rest.ending }
onward (Failed number field) s rest = record { segments = []; ending = Failed number field }

-- "those of a segment for each segment in turn"; l is what is left of the packet, and k is at least its length
unfoldable pub parse : Reading → ℕ → List ℕ → Parsed
parse r zero l = record { segments = []; ending = Passed }
parse r (suc k) [] = record { segments = []; ending = Passed }
parse r (suc k) (x ∷ xs) =
    let l : List ℕ = x ∷ xs in
    onward (first_row (segment_rows r l)) (segment_at l) (parse r k (drop (size_at l) l))

-- the pairs of D2 and D3 of the type 2 segments, in their order
unfoldable pub pairs_in : List Segment → List Pair
pairs_in [] = []
pairs_in (s ∷ ss) = cond (eqb s.type 2) (pair_of (dwell_fields s.body) ∷ pairs_in ss) (pairs_in ss)

-- "The dwell count becomes the number of different pairs of D2 and D3 in the packet" (request A1)
unfoldable pub dwells_in : List Segment → ℕ
dwells_in ss = length (without_repeats is_same_pair (pairs_in ss))

-- "targets": the sum of D5 over the type 2 segments
unfoldable pub targets_in : List Segment → ℕ
targets_in [] = 0
targets_in (s ∷ ss) = cond (eqb s.type 2) (target_count s.body) 0 + targets_in ss

-- the packet l, read with these settings
abbrev pub reading_of : Settings → List ℕ → Reading
reading_of settings l = record { settings = settings; version = version l }

-- its segments, behind the header's 32 bytes
unfoldable pub parsed : Settings → List ℕ → Parsed
parsed settings l = parse (reading_of settings l) (length (drop 32 l)) (drop 32 l)

-- the packet l set out, where these are its segments: the header's record, and those of the segments
abbrev pub set_out_of : Settings → List ℕ → List Segment → List ℕ
set_out_of settings l ss = record_bytes (header_record l ∷ packet_records (reading_of settings l) ss)

-- its sheet
unfoldable pub sheet : Settings → List ℕ → List ℕ
sheet settings l = set_out_of settings l (parsed settings l).segments

-- the answer after the header, where the sheet has so many bytes and so many are lent. "16 sheet too short" comes at the end
abbrev pub segments_answer : Parsed → ℕ → ℕ → Answer
segments_answer p sheetLength lent =
    elim p.ending [
      | Passed ↦ cond (leb sheetLength lent) (Accepted (length p.segments) (dwells_in p.segments) (targets_in p.segments) sheetLength) (Refused 16 0 0)
      | Failed number field ↦ Refused number (length p.segments + 1) field
    ]

-- "An answer has number, segment (from 1; 0 for call, header and end), field."
unfoldable pub reading_answer : Settings → List ℕ → ℕ → Answer
reading_answer settings l lent =
    elim (first_row (header_rows settings l)) [
      | Passed ↦ segments_answer (parsed settings l) (length (sheet settings l)) lent
      | Failed number field ↦ Refused number 0 field
    ]

-- the packet by itself, with no sheet lent: rows 1 to 15, 21 and 22, and nothing is left
unfoldable pub check : Settings → List ℕ → Outcome
check settings l = outcome (reading_answer settings l (length (sheet settings l))) []

-- the answer, and what the lent sheet then holds
unfoldable pub read : Settings → List ℕ → List ℕ → Outcome
read settings l lent =
    let a = reading_answer settings l (length lent) in
    outcome a (left_by a (sheet settings l) lent)
