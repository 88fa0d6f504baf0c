-- The sheet: the document's term for the records that a packet is set out as (document 01, 'The sheet').
-- Assumes nothing.
use Rattle.std.specs.Prelude.{ℕ, zero, suc, ◌+◌, ◌-◌, ◌/◌, min, cond, List, [], ◌∷◌, ◌++◌, eqb, length, get_or, take, drop}
use Rattle.octets.specs.Octets.{bytes, signed_bytes}
use Rattle.octets.specs.Layout.{pad, total}
use Rattle.mask.specs.Fields.{announced_length, dwell_widths}
use Rattle.hrr.specs.Hrr.{hrr_mask, hrr_widths, hrr_fields, scatterer_count, scatterer_widths, widened}
use Rattle.position.specs.Position.{latitude_micro, longitude_micro}
use Rattle.format.specs.declared.Reading.{Reading}
use Rattle.format.specs.declared.Area.{Area}
use Rattle.format.specs.Packet.{Segment, job_widths}
use Rattle.format.specs.Dwell.{mask_of, dwell_fields, target_count, targets_of, target_length, target_fields, area_of, latitude, longitude}
use Rattle.format.specs.Edition.{is_hrr, shown, mark}

-- "Records: one byte of kind, then a body whose length the kind fixes." Kind is the document's term for what a record holds.
pub record Record : Type 0 where
  pub kind : ℕ
  pub body : List ℕ

-- "1 header, 32", "2 mission, 39", "3 dwell, 87", "4 target, 44", "5 text, 24", "6 piece, 33", "7 opaque, 5", "8 job, 69",
-- "9 test, 14", "10 location, 23"; and by request A4 "kind 11 for the mask and the HRR fields", 5 and 61, and "kind 12 for each scatterer,
-- body 8"; 0 for a number that is no kind
abbrev pub body_lengths : List ℕ
body_lengths = 0 ∷ 32 ∷ 39 ∷ 87 ∷ 44 ∷ 24 ∷ 33 ∷ 5 ∷ 69 ∷ 14 ∷ 23 ∷ 66 ∷ 8 ∷ []

-- "a body whose length the kind fixes"
unfoldable pub body_length : ℕ → ℕ
body_length kind = get_or body_lengths kind 0

-- a record of the kind, with zeros where b does not fill the body
unfoldable pub record_of : ℕ → List ℕ → Record
record_of kind b = record { kind = kind; body = pad (body_length kind) b }

-- "1 header, 32: as read."
unfoldable pub header_record : List ℕ → Record
header_record l = record_of 1 l

-- "3 dwell, 87: the mask, D2 to D31 at full widths (absent ones zero), a byte 1 where D27 is shown, 0 where withheld and zeroed."
unfoldable pub dwell_record : Reading → List ℕ → Record
dwell_record r b = record_of 3 (take 8 b ++ shown r 2 dwell_widths 27 (dwell_fields b) ++ mark r ∷ [])

-- "4 target, 44: D32.1 to D32.18 (absent ones zero), latitude 4 signed, longitude 4."
unfoldable pub target_record : ℕ → Area → List ℕ → Record
target_record mask area t =
    let f = target_fields mask t in
    record_of 4 (f ++ signed_bytes 4 (latitude_micro (latitude mask area f)) ++ bytes 4 (longitude_micro (longitude mask area f)))

-- "Targets follow their dwell": the n targets from t on
unfoldable pub target_records : ℕ → Area → ℕ → List ℕ → List Record
target_records mask area zero t = []
target_records mask area (suc n) t = target_record mask area t ∷ target_records mask area n (drop (target_length mask) t)

-- "6 piece, 33: a count 1 to 32, the bytes, zero filling." "Pieces carry the text or opaque body, all full but the last." Piece is
-- the document's term for such a part of at most 32 bytes.
unfoldable pub piece_record : List ℕ → Record
piece_record b = record_of 6 (min 32 (length b) ∷ take 32 b)

-- n pieces in a row, "all full but the last"
unfoldable pub piece_records : ℕ → List ℕ → List Record
piece_records zero b = []
piece_records (suc n) b = piece_record b ∷ piece_records n (drop 32 b)

-- how many pieces carry so many bytes
unfoldable pub piece_count : ℕ → ℕ
piece_count n = (n + 31) / 32

-- those that "carry the text or opaque body"
abbrev pub pieces_of : List ℕ → List Record
pieces_of b = piece_records (piece_count (length b)) b

-- the records of each type of segment, of its body b. "2 mission, 39."
abbrev pub mission_records : List ℕ → List Record
mission_records b = record_of 2 b ∷ []

-- a dwell, and its D5 targets
unfoldable pub dwell_records : Reading → List ℕ → List Record
dwell_records r b = dwell_record r b ∷ target_records (mask_of b) (area_of (dwell_fields b)) (target_count b) (targets_of b)

-- "kind 11 for the mask and the HRR fields before the scatterers, in order, at full widths"
unfoldable pub hrr_record : List ℕ → Record
hrr_record b = record_of 11 (take 5 b ++ hrr_fields b)

-- "kind 12 for each scatterer, body 8: magnitude, phase, range index, Doppler index", which take these widths in the packet
unfoldable pub scatterer_record : List ℕ → List ℕ → Record
scatterer_record ws t = record_of 12 (widened ws t)

-- the n scatterers from t on
unfoldable pub scatterer_records : List ℕ → ℕ → List ℕ → List Record
scatterer_records ws zero t = []
scatterer_records ws (suc n) t = scatterer_record ws t ∷ scatterer_records ws n (drop (total ws) t)

-- an HRR segment, and its scatterers, which stand behind the mask and the announced fields
unfoldable pub hrr_records : List ℕ → List Record
hrr_records b =
    let mask = hrr_mask b in
    let f = hrr_fields b in
    hrr_record b ∷ scatterer_records (scatterer_widths mask f) (scatterer_count mask f) (drop (5 + announced_length mask 2 hrr_widths) b)

-- "5 text, 24: F1, F2, the length of F3 in 4."
unfoldable pub text_records : List ℕ → List Record
text_records b = record_of 5 (take 20 b ++ bytes 4 (length b - 20)) ∷ pieces_of (drop 20 b)

-- "7 opaque, 5: type, the body's length in 4."
unfoldable pub opaque_records : ℕ → List ℕ → List Record
opaque_records type b = record_of 7 (type ∷ bytes 4 (length b)) ∷ pieces_of b

-- "8 job, 69: J1 to J28, a byte 1 where J26 is shown, 0 where withheld and zeroed."
unfoldable pub job_records : Reading → List ℕ → List Record
job_records r b = record_of 8 (shown r 1 job_widths 26 b ++ mark r ∷ []) ∷ []

-- "9 test, 14."
abbrev pub test_records : List ℕ → List Record
test_records b = record_of 9 b ∷ []

-- "10 location, 23."
abbrev pub location_records : List ℕ → List Record
location_records b = record_of 10 b ∷ []

-- by the type of the segment; all types that are not read field by field are opaque
unfoldable pub segment_records : Reading → Segment → List Record
segment_records r s =
    let t = s.type in
    let b = s.body in
    cond (eqb t 1) (mission_records b)
    (cond (eqb t 2) (dwell_records r b)
    (cond (is_hrr r t) (hrr_records b)
    (cond (eqb t 5) (job_records r b)
    (cond (eqb t 6) (text_records b)
    (cond (eqb t 10) (test_records b)
    (cond (eqb t 13) (location_records b)
    (opaque_records t b)))))))

-- of segments, one after another
unfoldable pub packet_records : Reading → List Segment → List Record
packet_records r [] = []
packet_records r (s ∷ ss) = segment_records r s ++ packet_records r ss

-- the bytes of records, one after another
unfoldable pub record_bytes : List Record → List ℕ
record_bytes [] = []
record_bytes (r ∷ rs) = r.kind ∷ (r.body ++ record_bytes rs)
