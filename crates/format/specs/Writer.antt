-- The writer: from a sheet of any bytes back to the packet (document 01, 'Writing back' and rows 17 to 20).
-- Assumes nothing.
use Rattle.std.specs.Prelude.{ℕ, zero, suc, ◌-◌, min, Bool, true, false, not, ◌&&◌, ◌||◌, cond, List, [], ◌∷◌, ◌++◌, ltb, leb, eqb, length, get_or, take, drop}
use Rattle.octets.specs.Octets.{be}
use Rattle.mask.specs.Fields.{announced_fields, dwell_widths, target_widths, d32}
use Rattle.hrr.specs.Hrr.{hrr_mask, hrr_widths, scatterer_count, scatterer_widths, narrowed}
use Rattle.format.specs.Edition.{as_edition}
use Rattle.format.specs.Check.{Check, Passed, Failed}
use Rattle.format.specs.Answer.{Answer, Accepted, Refused, Outcome, outcome, left_by}
use Rattle.format.specs.Packet.{Segment, segment_bytes}
use Rattle.format.specs.Dwell.{D}
use Rattle.format.specs.Sheet.{Record, body_length}
use Rattle.format.specs.Rows.{Row, row, first_row}
use Rattle.format.specs.Reader.{dwells_in, targets_in, parsed, sheet, reading_answer}

-- ---- row 17: "empty, unknown kind, cut record, kind 1 not exactly first"

-- the records of a sheet, up to its end or to one that is cut or of no kind
pub record Listed : Type 0 where
  pub records : List Record
  pub whole : Bool

-- k is at least the length of x; a kind that is none has no length, and a "cut record" fewer bytes than its kind has
unfoldable pub list : ℕ → List ℕ → Listed
list zero x = record { records = []; whole = true }
list (suc k) [] = record { records = []; whole = true }
list (suc k) (kind ∷ x) =
    let n = body_length kind in
    let rest = list k (drop n x) in
    cond (ltb 0 n && leb n (length x))
    (record { records = record { kind = kind; body = take n x } ∷ rest.records; whole = rest.whole })
    (record { records = []; whole = false })

-- those of a whole sheet
abbrev pub listed : List ℕ → Listed
listed x = list (length x) x

-- no record is of kind 1
unfoldable pub no_header : List Record → Bool
no_header [] = true
no_header (r ∷ rs) = not (eqb r.kind 1) && no_header rs

-- "kind 1 not exactly first" is row 17's
unfoldable pub is_headed : List Record → Bool
is_headed [] = false
is_headed (r ∷ rs) = eqb r.kind 1 && no_header rs

-- ---- row 18: "a kind 3, 5 or 7 not followed directly by exactly the kind 4 or 6 records, with the counts, that it calls for; a
-- kind 4 or 6 anywhere else"; "Number 18 holds kind 12 to its kind 11 likewise" (request A4)

-- what is due next: records of which kind, and how much is left of them, counted in targets, in scatterers or in the bytes that pieces carry
pub record Due : Type 0 where
  pub kind : ℕ
  pub left : ℕ

-- of this kind, so much; where nothing is due, 0 of none
abbrev pub due : ℕ → ℕ → Due
due kind left = record { kind = kind; left = left }

-- what a record "calls for": a kind 3 its D5 targets; a kind 5 pieces for F3, and a kind 7 for its body, of the length that stands in
-- the record; a kind 11 its scatterers, by the mask and the fields that stand in the record; any other nothing
unfoldable pub called_for : Record → Due
called_for r =
    cond (eqb r.kind 3) (due 4 (D 5 (drop 8 r.body)))
    (cond (eqb r.kind 5) (due 6 (be 4 (drop 20 r.body)))
    (cond (eqb r.kind 7) (due 6 (be 4 (drop 1 r.body)))
    (cond (eqb r.kind 11) (due 12 (scatterer_count (hrr_mask r.body) (drop 5 r.body)))
    (due 0 0))))

-- "a kind 4 or 6", or a kind 12: a target, a piece or a scatterer, which stands only behind a record that calls for it
abbrev pub is_follower : Record → Bool
is_follower r = eqb r.kind 4 || eqb r.kind 6 || eqb r.kind 12

-- how much of what is left is due in the next record: 32 bytes in a piece, or what is left in the last one; else one target or scatterer
abbrev pub share : Due → ℕ
share d = cond (eqb d.kind 6) (min 32 d.left) 1

-- how much a record has: a piece as many bytes as it counts; else it is one target or scatterer
abbrev pub carried : Record → ℕ
carried r = cond (eqb r.kind 6) (get_or r.body 0 0) 1

-- first what is left of what was called for, "followed directly by exactly the kind 4 or 6 records, with the counts"; then no "kind 4 or 6
-- anywhere else", but a record and what it calls for
unfoldable pub is_complete : Due → List Record → Bool
is_complete d [] = eqb d.left 0
is_complete d (r ∷ rs) =
    cond (ltb 0 d.left)
    (eqb r.kind d.kind && eqb (carried r) (share d) && is_complete (due d.kind (d.left - share d)) rs)
    (not (is_follower r) && is_complete (called_for r) rs)

-- ---- the spelt packet: "the header, then each segment with S2 worked out and only announced fields"

-- the type of the segment that a record begins; a kind 7 has it in its body
unfoldable pub type_of : Record → ℕ
type_of r =
    cond (eqb r.kind 2) 1
    (cond (eqb r.kind 3) 2
    (cond (eqb r.kind 5) 6
    (cond (eqb r.kind 8) 5
    (cond (eqb r.kind 9) 10
    (cond (eqb r.kind 10) 13
    (cond (eqb r.kind 11) 3
    (get_or r.body 0 0)))))))

-- what a record gives to the body of the segment that it begins: a dwell or an HRR segment its mask and announced fields, a text F1
-- and F2, an opaque one nothing, a job definition all but the mark, any other all
unfoldable pub given : Record → List ℕ
given r =
    let b = r.body in
    cond (eqb r.kind 3) (take 8 b ++ announced_fields (be 8 b) 2 dwell_widths (drop 8 b))
    (cond (eqb r.kind 5) (take 20 b)
    (cond (eqb r.kind 7) []
    (cond (eqb r.kind 8) (take 68 b)
    (cond (eqb r.kind 11) (take 5 b ++ announced_fields (hrr_mask b) 2 hrr_widths (drop 5 b))
    b))))

-- what a follower gives to the body of the segment that its leader began: a target the fields that the leader's mask announces, a
-- scatterer its numbers in the widths that the leader gives for them, a piece the bytes that it counts
unfoldable pub given_behind : Record → Record → List ℕ
given_behind leader r =
    let b = r.body in
    cond (eqb r.kind 4) (announced_fields (be 8 leader.body) (d32 1) target_widths b)
    (cond (eqb r.kind 12) (narrowed (scatterer_widths (hrr_mask leader.body) (drop 5 leader.body)) b)
    (take (get_or b 0 0) (drop 1 b)))

-- the segments that records give, and before them what followers at the front give to a segment begun earlier
pub record Regrouped : Type 0 where
  pub front : List ℕ
  pub segments : List Segment

-- a follower's bytes go to the segment that the leader began; every other record begins a segment, and is the leader from there on
unfoldable pub regroup : Record → List Record → Regrouped
regroup leader [] = record { front = []; segments = [] }
regroup leader (r ∷ rs) =
    cond (is_follower r)
    (let rest = regroup leader rs in
    record { front = given_behind leader r ++ rest.front; segments = rest.segments })
    (let rest = regroup r rs in
    record { front = []; segments = record { type = type_of r; body = given r ++ rest.front } ∷ rest.segments })

-- the segments' bytes, one after another
unfoldable pub segments_bytes : List Segment → List ℕ
segments_bytes [] = []
segments_bytes (s ∷ ss) = segment_bytes s ++ segments_bytes ss

-- the header is as its record has it, P2 too
unfoldable pub spell_records : List Record → List ℕ
spell_records [] = []
spell_records (header ∷ rs) = header.body ++ segments_bytes (regroup header rs).segments

-- the packet that a sheet spells
unfoldable pub spell : List ℕ → List ℕ
spell x = spell_records (listed x).records

-- ---- row 19: "spelt bytes above 65,536 (even where an S2 won't fit), refused, or read to another sheet". Lists have no bound, so
-- no length is lost where an S2 would not fit.
-- whether an answer is no refusal
abbrev pub is_accepted : Answer → Bool
is_accepted (Accepted segments dwells targets n) = true
is_accepted (Refused number segment field) = false

-- whether two runs of bytes are equal ("is this sheet")
unfoldable pub is_same : List ℕ → List ℕ → Bool
is_same [] [] = true
is_same [] (y ∷ ys) = false
is_same (x ∷ xs) [] = false
is_same (x ∷ xs) (y ∷ ys) = eqb x y && is_same xs ys

-- "the Edition 3 reading of the spelt bytes, given a sheet as long, is this sheet"
unfoldable pub reads_back : List ℕ → List ℕ → Bool
reads_back packet x = is_accepted (reading_answer (as_edition 3) packet (length x)) && is_same (sheet (as_edition 3) packet) x

-- ---- the rows "are tried in that order over the whole sheet". Those of the sheet alone, and the one of the lent packet buffer
unfoldable pub sheet_rows : List ℕ → List Row
sheet_rows x =
    row 17 0 (not ((listed x).whole && is_headed (listed x).records))
    ∷ row 18 0 (not (is_complete (due 0 0) (listed x).records))
    ∷ row 19 0 (ltb 65536 (length (spell x)) || not (reads_back (spell x) x))
    ∷ []

-- with "packet buffer too short", where so many bytes are lent
unfoldable pub writer_rows : List ℕ → ℕ → List Row
writer_rows x lent = sheet_rows x ++ row 20 0 (ltb lent (length (spell x))) ∷ []

-- the answer by the first row that applies: "Writer refusals have segment and field 0"; accepted, the counts are those of the packet,
-- "(the writer: packet length)"
abbrev pub writer_answer : List ℕ → Check → Answer
writer_answer x Passed =
    let segments = (parsed (as_edition 3) (spell x)).segments in
    Accepted (length segments) (dwells_in segments) (targets_in segments) (length (spell x))
writer_answer x (Failed number field) = Refused number 0 0

-- the answer to a sheet by itself, with no packet buffer: rows 17 to 19
unfoldable pub sheet_answer : List ℕ → Answer
sheet_answer x = writer_answer x (first_row (sheet_rows x))

-- and nothing is left
unfoldable pub check : List ℕ → Outcome
check x = outcome (sheet_answer x) []

-- with so many bytes of packet buffer lent: rows 17 to 20
unfoldable pub writing_answer : List ℕ → ℕ → Answer
writing_answer x lent = writer_answer x (first_row (writer_rows x lent))

-- the answer, and what the lent packet buffer then holds
unfoldable pub write : List ℕ → List ℕ → Outcome
write x lent =
    let a = writing_answer x (length lent) in
    outcome a (left_by a (spell x) lent)
