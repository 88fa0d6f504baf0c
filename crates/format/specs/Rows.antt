-- The rows of the table of refusals for reading, each in its place (document 01, 'Where each number is given').
-- A segment's later rows are stated for all bytes, and are looked at only where no earlier row of it applies.
-- Assumes nothing.
use Rattle.std.specs.Prelude.{ℕ, zero, suc, ◌+◌, Bool, not, ◌&&◌, ◌||◌, cond, List, [], ◌∷◌, ◌++◌, ltb, eqb, negsuc, length, drop}
use Rattle.std.specs.Int.Signed.{lt_z}
use Rattle.text.specs.Text.{text_fault}
use Rattle.mask.specs.Fields.{dwell_size, d32}
use Rattle.octets.specs.Octets.{between}
use Rattle.mask.specs.Mask.{lowest_fault, new_in_mask, is_placed}
use Rattle.hrr.specs.Hrr.{hrr_mask, is_hrr_mask, hrr_fields, is_hrr_size}
use Rattle.position.specs.Position.{is_latitude}
use Rattle.format.specs.declared.Settings.{Settings}
use Rattle.format.specs.declared.Reading.{Reading}
use Rattle.format.specs.declared.Area.{Area}
use Rattle.format.specs.Check.{Check, Passed, Failed}
use Rattle.format.specs.Packet.{header_widths, header_texts, P, is_p1, type_at, size_at, body_at, s2, is_known, mission_widths, mission_texts, M, job_widths, job_texts, J, free_text_widths, free_text_texts}
use Rattle.format.specs.Dwell.{mask_of, dwell_fields, D, target_count, targets_of, target_length, target_fields, D32, D32±, area_of, latitude}
use Rattle.format.specs.Edition.{is_older, is_hrr, is_new_mode}

-- a row: its number, the field that it names, and whether it applies
pub record Row : Type 0 where
  pub number : ℕ
  pub field : ℕ
  pub applies : Bool

-- the row with these three
abbrev pub row : ℕ → ℕ → Bool → Row
row number field applies = record { number = number; field = field; applies = applies }

-- a row that applies where a field is at fault, and names it; 0 says that none is
abbrev pub naming : ℕ → ℕ → Row
naming number field = row number field (not (eqb field 0))

-- "The field is named in rows 5, 10, 11, 13, 14 and 15 .. and is 0 in all others."
abbrev pub is_naming : ℕ → Bool
is_naming number = eqb number 5 || eqb number 10 || eqb number 11 || between 13 15 number

-- "first fault wins"
unfoldable pub first_row : List Row → Check
first_row [] = Passed
first_row (r ∷ rs) = cond r.applies (Failed r.number r.field) (first_row rs)

-- the call, "reading not 1 or 3"; the header, "length", "P1", "P2 not the length", "text, first field": l is the packet, read as this
-- edition. "A packet has 32 to 65,536 bytes."
unfoldable pub header_rows : Settings → List ℕ → List Row
header_rows settings l =
    row 1 0 (not (eqb settings.edition 1 || eqb settings.edition 3))
    ∷ row 2 0 (ltb (length l) 32 || ltb 65536 (length l))
    ∷ row 3 0 (not (is_p1 l))
    ∷ row 4 0 (not (eqb (P 2 l) (length l)))
    ∷ naming 5 (text_fault header_widths header_texts l)
    ∷ []

-- a mission's body b: "S2 wrong for type 1", "text, first field", and "in field order: M6 not 1-12, M7 not 1-31"
unfoldable pub mission_rows : List ℕ → List Row
mission_rows b =
    row 9 0 (not (eqb (s2 b) (5 + 39)))
    ∷ naming 10 (text_fault mission_widths mission_texts b)
    ∷ row 13 6 (not (between 1 12 (M 6 b)))
    ∷ row 13 7 (not (between 1 31 (M 7 b)))
    ∷ []

-- "in each target D32.6 under −1000, D32.11 above 100, D32.15 above 5000"; "latitude out (35), after that target's 13".
-- An absent field is zero, and so never at fault.
unfoldable pub target_rows : ℕ → Area → List ℕ → List Row
target_rows mask area t =
    let f = target_fields mask t in
    row 13 (d32 6) (lt_z (D32± 6 f) (negsuc 999))
    ∷ row 13 (d32 11) (ltb 100 (D32 11 f))
    ∷ row 13 (d32 15) (ltb 5000 (D32 15 f))
    ∷ row 14 35 (not (is_latitude (latitude mask area f)))
    ∷ []

-- "in each target": those of the n targets from t on
unfoldable pub targets_rows : ℕ → Area → ℕ → List ℕ → List Row
targets_rows mask area zero t = []
targets_rows mask area (suc n) t = target_rows mask area t ++ targets_rows mask area n (drop (target_length mask) t)

-- a dwell's body b: "under 13 for 2"; "lowest mask field at fault"; "reading 1, version 3: D28-30, else D32.18"; "S2 under 48 or not
-- what mask and D5 give"; "D4 above 1; D5 above 0 with neither position pair"
unfoldable pub dwell_rows : Reading → List ℕ → List Row
dwell_rows r b =
    row 9 0 (ltb (s2 b) 13)
    ∷ naming 11 (lowest_fault r.version (mask_of b))
    ∷ naming 15 (cond (is_older r) (new_in_mask (mask_of b)) 0)
    ∷ row 12 0 (ltb (s2 b) 48 || not (eqb (s2 b) (dwell_size (mask_of b) (target_count b))))
    ∷ row 13 4 (ltb 1 (D 4 (dwell_fields b)))
    ∷ row 13 5 (ltb 0 (target_count b) && not (is_placed (mask_of b)))
    ∷ targets_rows (mask_of b) (area_of (dwell_fields b)) (target_count b) (targets_of b)

-- an HRR segment's body b (request A4): "Number 9 also covers a version 3 type 3 body that can't hold its mask"; "21 when the HRR mask lacks
-- the magnitude or a field that document 003's table marks mandatory, or sets a bit that announces no field"; "22 when .." the widths or
-- the size are wrong. "Both name the segment, with field 0."
unfoldable pub hrr_rows : List ℕ → List Row
hrr_rows b =
    row 9 0 (ltb (s2 b) 10)
    ∷ row 21 0 (not (is_hrr_mask (hrr_mask b)))
    ∷ row 22 0 (not (is_hrr_size (hrr_mask b) (hrr_fields b) (s2 b)))
    ∷ []

-- a job definition's body b: "S2 wrong for type .. 5", "text, first field", "reading 1, version 3: J14"
unfoldable pub job_rows : Reading → List ℕ → List Row
job_rows r b =
    row 9 0 (not (eqb (s2 b) (5 + 68)))
    ∷ naming 10 (text_fault job_widths job_texts b)
    ∷ row 15 14 (is_older r && is_new_mode (J 14 b))
    ∷ []

-- free text's body b: "under 25 for 6", "text, first field"
unfoldable pub text_rows : List ℕ → List Row
text_rows b =
    row 9 0 (ltb (s2 b) 25)
    ∷ naming 10 (text_fault (free_text_widths b) free_text_texts b)
    ∷ []

-- test and status, platform location, "kept as bytes": "S2 wrong for type .. 10, 13", which have n bytes
unfoldable pub kept_rows : ℕ → List ℕ → List Row
kept_rows n b = row 9 0 (not (eqb (s2 b) (5 + n))) ∷ []

-- by the type of the segment; an opaque one has "any body"
unfoldable pub body_rows : Reading → ℕ → List ℕ → List Row
body_rows r t b =
    cond (eqb t 1) (mission_rows b)
    (cond (eqb t 2) (dwell_rows r b)
    (cond (is_hrr r t) (hrr_rows b)
    (cond (eqb t 5) (job_rows r b)
    (cond (eqb t 6) (text_rows b)
    (cond (eqb t 10) (kept_rows 14 b)
    (cond (eqb t 13) (kept_rows 23 b)
    []))))))

-- the segment at the front of l, which is what is left of the packet: "1 to 4 bytes left"; "unknown type"; "S2 under 5 or past the end";
-- "reading 1, version 3: type 3"
unfoldable pub segment_rows : Reading → List ℕ → List Row
segment_rows r l =
    row 6 0 (ltb (length l) 5)
    ∷ row 7 0 (not (is_known (type_at l)))
    ∷ row 8 0 (ltb (size_at l) 5 || ltb (length l) (size_at l))
    ∷ row 15 0 (is_older r && eqb (type_at l) 3)
    ∷ body_rows r (type_at l) (body_at l)
