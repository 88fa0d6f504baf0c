-- Every number of an answer fits 32 bits, whatever the edition, the bytes and the lent memory, so a caller in C has room for each. The
-- rows and the fields that a refusal names are those of document 01 and of request A4. A packet that gets past its header has at most
-- 65,536 bytes, so it has no more segments than that, and its sheet is no longer than the longest; the sheet has a record for each segment
-- and target that an acceptance counts, and there are no more dwells than segments.
-- Assumes nothing.
use Prim.Native.Nat.{ℕ, zero, suc, ◌+◌, ◌^◌, ◌≤◌, ◌<◌}
use native.Mathlib.Omega.{arith}
use mathlib.Core.Path.{◌≡◌, refl}
use mathlib.Core.Bool.{Bool, true, false, not, cond, ◌&&◌}
use mathlib.Core.List.{List, [], ◌∷◌, ◌++◌}
use borrow.Author.Tests.{ltb-false, leb-true}
use lib.Dec.{T, ltb, leb, eqb, lit<, lit≤}
use lib.ListN.{length, get_or, take, drop, length-drop}
use Rattle.octets.specs.Layout.{field as field_of}
use Rattle.distinct.proofs.Laws.{no_longer}
use Rattle.text.specs.Text.{TextField, all, text_fault}
use Rattle.mask.specs.Fields.{announced}
use Rattle.mask.specs.Mask.{first_from, is_fault, lowest_fault, is_gap, d28to30, new_in_mask}
use Rattle.format.specs.declared.Settings.{Settings}
use Rattle.format.specs.declared.Reading.{Reading}
use Rattle.format.specs.declared.Area.{Area}
use Rattle.format.specs.Check.{Check, Passed, Failed}
use Rattle.format.specs.Answer.{Answer, Accepted, Refused, numbers_of}
use Rattle.format.specs.Packet.{header_widths, header_texts, Segment, type_at, size_at, body_at, mission_widths, mission_texts, job_widths, job_texts, free_text_widths, free_text_texts}
use Rattle.format.specs.Dwell.{mask_of, dwell_fields, target_count, targets_of, target_length, pair_of, is_same_pair, area_of}
use Rattle.format.specs.Edition.{as_edition, is_older, is_hrr}
use Rattle.format.specs.Sheet.{Record, body_length}
use Rattle.format.specs.Rows.{Row, first_row, header_rows, mission_rows, target_rows, targets_rows, dwell_rows, hrr_rows, job_rows, text_rows, kept_rows, body_rows, segment_rows}
use Rattle.format.specs.Reader.{Parsed, onward, parse, pairs_in, dwells_in, targets_in, reading_of, parsed, sheet, segments_answer, reading_answer, read}
use Rattle.format.specs.Bound.{longest_sheet}
use Rattle.format.specs.Writer.{Listed, list, listed, spell, sheet_rows, writer_rows, writer_answer, writing_answer, write}
use Rattle.format.proofs.Rows.{first_passes, either, neither, both}
use Rattle.format.proofs.Acceptance.{header-sized}
use Rattle.format.proofs.Longest.{sheet-longest}
use Rattle.demands.specs.Counts.{count, is_kind, is_leader}
use Rattle.demands.proofs.Counts.{counts-are}

-- ---- the fields that are named

-- 65 is the highest number that a field has
abbrev IsField : ℕ → Type 0
IsField n = n ≤ 65

-- so each of a list, as a test that computes
abbrev are_fields : List TextField → Bool
are_fields [] = true
are_fields (t ∷ ts) = leb t.number 65 && are_fields ts

-- the first field that is not text is one of those looked at
text-field : (ws : List ℕ) (ts : List TextField) (b : List ℕ) → are_fields ts ≡ true → IsField (text_fault ws ts b)
unfolding text_fault
text-field ws [] b h = lit≤ tt
text-field ws (t ∷ ts) b h =
    let parts = both (leb t.number 65) (are_fields ts) h in
    either IsField (all t.holds (field_of 1 ws t.number b)) (text-field ws ts b parts.1) (leb-true t.number 65 parts.0)

-- the first at which f holds, of k numbers from n on, is one of them
first_field : (f : ℕ → Bool) (k n : ℕ) → n + k ≤ 66 → IsField (first_from f k n)
unfolding first_from
first_field f zero n h = omega arith
first_field f (suc k) n h =
    let here : n ≤ 65 = omega arith in
    let behind : suc n + k ≤ 66 = omega arith in
    either IsField (f n) here (first_field f k (suc n) behind)

-- what is new in a mask is one of D28-30, or D32.18
new-field : (mask : ℕ) → IsField (new_in_mask mask)
unfolding new_in_mask
new-field mask =
    let gap = first_field (is_gap mask d28to30) 3 28 (lit≤ tt) in
    let last : IsField (cond (announced mask 49) 49 0) = either IsField (announced mask 49) (lit≤ tt) (lit≤ tt) in
    either IsField (eqb (first_from (is_gap mask d28to30) 3 28) 0) last gap

-- ---- the rows

-- the last number of the table, with the rows of request A4
abbrev pub last_number : ℕ
last_number = 22

-- a number of the table but for 16: that one is given at the end, and by no row of a list
abbrev is_row_number : ℕ → Bool
is_row_number n = leb n last_number && not (eqb n 16)

-- where a row applies, it has such a number, and names a field
unfoldable pub Proper : Check → Type 0
Proper Passed = Unit {0}
Proper (Failed number field) = (is_row_number number ≡ true) × IsField field

-- each row of a list has such a number and field
data AllProper : List Row → Type 0 where
  none : AllProper []
  more : {r : Row} {rs : List Row} → T (is_row_number r.number) → IsField r.field → AllProper rs → AllProper (r ∷ rs)

-- a row whose field is fixed, before others
fixed : {r : Row} {rs : List Row} → T (is_row_number r.number) → T (leb r.field 65) → AllProper rs → AllProper (r ∷ rs)
fixed n f h = more n (lit≤ f) h

-- a test that computes to true holds
holds : (t : Bool) → T t → t ≡ true
holds true h = refl
holds false h = absurd h

-- the first row that applies is one of the list
first-proper : {rs : List Row} → AllProper rs → Proper (first_row rs)
unfolding first_row Proper
first-proper none = tt
first-proper (more {r} {rs} n f h) = either Proper r.applies (holds (is_row_number r.number) n, f) (first-proper h)

-- two lists in a row
append-proper : {rs qs : List Row} → AllProper rs → AllProper qs → AllProper (rs ++ qs)
append-proper none k = k
append-proper (more n f h) k = more n f (append-proper h k)

-- its number is one of the table
proper-number : (number field : ℕ) → Proper (Failed number field) → (number ≤ last_number) × IsField field
unfolding Proper
proper-number number field s = (leb-true number last_number (both (leb number last_number) _ s.0).0, s.1)

-- the call and the header
header-proper : (settings : Settings) (l : List ℕ) → AllProper (header_rows settings l)
unfolding header_rows
header-proper settings l =
    fixed tt tt (fixed tt tt (fixed tt tt (fixed tt tt (more tt (text-field header_widths header_texts l refl) none))))

-- the first row of these that applies
pub header-first-proper : (settings : Settings) (l : List ℕ) → Proper (first_row (header_rows settings l))
header-first-proper settings l = first-proper (header-proper settings l)

-- a mission
mission-proper : (b : List ℕ) → AllProper (mission_rows b)
unfolding mission_rows
mission-proper b = fixed tt tt (more tt (text-field mission_widths mission_texts b refl) (fixed tt tt (fixed tt tt none)))

-- so many targets
targets-proper : (mask : ℕ) (area : Area) (n : ℕ) (t : List ℕ) → AllProper (targets_rows mask area n t)
unfolding targets_rows target_rows
targets-proper mask area zero t = none
targets-proper mask area (suc n) t =
    append-proper (fixed tt tt (fixed tt tt (fixed tt tt (fixed tt tt none)))) (targets-proper mask area n (drop (target_length mask) t))

-- a dwell
dwell-proper : (r : Reading) (b : List ℕ) → AllProper (dwell_rows r b)
unfolding dwell_rows lowest_fault
dwell-proper r b =
    fixed tt tt
    (more tt (first_field (is_fault r.version (mask_of b)) 64 2 (lit≤ tt))
    (more tt (either IsField (is_older r) (new-field (mask_of b)) (lit≤ tt))
    (fixed tt tt (fixed tt tt (fixed tt tt (targets-proper (mask_of b) (area_of (dwell_fields b)) (target_count b) (targets_of b)))))))

-- an HRR segment
hrr-proper : (b : List ℕ) → AllProper (hrr_rows b)
unfolding hrr_rows
hrr-proper b = fixed tt tt (fixed tt tt (fixed tt tt none))

-- a job definition
job-proper : (r : Reading) (b : List ℕ) → AllProper (job_rows r b)
unfolding job_rows
job-proper r b = fixed tt tt (more tt (text-field job_widths job_texts b refl) (fixed tt tt none))

-- free text
text-proper : (b : List ℕ) → AllProper (text_rows b)
unfolding text_rows
text-proper b = fixed tt tt (more tt (text-field (free_text_widths b) free_text_texts b refl) none)

-- a body that is kept as bytes
kept-proper : (n : ℕ) (b : List ℕ) → AllProper (kept_rows n b)
unfolding kept_rows
kept-proper n b = fixed tt tt none

-- any body
body-proper : (r : Reading) (t : ℕ) (b : List ℕ) → AllProper (body_rows r t b)
unfolding body_rows
body-proper r t b =
    either AllProper (eqb t 1) (mission-proper b)
    (either AllProper (eqb t 2) (dwell-proper r b)
    (either AllProper (is_hrr r t) (hrr-proper b)
    (either AllProper (eqb t 5) (job-proper r b)
    (either AllProper (eqb t 6) (text-proper b)
    (either AllProper (eqb t 10) (kept-proper 14 b)
    (either AllProper (eqb t 13) (kept-proper 23 b) none))))))

-- any segment
segment-proper : (r : Reading) (l : List ℕ) → AllProper (segment_rows r l)
unfolding segment_rows
segment-proper r l = fixed tt tt (fixed tt tt (fixed tt tt (fixed tt tt (body-proper r (type_at l) (body_at l)))))

-- the writer
writer-proper : (x : List ℕ) (lent : ℕ) → AllProper (writer_rows x lent)
unfolding writer_rows sheet_rows
writer-proper x lent = fixed tt tt (fixed tt tt (fixed tt tt (fixed tt tt none)))

-- ---- the segments

-- the walk finds at most k of them, and the row that ends it is proper
pub parse-proper : (r : Reading) (k : ℕ) (l : List ℕ) → (length (parse r k l).segments ≤ k) × Proper (parse r k l).ending
unfolding parse Proper
parse-proper r zero l = (lit≤ tt, tt)
parse-proper r (suc k) [] = (omega arith, tt)
parse-proper r (suc k) (x ∷ xs) =
    go (first_row (segment_rows r (x ∷ xs))) (first-proper (segment-proper r (x ∷ xs))) (parse-proper r k (drop (size_at (x ∷ xs)) (x ∷ xs)))
  where
    rest : Parsed
    rest = parse r k (drop (size_at (x ∷ xs)) (x ∷ xs))

    first : Segment
    first = record { type = type_at (x ∷ xs); body = body_at (x ∷ xs) }

    go : (c : Check) → Proper c → (length rest.segments ≤ k) × Proper rest.ending
        → (length (onward c first rest).segments ≤ suc k) × Proper (onward c first rest).ending
    go Passed s i = (omega (arith, i.0), i.1)
    go (Failed number field) s i = (omega arith, s)

-- ---- the counts

-- a count of records is at most their number
count-within : (f : Record → Bool) (rs : List Record) → count f rs ≤ length rs
unfolding count
count-within f [] = omega arith
count-within f (r ∷ rs) = go (f r) (count-within f rs)
  where
    go : (b : Bool) → count f rs ≤ length rs → cond b 1 0 + count f rs ≤ suc (length rs)
    go true h = omega arith
    go false h = omega arith

-- a sheet has no more records than bytes
list-within : (k : ℕ) (x : List ℕ) → length (list k x).records ≤ k
unfolding list
list-within zero x = omega arith
list-within (suc k) [] = omega arith
list-within (suc k) (kind ∷ x) = go (ltb 0 (body_length kind) && leb (body_length kind) (length x)) (list-within k (drop (body_length kind) x))
  where
    rest : Listed
    rest = list k (drop (body_length kind) x)

    whole : Listed
    whole = record { records = record { kind = kind; body = take (body_length kind) x } ∷ rest.records; whole = rest.whole }

    go : (t : Bool) → length rest.records ≤ k → length (cond t whole (record { records = []; whole = false })).records ≤ suc k
    go true h = omega arith
    go false h = omega arith

-- so a count of its records is at most its length
counted-within : (f : Record → Bool) (x : List ℕ) → count f (listed x).records ≤ length x
counted-within f x = omega (arith, count-within f (listed x).records, list-within (length x) x)

-- there are no more pairs of D2 and D3 than segments
pairs-within : (ss : List Segment) → length (pairs_in ss) ≤ length ss
unfolding pairs_in
pairs-within [] = omega arith
pairs-within (s ∷ ss) = go (eqb s.type 2) (pairs-within ss)
  where
    go : (t : Bool) → length (pairs_in ss) ≤ length ss → length (cond t (pair_of (dwell_fields s.body) ∷ pairs_in ss) (pairs_in ss)) ≤ suc (length ss)
    go true h = omega arith
    go false h = omega arith

-- so there are no more dwells
dwells-within : (ss : List Segment) → dwells_in ss ≤ length ss
unfolding dwells_in
dwells-within ss = omega (arith, no_longer is_same_pair (pairs_in ss), pairs-within ss)

-- ---- the numbers of an answer

-- each number of a list is at most the length of the longest sheet
data AllWithin : List ℕ → Type 0 where
  no_number : AllWithin []
  one_more : {n : ℕ} {ns : List ℕ} → n ≤ longest_sheet → AllWithin ns → AllWithin (n ∷ ns)

-- a zero before others
zero_more : {ns : List ℕ} → AllWithin ns → AllWithin (0 ∷ ns)
zero_more h = one_more (lit≤ tt) h

-- such numbers fit
within-fits : {ns : List ℕ} → AllWithin ns → (i : ℕ) → get_or ns i 0 < 2 ^ 32
within-fits no_number i = lit< tt
within-fits (one_more h k) zero = omega arith
within-fits (one_more h k) (suc i) = within-fits k i

-- a refusal
refused-within : (number segment field : ℕ) → (number ≤ last_number) × IsField field → segment ≤ longest_sheet → AllWithin (numbers_of (Refused number segment field))
unfolding numbers_of
refused-within number segment field h k =
    let n : number ≤ longest_sheet = omega (arith, h.0) in
    let f : field ≤ longest_sheet = omega (arith, h.1) in
    one_more n (one_more k (one_more f (zero_more (zero_more (zero_more (zero_more no_number))))))

-- an acceptance with the counts of a packet that is not too long, and a length
accepted-within : (settings : Settings) (l : List ℕ) (n : ℕ) → length l ≤ 65536 → n ≤ longest_sheet
    → AllWithin (numbers_of (Accepted (length (parsed settings l).segments) (dwells_in (parsed settings l).segments) (targets_in (parsed settings l).segments) n))
unfolding numbers_of
accepted-within settings l n short h =
    let c = counts-are settings l short in
    let x = sheet settings l in
    let long = sheet-longest settings l short in
    zero_more (zero_more (zero_more
    (one_more (omega (arith, c.segments_are, counted-within is_leader x))
    (one_more (omega (arith, dwells-within (parsed settings l).segments, c.segments_are, counted-within is_leader x))
    (one_more (omega (arith, c.targets_are, counted-within (is_kind 4) x))
    (one_more h no_number))))))

-- ---- the answers

-- a reading, by the first row of the header and by how the walk over the segments ends
reading-within : (settings : Settings) (l : List ℕ) (lent : ℕ) → AllWithin (numbers_of (reading_answer settings l lent))
unfolding reading_answer parsed Proper
reading-within settings l lent = go (first_row (header_rows settings l)) refl (header-first-proper settings l)
  where
    m : ℕ
    m = length (sheet settings l)

    walked : (length (parsed settings l).segments ≤ length (drop 32 l)) × Proper (parsed settings l).ending
    walked = parse-proper (reading_of settings l) (length (drop 32 l)) (drop 32 l)

    ended : length l ≤ 65536 → (c : Check) → Proper c → AllWithin (numbers_of (segments_answer (record { segments = (parsed settings l).segments; ending = c }) m lent))
    ended short Passed s =
        either (λ (a : Answer). AllWithin (numbers_of a)) (leb m lent)
        (accepted-within settings l m short (sheet-longest settings l short))
        (refused-within 16 0 0 (lit≤ tt, lit≤ tt) (lit≤ tt))
    ended short (Failed number field) s =
        refused-within number (length (parsed settings l).segments + 1) field (proper-number number field s) (omega (arith, walked.0, length-drop 32 l))

    go : (c : Check) → first_row (header_rows settings l) ≡ c → Proper c
        → AllWithin (numbers_of (elim c [ Passed ↦ segments_answer (parsed settings l) m lent | Failed number field ↦ Refused number 0 field ]))
    go Passed e s = ended (header-sized settings l e).short (parsed settings l).ending walked.1
    go (Failed number field) e s = refused-within number 0 field (proper-number number field s) (lit≤ tt)

-- where no row applies to a sheet, the packet that it spells is not too long (row 19)
spelt-short : (x : List ℕ) (lent : ℕ) → first_row (writer_rows x lent) ≡ Passed → length (spell x) ≤ 65536
unfolding writer_rows sheet_rows
spelt-short x lent e =
    let seventeen = first_passes _ _ e in
    let eighteen = first_passes _ _ seventeen.1 in
    let nineteen = first_passes _ _ eighteen.1 in
    ltb-false _ _ (neither (ltb 65536 (length (spell x))) _ nineteen.0).0

-- the writer, by the first row that applies
writing-within : (x : List ℕ) (lent : ℕ) → AllWithin (numbers_of (writing_answer x lent))
unfolding writing_answer Proper
writing-within x lent = go (first_row (writer_rows x lent)) refl (first-proper (writer-proper x lent))
  where
    go : (c : Check) → first_row (writer_rows x lent) ≡ c → Proper c → AllWithin (numbers_of (writer_answer x c))
    go Passed e s =
        let short = spelt-short x lent e in
        accepted-within (as_edition 3) (spell x) (length (spell x)) short (omega arith)
    go (Failed number field) e s = refused-within number 0 0 ((proper-number number field s).0, lit≤ tt) (lit≤ tt)

-- ---- the outcomes

-- whatever is read, as any edition, onto any sheet
pub read-numbers-fit : (settings : Settings) (l lent : List ℕ) (i : ℕ) → get_or (read settings l lent).numbers i 0 < 2 ^ 32
unfolding read
read-numbers-fit settings l lent = within-fits (reading-within settings l (length lent))

-- whatever is written, into any buffer
pub write-numbers-fit : (x lent : List ℕ) (i : ℕ) → get_or (write x lent).numbers i 0 < 2 ^ 32
unfolding write
write-numbers-fit x lent = within-fits (writing-within x (length lent))
