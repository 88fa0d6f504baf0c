-- Every name on the sheet of an accepted packet is on one line, and a sheet with another name is not written.
-- Assumes nothing.
use Prim.Native.Nat.{ℕ, ◌+◌, ◌≤◌}
use native.Mathlib.Omega.{arith}
use mathlib.Core.Path.{◌≡◌, refl, sym, ap, ◌∙◌}
use mathlib.Core.Bool.{Bool, true, false, not, cond, ◌&&◌, or-true, and_assoc, true≢false}
use mathlib.Core.List.{List, [], ◌∷◌, ◌++◌}
use borrow.Author.Tests.{eqb-true, ltb-false, not-false}
use lib.Dec.{eqb, ltb, lit≤}
use lib.ListN.{length, take, drop, length-append, length-drop, take-append-drop}
use lib.Seq.{length-take-le}
use Rattle.octets.specs.Octets.{bytes}
use Rattle.octets.specs.Layout.{field, offset, width, total}
use Rattle.octets.proofs.Layouts.{pad-take, field-front, field-kept, length-zeroed}
use Rattle.text.specs.Text.{TextField, one_line, any_text, all, is_line, is_line_byte, text_fault}
use Rattle.format.specs.declared.Settings.{Settings}
use Rattle.format.specs.declared.Reading.{Reading}
use Rattle.format.specs.Check.{Check, Passed, Failed}
use Rattle.format.specs.Packet.{Segment, s2, header_widths, mission_widths, job_widths, free_text_widths}
use Rattle.format.specs.Answer.{Refused, outcome, left_by}
use Rattle.format.specs.Edition.{as_edition, is_older, shown, mark}
use Rattle.format.specs.Reader.{reading_of, parsed, sheet}
use Rattle.format.specs.Writer.{listed, is_headed, due, is_complete, is_accepted, reads_back, spell, sheet_rows, writer_rows, writer_answer, writing_answer, write}
use Rattle.format.specs.Rows.{first_row, header_rows, mission_rows, job_rows, text_rows, body_rows}
use Rattle.format.specs.Sheet.{Record, body_length, record_of, header_record, dwell_record, dwell_records, hrr_record, hrr_records, text_records, opaque_records, job_records, segment_records, packet_records}
use Rattle.format.proofs.Rows.{first_passes, either, both}
use Rattle.format.proofs.Bodies.{record-exact, text-exact}
use Rattle.format.proofs.Acceptance.{Acceptable, header-sized, read_only}
use Rattle.format.proofs.Records.{listed-sheet}
use Rattle.format.proofs.Segments.{AllSound, parse-sound, by_rows}
use Rattle.demands.specs.Names.{names, names_are_lines}
use Rattle.demands.specs.Demands.{NamesOnOneLine}
use Rattle.demands.proofs.Runs.{Run, run_end, run_more, targets-run, scatterers-run, pieces-run}
use Rattle.demands.proofs.Written.{reads-back, back-means}

-- ---- fields of text

-- text after other text
all_append : (f : ℕ → Bool) (a b : List ℕ) → all f (a ++ b) ≡ (all f a && all f b)
unfolding all
all_append f [] b = refl
all_append f (c ∷ a) b = rw (all_append f a b) (sym (and_assoc (f c) (all f a) (all f b)))

-- so both in a row
in_row : (f : ℕ → Bool) (a b : List ℕ) → all f a ≡ true → all f b ≡ true → all f (a ++ b) ≡ true
in_row f a b p q = all_append f a b ∙ rw (p, q)

-- where no field of some is at fault, the first holds what it may, and none of the others is at fault
none-at-fault : (ws : List ℕ) (t : TextField) (ts : List TextField) (b : List ℕ) → eqb t.number 0 ≡ false → text_fault ws (t ∷ ts) b ≡ 0
    → (all t.holds (field 1 ws t.number b) ≡ true) × (text_fault ws ts b ≡ 0)
unfolding text_fault
none-at-fault ws t ts b n e = go (all t.holds (field 1 ws t.number b)) refl e
  where
    go : (x : Bool) → all t.holds (field 1 ws t.number b) ≡ x → cond x (text_fault ws ts b) t.number ≡ 0
        → (all t.holds (field 1 ws t.number b) ≡ true) × (text_fault ws ts b ≡ 0)
    go true h e = (h, e)
    go false h e = absurd (true≢false (sym (ap (λ (k : ℕ). eqb k 0) e) ∙ n))

-- a row that names the field at fault does not apply where none is
no-fault : (fault : ℕ) → not (eqb fault 0) ≡ false → fault ≡ 0
no-fault fault h = eqb-true fault 0 (not-false _ h)

-- a field that lies within the first k bytes
field-taken : (ws : List ℕ) (n k : ℕ) (b : List ℕ) → offset 1 ws n + width 1 ws n ≤ k → k ≤ length b → field 1 ws n (take k b) ≡ field 1 ws n b
field-taken ws n k b h long =
    sym (field-front 1 ws n (take k b) (drop k b) (rw (length-take-le k b long) h)) ∙ ap (field 1 ws n) (take-append-drop k b)

-- ---- the names of one record

-- P3, P5 and P8: the header's record has the packet's first 32 bytes
header-lines : (settings : Settings) (l : List ℕ) → first_row (header_rows settings l) ≡ Passed → is_line (names (header_record l)) ≡ true
unfolding header_rows names header_record record_of body_length total
header-lines settings l e =
    let long = (header-sized settings l e).long in
    let two = first_passes _ _ (first_passes _ _ e).1 in
    let four = first_passes _ _ (first_passes _ _ two.1).1 in
    let five = first_passes _ _ four.1 in
    let p3 = none-at-fault header_widths (one_line 3) (one_line 5 ∷ one_line 8 ∷ []) l refl (no-fault _ five.0) in
    let p5 = none-at-fault header_widths (one_line 5) (one_line 8 ∷ []) l refl p3.1 in
    let p8 = none-at-fault header_widths (one_line 8) [] l refl p5.1 in
    let kept : (n : ℕ) → offset 1 header_widths n + width 1 header_widths n ≤ 32 → is_line (field 1 header_widths n l) ≡ true → is_line (field 1 header_widths n (take 32 l)) ≡ true =
    λ n h q. ap is_line (field-taken header_widths n 32 l h long) ∙ q in
    rw (pad-take 32 l long)
    (in_row is_line_byte _ _ (in_row is_line_byte _ _ (kept 3 (lit≤ tt) p3.0) (kept 5 (lit≤ tt) p5.0)) (kept 8 (lit≤ tt) p8.0))

-- M1, M2 and M4: a mission's record has the body
mission-lines : (b : List ℕ) → first_row (mission_rows b) ≡ Passed → is_line (names (record_of 2 b)) ≡ true
unfolding mission_rows names body_length
mission-lines b e =
    let nine = first_passes _ _ e in
    let ten = first_passes _ _ nine.1 in
    let size : s2 b ≡ 44 = eqb-true (s2 b) 44 (not-false _ nine.0) in
    let n : length b ≡ 39 = omega arith in
    let m1 = none-at-fault mission_widths (one_line 1) (one_line 2 ∷ one_line 4 ∷ []) b refl (no-fault _ ten.0) in
    let m2 = none-at-fault mission_widths (one_line 2) (one_line 4 ∷ []) b refl m1.1 in
    let m4 = none-at-fault mission_widths (one_line 4) [] b refl m2.1 in
    ap (λ (q : Record). is_line (names q)) (record-exact 2 b n) ∙ in_row is_line_byte _ _ (in_row is_line_byte _ _ m1.0 m2.0) m4.0

-- F1 and F2: a text's record begins with them
text-lines : (b : List ℕ) (n : ℕ) → first_row (text_rows b) ≡ Passed → is_line (names (record_of 5 (take 20 b ++ bytes 4 n))) ≡ true
unfolding text_rows names body_length total field
text-lines b n e =
    let nine = first_passes _ _ e in
    let ten = first_passes _ _ nine.1 in
    let size : 25 ≤ s2 b = ltb-false (s2 b) 25 nine.0 in
    let long : 20 ≤ length b = omega arith in
    let ws = free_text_widths b in
    let f1 = none-at-fault ws (one_line 1) (one_line 2 ∷ any_text 3 ∷ []) b refl (no-fault _ ten.0) in
    let f2 = none-at-fault ws (one_line 2) (any_text 3 ∷ []) b refl f1.1 in
    let kept : (m : ℕ) → offset 1 ws m + width 1 ws m ≤ 20 → is_line (field 1 ws m b) ≡ true → is_line (field 1 ws m (take 20 b ++ bytes 4 n)) ≡ true =
    λ m h q. ap is_line (field-front 1 ws m (take 20 b) (bytes 4 n) (rw (length-take-le 20 b long) h) ∙ field-taken ws m 20 b h long) ∙ q in
    ap (λ (q : Record). is_line (names q)) (text-exact b n long) ∙ in_row is_line_byte _ _ (kept 1 (lit≤ tt) f1.0) (kept 2 (lit≤ tt) f2.0)

-- J3, which stands before what is withheld
job-lines : (r : Reading) (b : List ℕ) → first_row (job_rows r b) ≡ Passed → is_line (names (record_of 8 (shown r 1 job_widths 26 b ++ mark r ∷ []))) ≡ true
unfolding job_rows names body_length shown total
job-lines r b e =
    let nine = first_passes _ _ e in
    let ten = first_passes _ _ nine.1 in
    let size : s2 b ≡ 73 = eqb-true (s2 b) 73 (not-false _ nine.0) in
    let n : length b ≡ 68 = omega arith in
    let j3 = none-at-fault job_widths (one_line 3) [] b refl (no-fault _ ten.0) in
    let shows = shown r 1 job_widths 26 b in
    let long : length shows ≡ 68 = either (λ (f : List ℕ). length f ≡ 68) (is_older r) (length-zeroed 1 job_widths 26 b (omega arith) ∙ n) n in
    let same : field 1 job_widths 3 shows ≡ field 1 job_widths 3 b =
    either (λ (f : List ℕ). field 1 job_widths 3 f ≡ field 1 job_widths 3 b) (is_older r) (field-kept 1 job_widths 3 26 _ b (lit≤ tt) (omega arith)) refl in
    let whole : length (shows ++ mark r ∷ []) ≡ body_length 8 = simp (length-append, long) in
    ap (λ (q : Record). is_line (names q)) (record-exact 8 _ whole)
    ∙ ap is_line (field-front 1 job_widths 3 shows (mark r ∷ []) (omega arith) ∙ same)
    ∙ j3.0

-- ---- the names of a packet

-- records after others
lines-append : (rs qs : List Record) → names_are_lines rs ≡ true → names_are_lines qs ≡ true → names_are_lines (rs ++ qs) ≡ true
unfolding names_are_lines
lines-append [] qs p q = q
lines-append (r ∷ rs) qs p q = let t = both (is_line (names r)) (names_are_lines rs) p in rw t.0 (lines-append rs qs t.1 q)

-- records of a kind that has no names
run-lines : {kind n : ℕ} {qs : List Record} → ((b : List ℕ) → names (record { kind = kind; body = b }) ≡ []) → Run kind n qs → names_are_lines qs ≡ true
unfolding names_are_lines all
run-lines h run_end = refl
run-lines h (run_more {q = q} e a) =
    let nameless : names q ≡ [] = ap (λ (k : ℕ). names (record { kind = k; body = q.body })) e ∙ h q.body in
    rw nameless (run-lines h a)

module _ (r : Reading) where
  segment-lines : (s : Segment) → first_row (body_rows r s.type s.body) ≡ Passed → names_are_lines (segment_records r s) ≡ true
  unfolding names_are_lines names all dwell_records dwell_record hrr_records hrr_record job_records text_records opaque_records record_of
  segment-lines s h =
      by_rows (λ (rs : List Record). names_are_lines rs ≡ true) r s h
      (λ _ p. rw (mission-lines s.body p))
      (λ _ p. run-lines (λ b. refl) (targets-run _ _ _ _))
      (λ _ p. run-lines (λ b. refl) (scatterers-run _ _ _))
      (λ _ p. rw (job-lines r s.body p))
      (λ _ p. rw (text-lines s.body _ p) (run-lines (λ b. refl) (pieces-run _ _)))
      (λ _ p. refl)
      (λ _ p. refl)
      (run-lines (λ b. refl) (pieces-run _ _))

  packet-lines : (ss : List Segment) → AllSound r ss → names_are_lines (packet_records r ss) ≡ true
  unfolding names_are_lines packet_records
  packet-lines [] h = refl
  packet-lines (s ∷ ss) h = lines-append (segment_records r s) (packet_records r ss) (segment-lines s h.0.rows) (packet-lines ss h.1)

-- ---- the names of a sheet

-- of a packet to whose header and segments no row applies
sheet-lines : (settings : Settings) (l : List ℕ) (lent : ℕ) → Acceptable settings l lent → names_are_lines (listed (sheet settings l)).records ≡ true
unfolding names_are_lines parsed
sheet-lines settings l lent a =
    let r = reading_of settings l in
    let sound : AllSound r (parsed settings l).segments = parse-sound r (length (drop 32 l)) (drop 32 l) (rw length-drop (omega (arith, (header-sized settings l a.header).short))) in
    rw (listed-sheet settings l, header-lines settings l a.header) (packet-lines r (parsed settings l).segments sound)

-- so a packet that reads to a sheet with another name is none
no-packet : (x : List ℕ) → names_are_lines (listed x).records ≡ false → reads_back (spell x) x ≡ false
no-packet x other = go (reads_back (spell x) x) refl
  where
    go : (b : Bool) → reads_back (spell x) x ≡ b → b ≡ false
    go true h =
        let back = back-means (spell x) x h in
        let sheets : names_are_lines (listed (sheet (as_edition 3) (spell x))).records ≡ true = sheet-lines (as_edition 3) (spell x) (length x) back.0 in
        sym (rw back.1 at sheets) ∙ other
    go false h = refl

-- what it says that rows 17 and 18 do not apply
shaped : (x : List ℕ) → first_row (take 2 (sheet_rows x)) ≡ Passed
    → (not ((listed x).whole && is_headed (listed x).records) ≡ false) × (not (is_complete (due 0 0) (listed x).records) ≡ false)
unfolding sheet_rows
shaped x e = let seventeen = first_passes _ _ e in (seventeen.0, (first_passes _ _ seventeen.1).0)

module _ (x lent : List ℕ) (other : names_are_lines (listed x).records ≡ false) where
  -- where rows 17 and 18 do not apply, row 19 does
  with-19 : first_row (take 2 (sheet_rows x)) ≡ Passed → write x lent ≡ outcome (Refused 19 0 0) lent
  unfolding write writing_answer writer_rows sheet_rows first_row left_by
  with-19 e =
      let shape = shaped x e in
      rw (shape.0, shape.1, no-packet x other, or-true (ltb 65536 (length (spell x))))

  -- and no answer is an acceptance
  refused-so : is_accepted (write x lent).answer ≡ false
  unfolding write writing_answer
  refused-so = go (first_row (writer_rows x (length lent))) refl
    where
      go : (c : Check) → first_row (writer_rows x (length lent)) ≡ c → is_accepted (writer_answer x c) ≡ false
      go Passed h = absurd (true≢false (sym (reads-back x lent h) ∙ no-packet x other))
      go (Failed number field) h = refl

pub names-on-one-line : NamesOnOneLine
names-on-one-line = record {
  on_sheets = λ settings l lent s d t n e. sheet-lines settings l (length lent) (read_only settings l lent s d t n e).0;
  not_written = refused-so;
  refused_with_19 = with-19;
}
