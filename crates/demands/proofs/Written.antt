-- Demand 2, of the definitions: the counts of a reading are its sheet's, and the writer accepts just the sheets that the Edition 3
-- reading makes, and gives back the packet.
-- Assumes nothing.
use Prim.Native.Nat.{ℕ, ◌+◌, ◌≤◌}
use native.Mathlib.Nat.{le_refl}
use native.Mathlib.Omega.{arith}
use mathlib.Core.Path.{◌≡◌, refl, sym, ap, ap₂, subst, ◌∙◌}
use mathlib.Core.Bool.{true, false, ◌&&◌, true≢false}
use mathlib.Core.List.{List, ◌∷◌, ◌++◌, append-nil}
use borrow.Author.Tests.{le-ltb, not-false}
use lib.Dec.{ltb}
use lib.ListN.{length, take, drop, length-append, length-drop, take-append-drop, drop_of_length-le}
use lib.Seq.{take_at, get_or-drop}
use Rattle.octets.specs.Octets.{Bytes}
use Rattle.octets.specs.Layout.{over}
use Rattle.octets.proofs.Layouts.{pad-take}
use Rattle.format.specs.declared.Settings.{Settings}
use Rattle.format.specs.Check.{Check, Passed, Failed}
use Rattle.format.specs.Answer.{Answer, Accepted, Refused, Outcome, outcome, left_by}
use Rattle.format.specs.Edition.{as_edition, is_older}
use Rattle.format.specs.Sheet.{body_length, record_of, header_record, packet_records}
use Rattle.format.specs.Rows.{first_row}
use Rattle.format.specs.Reader.{parsed, reading_of, dwells_in, targets_in, sheet, reading_answer, read}
use Rattle.format.specs.Writer.{is_headed, called_for, is_complete, Regrouped, segments_bytes, spell_records, spell, is_accepted, is_same, reads_back, sheet_rows, writer_rows, writer_answer, writing_answer, write}
use Rattle.format.proofs.Rows.{first_passes, neither}
use Rattle.format.proofs.Records.{listed-sheet}
use Rattle.format.proofs.Sameness.{same-itself, same_lists}
use Rattle.demands.specs.Demands.{Counted, Demand2}
use Rattle.format.proofs.Segments.{AllSound, parse-back, parse-sound}
use Rattle.demands.proofs.Regroup.{packet-regrouped}
use Rattle.demands.proofs.Complete.{Complete, packet-complete, packet-no-header}
use Rattle.demands.proofs.Counts.{counts-are}
use Rattle.demands.proofs.AreBytes.{spell-bytes}
use Rattle.format.proofs.Acceptance.{no-refusal, same-counts, same_length, Acceptable, accepted-when, accepted-only, header-sized, read-when, read_only}

-- ---- from a packet to its sheet and back

-- the Edition 3 reading is never the older one
pub newest : (l : List ℕ) → is_older (reading_of (as_edition 3) l) ≡ false
unfolding is_older
newest l = refl

module _ (l : List ℕ) (lent : ℕ) (a : Acceptable (as_edition 3) l lent) where
  -- no row applies to its segments
  sound : AllSound (reading_of (as_edition 3) l) (parsed (as_edition 3) l).segments
  unfolding parsed
  sound = parse-sound (reading_of (as_edition 3) l) (length (drop 32 l)) (drop 32 l) (rw length-drop (omega (arith, (header-sized (as_edition 3) l a.header).short)))

  -- the sheet of an accepted packet spells that packet
  spell-sheet : Bytes l → spell (sheet (as_edition 3) l) ≡ l
  unfolding spell spell_records header_record record_of body_length parsed
  spell-sheet b =
      rw (listed-sheet (as_edition 3) l)
      (ap₂ (λ (x y : List ℕ). x ++ y) (pad-take 32 l (header-sized (as_edition 3) l a.header).long)
      (ap (λ (x : Regrouped). segments_bytes x.segments) (packet-regrouped (reading_of (as_edition 3) l) (parsed (as_edition 3) l).segments (newest l) sound (header_record l))
      ∙ parse-back (reading_of (as_edition 3) l) (length (drop 32 l)) (drop 32 l) (le_refl _) (λ i. rw get_or-drop (b (32 + i))) a.ending)
      ∙ take-append-drop 32 l)

  -- the records of the sheet begin with the one header
  headed : is_headed (header_record l ∷ packet_records (reading_of (as_edition 3) l) (parsed (as_edition 3) l).segments) ≡ true
  unfolding is_headed header_record record_of
  headed = packet-no-header (reading_of (as_edition 3) l) (parsed (as_edition 3) l).segments

  -- and are complete
  complete : Complete (header_record l ∷ packet_records (reading_of (as_edition 3) l) (parsed (as_edition 3) l).segments)
  unfolding is_complete header_record record_of called_for
  complete = packet-complete (reading_of (as_edition 3) l) (parsed (as_edition 3) l).segments (newest l) sound

  -- the packet reads back to its sheet
  back : reads_back l (sheet (as_edition 3) l) ≡ true
  unfolding reads_back
  back = rw (accepted-when (as_edition 3) l (length (sheet (as_edition 3) l)) (record { header = a.header; ending = a.ending; fits = le_refl _ }), same-itself (sheet (as_edition 3) l))

  -- so none of the writer's rows applies to the sheet
  sheet-passes : (cap : ℕ) → Bytes l → length l ≤ cap → first_row (writer_rows (sheet (as_edition 3) l) cap) ≡ Passed
  unfolding first_row writer_rows sheet_rows
  sheet-passes cap b h =
      rw (spell-sheet b, listed-sheet (as_edition 3) l, headed, complete, le-ltb 65536 (length l) (header-sized (as_edition 3) l a.header).short, back, le-ltb cap (length l) h)

-- ---- what the writer answers

-- an acceptance with the counts of the packet l
abbrev counts_of : List ℕ → ℕ → Answer
counts_of l n = Accepted (length (parsed (as_edition 3) l).segments) (dwells_in (parsed (as_edition 3) l).segments) (targets_in (parsed (as_edition 3) l).segments) n

module _ (x buffer : List ℕ) where
  -- the answer by the first row that applies
  abbrev written : Check → Answer
  written c = writer_answer x c

  -- where none applies, the spelt packet is laid into the buffer
  written-when : first_row (writer_rows x (length buffer)) ≡ Passed → write x buffer ≡ outcome (counts_of (spell x) (length (spell x))) (over (spell x) buffer)
  unfolding write writing_answer left_by
  written-when e = ap (λ (c : Check). outcome (written c) (left_by (written c) (spell x) buffer)) e

  -- and where one does, the sheet is not accepted
  written-only : (s d t n : ℕ) → (write x buffer).answer ≡ Accepted s d t n → first_row (writer_rows x (length buffer)) ≡ Passed
  unfolding write writing_answer
  written-only s d t n e = go (first_row (writer_rows x (length buffer))) refl e
    where
      go : (c : Check) → first_row (writer_rows x (length buffer)) ≡ c → written c ≡ Accepted s d t n → first_row (writer_rows x (length buffer)) ≡ Passed
      go Passed h e = h
      go (Failed number field) h e = no-refusal number 0 0 s d t n e

  -- a sheet to which no row applies is the one that the packet spelt from it reads to
  pub reads-back : first_row (writer_rows x (length buffer)) ≡ Passed → reads_back (spell x) x ≡ true
  unfolding writer_rows sheet_rows
  reads-back e =
      let seventeen = first_passes _ _ e in
      let eighteen = first_passes _ _ seventeen.1 in
      let nineteen = first_passes _ _ eighteen.1 in
      not-false _ (neither (ltb 65536 (length (spell x))) _ nineteen.0).1

-- what reading back says: the packet is accepted, and its sheet is this one
pub back-means : (l x : List ℕ) → reads_back l x ≡ true → Acceptable (as_edition 3) l (length x) × (sheet (as_edition 3) l ≡ x)
unfolding reads_back
back-means l x e = go (reading_answer (as_edition 3) l (length x)) refl e
  where
    go : (a : Answer) → reading_answer (as_edition 3) l (length x) ≡ a → (is_accepted a && is_same (sheet (as_edition 3) l) x) ≡ true → Acceptable (as_edition 3) l (length x) × (sheet (as_edition 3) l ≡ x)
    go (Accepted s d t n) h e = ((accepted-only (as_edition 3) l (length x) s d t n h).0, same_lists (sheet (as_edition 3) l) x e)
    go (Refused number segment field) h e = absurd (true≢false (sym e))

-- ---- the three parts of the demand

-- the counts are the sheet's
counted : (settings : Settings) (l lent : List ℕ) (s d t n : ℕ) → (read settings l lent).answer ≡ Accepted s d t n → Counted (sheet settings l) s d t n
counted settings l lent s d t n e = let a = read_only settings l lent s d t n e in go _ _ _ _ a.1 (counts-are settings l (header-sized settings l a.0.header).short)
  where
    go : (s' d' t' n' : ℕ) → Accepted s' d' t' n' ≡ Accepted s d t n → Counted (sheet settings l) s' d' t' n' → Counted (sheet settings l) s d t n
    go s' d' t' n' h c = record { segments_are = cc; dwells_are = cc; targets_are = cc; length_is = cc }

-- the sheet of an accepted packet is written as that packet
sheet-written : (l lent buffer : List ℕ) (s d t n : ℕ) → Bytes l → (read (as_edition 3) l lent).answer ≡ Accepted s d t n → length l ≤ length buffer
    → write (take n (read (as_edition 3) l lent).left) buffer ≡ outcome (Accepted s d t (length l)) (over l buffer)
unfolding over
sheet-written l lent buffer s d t n b e h =
    let a = read_only (as_edition 3) l lent s d t n e in
    let cut : take n (read (as_edition 3) l lent).left ≡ sheet (as_edition 3) l =
    ap (λ (o : Outcome). take n o.left) (read-when (as_edition 3) l lent a.0)
    ∙ take_at (sheet (as_edition 3) l) (drop (length (sheet (as_edition 3) l)) lent) n (same_length _ _ _ _ s d t n a.1) in
    rw cut
    (written-when (sheet (as_edition 3) l) buffer (sheet-passes l (length lent) a.0 (length buffer) b h)
    ∙ ap (λ (p : List ℕ). outcome (counts_of p (length p)) (over p buffer)) (spell-sheet l (length lent) a.0 b)
    ∙ ap (λ (c : Answer). outcome c (over l buffer)) (same-counts _ _ _ _ s d t n (length l) a.1))

-- a sheet that is written is the one of the packet that it is written as
only-written : (x buffer : List ℕ) (s d t n : ℕ) → Bytes x → (write x buffer).answer ≡ Accepted s d t n
    → (l : List ℕ) × Bytes l × (length l ≡ n) × ((write x buffer).left ≡ over l buffer)
    × ((lent : List ℕ) → length lent ≡ length x → read (as_edition 3) l lent ≡ outcome (Accepted s d t (length x)) x)
unfolding over
only-written x buffer s d t n b e =
    let p = written-only x buffer s d t n e in
    let w = written-when x buffer p in
    let is : counts_of (spell x) (length (spell x)) ≡ Accepted s d t n = sym (ap (λ (o : Outcome). o.answer) w) ∙ e in
    let r = back-means (spell x) x (reads-back x buffer p) in (
      spell x,
      spell-bytes x b,
      same_length _ _ _ _ s d t n is,
      ap (λ (o : Outcome). o.left) w,
      λ lent h.
          read-when (as_edition 3) (spell x) lent (subst (Acceptable (as_edition 3) (spell x)) (sym h) r.0)
          ∙ ap (λ (y : List ℕ). outcome (counts_of (spell x) (length y)) (over y lent)) r.1
          ∙ ap₂ (λ (c : Answer) (y : List ℕ). outcome c y) (same-counts _ _ _ _ s d t n (length x) is)
          (ap (λ (y : List ℕ). x ++ y) (drop_of_length-le lent {i = length x} (omega arith)) ∙ append-nil x),
    )

pub demand-2 : Demand2
demand-2 = record { counts = counted; sheets_are_written = sheet-written; only_sheets_are_written = only-written }

-- ---- "and returns that packet": so no two packets have the same Edition 3 sheet

-- bytes laid over a buffer are its front
pub over-front : (l buffer : List ℕ) → take (length l) (over l buffer) ≡ l
unfolding over
over-front l buffer = take_at l (drop (length l) buffer) (length l) refl

-- packets with the same sheet are written into a buffer that has room for either, so they are the same packet
pub one-packet-each : (l m lentl lentm : List ℕ) (s d t n s' d' t' n' : ℕ) → Bytes l → Bytes m
    → (read (as_edition 3) l lentl).answer ≡ Accepted s d t n → (read (as_edition 3) m lentm).answer ≡ Accepted s' d' t' n'
    → take n (read (as_edition 3) l lentl).left ≡ take n' (read (as_edition 3) m lentm).left
    → l ≡ m
one-packet-each l m lentl lentm s d t n s' d' t' n' bl bm el em same =
    sym (over-front l buffer)
    ∙ ap₂ take (same_length _ _ _ _ s' d' t' (length m) (ap (λ (o : Outcome). o.answer) both)) (ap (λ (o : Outcome). o.left) both)
    ∙ over-front m buffer
  where
    buffer : List ℕ
    buffer = l ++ m

    both : outcome (Accepted s d t (length l)) (over l buffer) ≡ outcome (Accepted s' d' t' (length m)) (over m buffer)
    both =
        sym (sheet-written l lentl buffer s d t n bl el (rw length-append (omega arith)))
        ∙ ap (λ (x : List ℕ). write x buffer) same
        ∙ sheet-written m lentm buffer s' d' t' n' bm em (rw length-append (omega arith))
