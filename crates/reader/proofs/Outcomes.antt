-- The outcome of a reading, by where it ends: at the header, at a segment, at the sheet's room, or with the sheet laid out.
-- Assumes nothing.
use Prim.Native.Nat.{ℕ, ◌-◌, ◌≤◌, ◌<◌}
use native.Mathlib.Nat.{zero-add}
use native.Mathlib.Omega.{arith}
use mathlib.Core.Path.{◌≡◌, sym, ap, ap₂, ◌∙◌}
use mathlib.Core.Bool.{true, false}
use mathlib.Core.List.{List, [], ◌∷◌, ◌++◌}
use borrow.Author.Tests.{lt-leb, le-leb}
use lib.Dec.{leb}
use lib.ListN.{length, drop}
use lib.Seq.{sets}
use borrow.Rule.Slice.PartMut.{mid_of, put_mid}
use Rattle.octets.proofs.Laws.{then}
use Rattle.octets.proofs.Layouts.{sets_over}
use Rattle.octets.proofs.Parts.{part_filled}
use Rattle.format.specs.declared.Settings.{Settings}
use Rattle.format.specs.declared.Reading.{Reading}
use Rattle.format.specs.Check.{Check, Passed, Failed}
use Rattle.format.specs.Answer.{Answer, Accepted, Refused, outcome, left_by}
use Rattle.format.specs.Sheet.{header_record, record_bytes}
use Rattle.format.specs.Lengths.{record_length}
use Rattle.format.specs.Rows.{first_row, header_rows}
use Rattle.format.specs.Reader.{dwells_in, reading_of, parsed, sheet, segments_answer, reading_answer, read}
use Rattle.format.proofs.Acceptance.{no-refusal, same_length, Acceptable, answer_of, accepted-only, read-when}
use Rattle.format.proofs.Lengths.{length-header, length-sheet}
use Rattle.segments.specs.InnerWalk.{answer_from, rest_answer}

-- ---- the answer

-- a sheet just as long as is needed is long enough
just : (n : ℕ) → leb n n ≡ true
just n = le-leb n n (omega arith)

module _ (settings : Settings) (l : List ℕ) where
  -- the answer where a sheet is lent that is just as long as is needed
  abbrev pub whole : Answer
  whole = reading_answer settings l (length (sheet settings l))

  -- the answer by how the walk ends, and by the first row of the header, where so many bytes are lent
  abbrev by_ending : ℕ → Check → Answer
  by_ending lent c = segments_answer (record { segments = (parsed settings l).segments; ending = c }) (length (sheet settings l)) lent

  abbrev by_header : ℕ → Check → Answer
  by_header lent c = elim c [ Passed ↦ by_ending lent (parsed settings l).ending | Failed number field ↦ Refused number 0 field ]

  -- a row of the header applies
  pub answer-header : (number field : ℕ) → first_row (header_rows settings l) ≡ Failed number field → Refused number 0 field ≡ whole
  unfolding reading_answer
  answer-header number field e = sym (ap (by_header (length (sheet settings l))) e)

  -- none does: the answer is that of the walk, to which the packet behind its header was handed
  pub answer-walked : first_row (header_rows settings l) ≡ Passed → (r : Reading) (m : List ℕ) {a : Answer} → r ≡ reading_of settings l → m ≡ drop 32 l → a ≡ rest_answer r m → a ≡ whole
  unfolding reading_answer answer_from parsed
  answer-walked e r m q p h =
      h
      ∙ ap₂ (λ (r : Reading) (x : List ℕ). rest_answer r x) q p
      ∙ go (parsed settings l).ending
      ∙ sym (ap (by_header (length (sheet settings l))) e)
    where
      go : (c : Check) → let ss = (parsed settings l).segments in
          answer_from (reading_of settings l) (record { segments = ss; ending = c }) 0 (dwells_in ss) 0 (record_length 1) ≡ by_ending (length (sheet settings l)) c
      go Passed = rw (just (length (sheet settings l)), length-sheet settings l) (simp zero-add)
      go (Failed number field) = rw zero-add

-- ---- the outcome

module _ (settings : Settings) (l lent : List ℕ) (a : Answer) (h : a ≡ whole settings l) where
  -- the outcome by the answer
  ends_so : (b : Answer) → reading_answer settings l (length lent) ≡ b → outcome b (left_by b (sheet settings l) lent) ≡ read settings l lent
  unfolding read
  ends_so b e = sym (ap (λ (c : Answer). outcome c (left_by c (sheet settings l) lent)) e)

  -- a row of the header or of a segment applies
  pub read-refused : (number segment field : ℕ) → a ≡ Refused number segment field → outcome a lent ≡ read settings l lent
  unfolding reading_answer left_by
  read-refused number segment field e =
      ap (λ (c : Answer). outcome c lent) e
      ∙ ends_so (Refused number segment field) (go (first_row (header_rows settings l)) (parsed settings l).ending (sym h ∙ e))
    where
      -- the answer by both, where so many bytes are lent
      answer : ℕ → Check → Check → Answer
      answer n c c' = elim c [ Passed ↦ by_ending settings l n c' | Failed number field ↦ Refused number 0 field ]

      go : (c c' : Check) → answer (length (sheet settings l)) c c' ≡ Refused number segment field → answer (length lent) c c' ≡ Refused number segment field
      go (Failed n f) c' q = q
      go Passed (Failed n f) q = q
      go Passed Passed q =
          let accepts : by_ending settings l (length (sheet settings l)) Passed ≡ answer_of settings l = rw (just (length (sheet settings l))) in
          no-refusal number segment field _ _ _ _ (sym q ∙ accepts)

  -- no row does
  module _ (s d t n : ℕ) (e : a ≡ Accepted s d t n) where
    -- the packet is acceptable, and its counts are those of the answer
    accepted : Acceptable settings l (length (sheet settings l)) × (answer_of settings l ≡ Accepted s d t n)
    accepted = accepted-only settings l (length (sheet settings l)) s d t n (sym h ∙ e)

    -- the length that is answered is the sheet's
    long : length (sheet settings l) ≡ n
    long = same_length _ _ _ _ s d t n accepted.1

    -- the sheet can be set out where there is room
    pub roomy : n ≤ length lent → Acceptable settings l (length lent)
    roomy r = record { header = accepted.0.header; ending = accepted.0.ending; fits = omega (arith, long, r) }

    -- the sheet is too long for what is lent
    pub read_short : length lent < n → outcome (Refused 16 0 0) lent ≡ read settings l lent
    unfolding reading_answer left_by
    read_short r =
        let p : leb (length (sheet settings l)) (length lent) ≡ false = lt-leb (length (sheet settings l)) (length lent) (omega (arith, long, r)) in
        ends_so (Refused 16 0 0) (ap (by_header settings l (length lent)) accepted.0.header ∙ ap (by_ending settings l (length lent)) accepted.0.ending ∙ rw p)

    -- or it is laid over it
    pub read-laid : n ≤ length lent → (left : List ℕ) → left ≡ sets lent 0 (sheet settings l) → outcome (Accepted s d t n) left ≡ read settings l lent
    read-laid r left p =
        ap₂ (λ (b : Answer) (o : List ℕ). outcome b o) (sym accepted.1) (p ∙ sets_over (sheet settings l) lent (roomy r).fits)
        ∙ sym (read-when settings l lent (roomy r))

-- ---- the two parts of the sheet

-- the header's record, and the bytes of others in the part of the sheet behind it
pub laid-behind : (l lent o p y : List ℕ) → o ≡ sets lent 0 (record_bytes (header_record l ∷ [])) → p ≡ sets (mid_of (record_length 1) (length o - record_length 1) o) 0 y
    → put_mid (record_length 1) (length o - record_length 1) o p ≡ sets lent 0 (record_bytes (header_record l ∷ []) ++ y)
laid-behind l lent o p y ho hp = then (record_bytes (header_record l ∷ [])) y lent 0 _ ho (length-header l) (part_filled o y _ hp)
