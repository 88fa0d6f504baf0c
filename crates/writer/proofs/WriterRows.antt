-- The writer's answer by the first of its rows that applies, and what is then left in the lent packet buffer.
-- Assumes nothing.
use Prim.Native.Nat.{ℕ, ◌≤◌, ◌<◌}
use native.Mathlib.Omega.{arith}
use mathlib.Core.Path.{◌≡◌, refl, sym, ap, ap₂, ◌∙◌}
use mathlib.Core.Bool.{Bool, true, false, not, ◌||◌, cond}
use mathlib.Core.List.{List, [], ◌∷◌}
use borrow.Author.Tests.{lt-ltb, le-ltb, le-leb, lt-leb}
use lib.Dec.{ltb}
use lib.ListN.{length, take, drop}
use lib.Seq.{sets, take_at}
use Rattle.octets.specs.Layout.{over}
use Rattle.octets.proofs.Layouts.{sets_over}
use Rattle.format.specs.Check.{Check, Passed, Failed}
use Rattle.format.specs.Answer.{Answer, Accepted, Refused, outcome, left_by}
use Rattle.format.specs.Rows.{row, first_row}
use Rattle.format.specs.Writer.{listed, due, is_complete, spell, reads_back, sheet_rows, writer_rows, writer_answer, sheet_answer, writing_answer, write}
use Rattle.format.proofs.Rows.{or_else, first-append}
use Rattle.format.proofs.Acceptance.{no-refusal, same_length}
use Rattle.sheet_walk.specs.InnerShape.{is_sheet, Shaped}
use Rattle.writer.specs.InnerPlaced.{placed, Settled}
use Rattle.writer.proofs.ReadingBack.{back_answer}

-- ---- rows 17 to 19

-- the answer to x by whether the rows 17, 18 and 19 apply
abbrev by_rows : List ℕ → Bool → Bool → Bool → Answer
by_rows x a b c = writer_answer x (cond a (Failed 17 0) (cond b (Failed 18 0) (cond c (Failed 19 0) Passed)))

module _ (x : List ℕ) where
  -- row 17 lets it pass
  abbrev is_listed : Bool
  is_listed = is_sheet (listed x)

  -- row 18 does
  abbrev is_full : Bool
  is_full = is_complete (due 0 0) (listed x).records

  -- row 19 applies
  abbrev is_lost : Bool
  is_lost = ltb 65536 (length (spell x)) || not (reads_back (spell x) x)

  -- by definition
  by_rows_lem : sheet_answer x ≡ by_rows x (not is_listed) (not is_full) is_lost
  unfolding sheet_answer sheet_rows first_row
  by_rows_lem = refl

  -- row 17 is the first that applies
  pub row-17 : is_listed ≡ false → Refused 17 0 0 ≡ sheet_answer x
  row-17 e = sym (by_rows_lem ∙ ap (λ (b : Bool). by_rows x (not b) (not is_full) is_lost) e)

  -- row 18 is
  pub row-18 : (is_listed ≡ true) × (is_full ≡ false) → Refused 18 0 0 ≡ sheet_answer x
  row-18 e = sym (by_rows_lem ∙ ap₂ (λ (b c : Bool). by_rows x (not b) (not c) is_lost) e.0 e.1)

  -- neither does: row 19 decides
  module _ (h : Shaped x) where
    shaped : sheet_answer x ≡ by_rows x false false is_lost
    shaped = by_rows_lem ∙ ap₂ (λ (b c : Bool). by_rows x (not b) (not c) is_lost) h.0 h.1

    -- "spelt bytes above 65,536"
    pub row-19-packet : 65536 < length (spell x) → Refused 19 0 0 ≡ sheet_answer x
    row-19-packet l = sym (shaped ∙ ap (λ (b : Bool). by_rows x false false (b || not (reads_back (spell x) x))) (lt-ltb 65536 (length (spell x)) l))

    -- otherwise reading back decides
    pub row-19-back : length (spell x) ≤ 65536 → back_answer x ≡ sheet_answer x
    row-19-back l = sym (shaped ∙ ap (λ (b : Bool). by_rows x false false (b || not (reads_back (spell x) x))) (le-ltb 65536 (length (spell x)) l) ∙ go (reads_back (spell x) x))
      where
        go : (b : Bool) → by_rows x false false (not b) ≡ writer_answer x (cond b Passed (Failed 19 0))
        go true = refl
        go false = refl

-- ---- row 20

module _ (x lent : List ℕ) where
  -- the answer with the room looked at last
  abbrev roomed : Check → Answer
  roomed c = writer_answer x (or_else c (cond (ltb (length lent) (length (spell x))) (Failed 20 0) Passed))

  -- by definition
  by-room : writing_answer x (length lent) ≡ roomed (first_row (sheet_rows x))
  unfolding writing_answer writer_rows first_row
  by-room = ap (writer_answer x) (first-append (sheet_rows x) (row 20 0 (ltb (length lent) (length (spell x))) ∷ []))

  -- the outcome by the answer
  ends_so : (b : Answer) → writing_answer x (length lent) ≡ b → outcome b (left_by b (spell x) lent) ≡ write x lent
  unfolding write
  ends_so b e = sym (ap (λ (c : Answer). outcome c (left_by c (spell x) lent)) e)

  module _ (a : Answer) (left : List ℕ) (settled : Settled x lent a left) where
    -- the answer and what is left, by the first of rows 17 to 19 that applies
    answer-by : (c : Check) → first_row (sheet_rows x) ≡ c → a ≡ writer_answer x c
    unfolding sheet_answer
    answer-by c h = settled.0 ∙ ap (writer_answer x) h

    left_by_lem : (c : Check) → first_row (sheet_rows x) ≡ c → left ≡ placed (writer_answer x c) (spell x) lent
    unfolding sheet_answer
    left_by_lem c h = settled.1 ∙ ap (λ (b : Check). placed (writer_answer x b) (spell x) lent) h

    writing-by : (c : Check) → first_row (sheet_rows x) ≡ c → writing_answer x (length lent) ≡ roomed c
    writing-by c h = by-room ∙ ap roomed h

    -- one of them applies
    pub write-refused : (number segment field : ℕ) → a ≡ Refused number segment field → outcome a left ≡ write x lent
    unfolding placed left_by
    write-refused number segment field e = go (first_row (sheet_rows x)) refl
      where
        go : (c : Check) → first_row (sheet_rows x) ≡ c → outcome a left ≡ write x lent
        go Passed h = no-refusal number segment field _ _ _ _ (sym e ∙ answer-by Passed h)
        go (Failed m f) h = ap₂ (λ (b : Answer) (o : List ℕ). outcome b o) (answer-by (Failed m f) h) (left_by_lem (Failed m f) h) ∙ ends_so (Refused m 0 0) (writing-by (Failed m f) h)

    -- none of them does: the room decides
    module _ (s d t n : ℕ) (e : a ≡ Accepted s d t n) where
      -- the sheet is accepted by itself
      passed : first_row (sheet_rows x) ≡ Passed
      passed = go (first_row (sheet_rows x)) refl
        where
          go : (c : Check) → first_row (sheet_rows x) ≡ c → first_row (sheet_rows x) ≡ Passed
          go Passed h = h
          go (Failed m f) h = no-refusal m 0 0 s d t n (sym (answer-by (Failed m f) h) ∙ e)

      -- and the length that is answered is the packet's
      packet-length : n ≡ length (spell x)
      packet-length = same_length s d t n _ _ _ _ (sym e ∙ answer-by Passed passed)

      -- row 20 does
      pub write-short : length lent < n → outcome (Refused 20 0 0) left ≡ write x lent
      unfolding placed left_by
      write-short h =
          let short : length lent < length (spell x) = omega (arith, packet-length, h) in
          let left_is : left ≡ lent = left_by_lem Passed passed ∙ rw (lt-leb (length (spell x)) (length lent) short) in
          ap (outcome (Refused 20 0 0)) left_is
          ∙ ends_so (Refused 20 0 0) (writing-by Passed passed ∙ rw (lt-ltb (length lent) (length (spell x)) short))

      -- no row does
      pub write-laid : n ≤ length lent → outcome a left ≡ write x lent
      unfolding placed left_by
      write-laid h =
          let fits : length (spell x) ≤ length lent = omega (arith, packet-length, h) in
          let left_is : left ≡ over (spell x) lent = left_by_lem Passed passed ∙ rw (le-leb (length (spell x)) (length lent) fits) in
          ap₂ (λ (b : Answer) (o : List ℕ). outcome b o) (answer-by Passed passed) left_is
          ∙ ends_so (writer_answer x Passed) (writing-by Passed passed ∙ rw (le-ltb (length lent) (length (spell x)) fits))

-- ---- the packet in the buffer

-- a refusal leaves the buffer
pub placed-refused : (a : Answer) (packet lent : List ℕ) (number segment field : ℕ) → a ≡ Refused number segment field → lent ≡ placed a packet lent
unfolding placed
placed-refused a packet lent number segment field e = rw e

-- so does a packet that does not fit
pub placed-short : (a : Answer) (packet lent : List ℕ) (s d t n : ℕ) → a ≡ Accepted s d t n → length lent < length packet → lent ≡ placed a packet lent
unfolding placed
placed-short a packet lent s d t n e h = rw (e, lt-leb (length packet) (length lent) h)

-- any other is laid over it
pub placed-laid : (a : Answer) (packet lent left : List ℕ) (s d t n : ℕ) → a ≡ Accepted s d t n → length packet ≤ length lent → left ≡ sets lent 0 packet → left ≡ placed a packet lent
unfolding placed
placed-laid a packet lent left s d t n e h p = p ∙ sets_over packet lent h ∙ rw (e, le-leb (length packet) (length lent) h)

-- and it is found again at the front
pub front-back : (p o left : List ℕ) (n : ℕ) → n ≡ length p → length p ≤ length o → left ≡ sets o 0 p → take n left ≡ p
unfolding over
front-back p o left n e h q = ap (take n) (q ∙ sets_over p o h) ∙ take_at p (drop (length p) o) n (sym e)

-- ---- the answer and the buffer together

module _ (x lent : List ℕ) where
  -- a refusal
  pub settled-refused : (a : Answer) (number segment field : ℕ) → a ≡ Refused number segment field → Refused number segment field ≡ sheet_answer x → Settled x lent a lent
  settled-refused a number segment field e h = (e ∙ h, placed-refused (sheet_answer x) (spell x) lent number segment field (sym h))

  -- the packet, spelt elsewhere
  pub settled-placed : (a : Answer) (packet left : List ℕ) → a ≡ sheet_answer x → packet ≡ spell x → left ≡ placed a packet lent → Settled x lent a left
  settled-placed a packet left e p l = (e, l ∙ ap₂ (λ (b : Answer) (q : List ℕ). placed b q lent) e p)
