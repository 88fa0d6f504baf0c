-- Row 19, of the packet that a sheet spells: what its rows and its sheet say of reading back.
-- Assumes nothing.
use Prim.Native.Nat.{ℕ}
use mathlib.Core.Path.{◌≡◌, refl, sym, ap, ap₂, ◌∙◌}
use mathlib.Core.Bool.{Bool, true, false, ◌&&◌, cond, and-false}
use mathlib.Core.List.{List, []}
use lib.ListN.{length}
use Rattle.format.specs.Edition.{as_edition}
use Rattle.format.specs.Check.{Passed, Failed}
use Rattle.format.specs.Answer.{Answer, Accepted, Refused, Outcome, outcome}
use Rattle.format.specs.Reader.{sheet, reading_answer, check}
use Rattle.format.specs.Writer.{spell, is_accepted, is_same, reads_back, writer_answer}
use Rattle.format.proofs.Acceptance.{same-counts, same_length, Acceptable, answer_of, accepted-only}
use Rattle.format.proofs.Sameness.{same_lists, same_not}
use Rattle.segments.specs.InnerWalk.{CheckedPacket}

-- a sheet just as long as is needed says the same of reading back as one as long as x: where the lengths differ, the packet's sheet is not x
back_whole : (packet x : List ℕ) → reads_back packet x ≡ (is_accepted (reading_answer (as_edition 3) packet (length (sheet (as_edition 3) packet))) && is_same (sheet (as_edition 3) packet) x)
unfolding reads_back
back_whole packet x = go (is_same (sheet (as_edition 3) packet) x) refl
  where
    -- by the length that is lent, and by whether the sheet is x
    answer : ℕ → Bool → Bool
    answer n b = is_accepted (reading_answer (as_edition 3) packet n) && b

    not-it : (n : ℕ) → is_same (sheet (as_edition 3) packet) x ≡ false → answer n (is_same (sheet (as_edition 3) packet) x) ≡ false
    not-it n e = ap (answer n) e ∙ and-false (is_accepted (reading_answer (as_edition 3) packet n))

    go : (b : Bool) → is_same (sheet (as_edition 3) packet) x ≡ b → answer (length x) (is_same (sheet (as_edition 3) packet) x) ≡ answer (length (sheet (as_edition 3) packet)) (is_same (sheet (as_edition 3) packet) x)
    go true e = ap (λ (l : List ℕ). answer (length l) (is_same (sheet (as_edition 3) packet) x)) (sym (same_lists (sheet (as_edition 3) packet) x e))
    go false e = not-it (length x) e ∙ sym (not-it (length (sheet (as_edition 3) packet)) e)

-- the answer of the writer where the packet that x spells is short enough
abbrev pub back_answer : List ℕ → Answer
back_answer x = writer_answer x (cond (reads_back (spell x) x) Passed (Failed 19 0))

-- ---- the packet that x spells, and the outcome of its rows

module _ (packet x : List ℕ) (p : packet ≡ spell x) (a : Answer) (told : outcome a [] ≡ check (as_edition 3) packet) where
  -- by itself
  answered : a ≡ reading_answer (as_edition 3) packet (length (sheet (as_edition 3) packet))
  unfolding check
  answered = ap (λ (o : Outcome). o.answer) told

  -- the answer and the sheet decide
  back_by : reads_back (spell x) x ≡ (is_accepted a && is_same (sheet (as_edition 3) packet) x)
  back_by = ap (λ (l : List ℕ). reads_back l x) (sym p) ∙ back_whole packet x ∙ ap (λ (b : Answer). is_accepted b && is_same (sheet (as_edition 3) packet) x) (sym answered)

  -- a packet that does not read back to x is row 19's
  back-fails : (is_accepted a && is_same (sheet (as_edition 3) packet) x) ≡ false → Refused 19 0 0 ≡ back_answer x
  back-fails f = let r : reads_back (spell x) x ≡ false = back_by ∙ f in rw r

  -- the packet is refused
  pub reread-refused : (number segment field : ℕ) → a ≡ Refused number segment field → Refused 19 0 0 ≡ back_answer x
  reread-refused number segment field e = back-fails (ap (λ (b : Answer). is_accepted b && is_same (sheet (as_edition 3) packet) x) e)

  module _ (s d t n : ℕ) (e : a ≡ Accepted s d t n) where
    -- no row applies to it, and the counts are those of its segments
    accepted : Acceptable (as_edition 3) packet (length (sheet (as_edition 3) packet)) × (answer_of (as_edition 3) packet ≡ Accepted s d t n)
    accepted = accepted-only (as_edition 3) packet (length (sheet (as_edition 3) packet)) s d t n (sym answered ∙ e)

    -- the length that is answered is the sheet's
    answered-length : length (sheet (as_edition 3) packet) ≡ n
    answered-length = same_length _ _ _ _ s d t n accepted.1

    -- what comparing its sheet with x takes
    pub comparable : n ≡ length x → CheckedPacket (as_edition 3) packet × (length (sheet (as_edition 3) packet) ≡ length x)
    comparable l = (record { header = accepted.0.header; ending = accepted.0.ending }, answered-length ∙ l)

    -- now the sheet decides
    accepts : (b : Bool) → is_same (sheet (as_edition 3) packet) x ≡ b → (is_accepted a && is_same (sheet (as_edition 3) packet) x) ≡ b
    accepts b f = ap₂ (λ (c : Answer) (q : Bool). is_accepted c && q) e f

    -- it is not x
    pub reread-not : is_same (sheet (as_edition 3) packet) x ≡ false → Refused 19 0 0 ≡ back_answer x
    reread-not f = back-fails (accepts false f)

    -- nor is a sheet of another length
    pub reread-other : (n ≡ length x → ⊥) → Refused 19 0 0 ≡ back_answer x
    reread-other o = reread-not (same_not (sheet (as_edition 3) packet) x (λ q. o (sym answered-length ∙ ap length q)))

    -- it is x: the counts are those of the reading, and the length is the packet's
    pub reread-same : is_same (sheet (as_edition 3) packet) x ≡ true → Accepted s d t (length packet) ≡ back_answer x
    reread-same f =
        let r : reads_back (spell x) x ≡ true = back_by ∙ accepts true f in
        sym (same-counts _ _ _ _ s d t n (length packet) accepted.1) ∙ rw (r, p)
