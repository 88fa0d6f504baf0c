-- The first row that applies decides the answer: a packet has one such row or none, and a reading answers by it.
-- Assumes nothing.
use Prim.Native.Nat.{ℕ, ◌-◌, ◌≤◌, ◌<◌}
use native.Mathlib.Nat.{le_refl}
use native.Mathlib.Numerals.{add-one}
use native.Mathlib.Omega.{arith}
use mathlib.Core.Path.{◌≡◌, refl, sym, ap, ◌∙◌}
use mathlib.Core.Bool.{Bool, true, false, cond}
use mathlib.Core.List.{List, [], ◌∷◌, ◌++◌, append-nil, append_assoc}
use borrow.Author.Tests.{le-leb, lt-leb}
use lib.Dec.{leb}
use lib.ListN.{length, drop, length-drop}
use Rattle.format.specs.declared.Settings.{Settings}
use Rattle.format.specs.declared.Reading.{Reading}
use Rattle.format.specs.Check.{Check, Passed, Failed}
use Rattle.format.specs.Answer.{Answer, Accepted, Refused, outcome, left_by}
use Rattle.format.specs.Packet.{Segment, size_at, segment_at}
use Rattle.octets.specs.Layout.{over}
use Rattle.format.specs.Rows.{first_row, header_rows, segment_rows}
use Rattle.format.specs.Reader.{Parsed, parse, dwells_in, targets_in, reading_of, parsed, set_out_of, sheet, segments_answer, reading_answer, read}
use Rattle.format.proofs.Rows.{segment-passes}
use Rattle.format.proofs.Turns.{parse-good, parse-bad, parse-end}
use Rattle.format.proofs.Acceptance.{no-refusal}
use Rattle.demands.specs.Demands.{accepted}
use Rattle.demands.specs.First.{Passes, none, more, FirstRow, of_header, of_segment, of_end, NoRow}

-- ---- what the walk finds

-- the segments ss before what a walk finds
abbrev preceded_by : List Segment → Parsed → Parsed
preceded_by ss p = record { segments = ss ++ p.segments; ending = p.ending }

-- the walk over `start` finds ss, and then what a walk over `left` finds
record Reaches (r : Reading) (k : ℕ) (start : List ℕ) (ss : List Segment) (left : List ℕ) : Type 0 where
  fuel : ℕ
  room : length left ≤ fuel
  found : parse r k start ≡ preceded_by ss (parse r fuel left)

module _ (r : Reading) (k : ℕ) (start : List ℕ) (enough : length start ≤ k) where
  -- so it is behind the segments to which no row applies
  reaches : {ss : List Segment} {left : List ℕ} → Passes r start ss left → Reaches r k start ss left
  reaches none = record { fuel = k; room = enough; found = refl }
  reaches (more {ss = ss} {left = left} p some e) =
      let w = reaches p in
      let j = w.fuel in
      let rest = parse r (j - 1) (drop (size_at left) left) in
      record {
        fuel = j - 1;
        room = rw length-drop (omega (arith, w.room, (segment-passes r left e).header));
        found = w.found
            ∙ ap (preceded_by ss) (parse-good r j left some (omega (arith, w.room)) e)
            ∙ ap (λ (qs : List Segment). record { segments = qs; ending = rest.ending }) (sym (append_assoc ss (segment_at left ∷ []) rest.segments));
      }

  -- where nothing is left, they are all
  passed-all : {ss : List Segment} → Passes r start ss [] → parse r k start ≡ record { segments = ss; ending = Passed }
  passed-all {ss} p =
      let w = reaches p in
      w.found
      ∙ ap (preceded_by ss) (parse-end r w.fuel [] refl)
      ∙ ap (λ (qs : List Segment). record { segments = qs; ending = Passed }) (append-nil ss)

  -- and a segment to which a row applies ends the walk
  passed-until : {ss : List Segment} {left : List ℕ} {number field : ℕ} → Passes r start ss left → 0 < length left → first_row (segment_rows r left) ≡ Failed number field
      → parse r k start ≡ record { segments = ss; ending = Failed number field }
  passed-until {ss} {left} {number} {field} p some e =
      let w = reaches p in
      w.found
      ∙ ap (preceded_by ss) (parse-bad r w.fuel left some (omega (arith, w.room)) number field e)
      ∙ ap (λ (qs : List Segment). record { segments = qs; ending = Failed number field }) (append-nil ss)

-- ---- what a reading answers

-- the answer by the first row of the header and by what the walk finds, where the sheet has n bytes and so many are lent
abbrev pub answer_by : Check → Parsed → ℕ → ℕ → Answer
answer_by c p n lent = elim c [ Passed ↦ segments_answer p n lent | Failed number field ↦ Refused number 0 field ]

module _ (settings : Settings) (l : List ℕ) (lent : ℕ) where
  -- a reading answers so
  answers : (c : Check) (p : Parsed) → first_row (header_rows settings l) ≡ c → parsed settings l ≡ p
      → reading_answer settings l lent ≡ answer_by c p (length (set_out_of settings l p.segments)) lent
  unfolding reading_answer sheet
  answers c p h e =
      ap (λ (c : Check). answer_by c (parsed settings l) (length (sheet settings l)) lent) h
      ∙ ap (λ (p : Parsed). answer_by c p (length (set_out_of settings l p.segments)) lent) e

  -- the answer where the walk passes all of the segments ss
  abbrev all_passed : List Segment → Bool → Answer
  all_passed ss fits = cond fits (Accepted (length ss) (dwells_in ss) (targets_in ss) (length (set_out_of settings l ss))) (Refused 16 0 0)

  ended : {ss : List Segment} (fits : Bool) → first_row (header_rows settings l) ≡ Passed → Passes (reading_of settings l) (drop 32 l) ss []
      → leb (length (set_out_of settings l ss)) lent ≡ fits → reading_answer settings l lent ≡ all_passed ss fits
  unfolding parsed
  ended {ss} fits h p f =
      answers Passed (record { segments = ss; ending = Passed }) h (passed-all (reading_of settings l) (length (drop 32 l)) (drop 32 l) (le_refl _) p)
      ∙ ap (all_passed ss) f

  -- where there is a first row, it refuses with that one
  pub refuses : {number segment field : ℕ} → FirstRow settings l lent number segment field → reading_answer settings l lent ≡ Refused number segment field
  unfolding parsed
  refuses (of_header {number} {field} e) = answers (Failed number field) (parsed settings l) e refl
  refuses (of_segment {ss} {number} {field} h p some e) =
      answers Passed (record { segments = ss; ending = Failed number field }) h (passed-until (reading_of settings l) (length (drop 32 l)) (drop 32 l) (le_refl _) p some e)
      ∙ ap (λ (n : ℕ). Refused number n field) (add-one (length ss))
  refuses (of_end h p short) = ended false h p (lt-leb _ _ short)

  -- where there is none, it accepts
  pub accepts : {ss : List Segment} → NoRow settings l lent ss → reading_answer settings l lent ≡ Accepted (length ss) (dwells_in ss) (targets_in ss) (length (set_out_of settings l ss))
  accepts n = ended true n.header n.segments (le-leb _ _ n.end)

-- ---- "either .. or"

-- a packet to which no row applies has no first row
pub never_both : (settings : Settings) (l : List ℕ) (lent : ℕ) (ss : List Segment) (number segment field : ℕ)
    → NoRow settings l lent ss → FirstRow settings l lent number segment field → ⊥
never_both settings l lent ss number segment field n f =
    no-refusal number segment field _ _ _ _ (sym (refuses settings l lent f) ∙ accepts settings l lent n)

-- equal refusals name the same row
same-refusal : (number segment field number' segment' field' : ℕ) → Refused number segment field ≡ Refused number' segment' field'
    → (number ≡ number') × (segment ≡ segment') × (field ≡ field')
same-refusal number segment field number' segment' field' e = ((cc), (cc), (cc))

-- so there is one first row
pub one_first_row : (settings : Settings) (l : List ℕ) (lent number segment field number' segment' field' : ℕ)
    → FirstRow settings l lent number segment field → FirstRow settings l lent number' segment' field'
    → (number ≡ number') × (segment ≡ segment') × (field ≡ field')
one_first_row settings l lent number segment field number' segment' field' f g =
    same-refusal number segment field number' segment' field' (sym (refuses settings l lent f) ∙ refuses settings l lent g)

-- a packet to which no row applies is set out with the segments that were passed
pub no-row-accepted : (settings : Settings) (l lent : List ℕ) (ss : List Segment) → NoRow settings l (length lent) ss
    → read settings l lent ≡ accepted (length ss) (dwells_in ss) (targets_in ss) (length (set_out_of settings l ss)) (over (set_out_of settings l ss) lent)
unfolding read left_by sheet parsed
no-row-accepted settings l lent ss n =
    let all = passed-all (reading_of settings l) (length (drop 32 l)) (drop 32 l) (le_refl _) n.segments in
    ap (λ (a : Answer). outcome a (left_by a (sheet settings l) lent)) (accepts settings l (length lent) n)
    ∙ ap (λ (p : Parsed). accepted (length ss) (dwells_in ss) (targets_in ss) (length (set_out_of settings l ss)) (over (set_out_of settings l p.segments) lent)) all
