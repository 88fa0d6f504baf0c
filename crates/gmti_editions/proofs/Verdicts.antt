-- Demand 3 run on a packet: it gives the verdict.
-- Assumes nothing.
use Prim.Native.Nat.{ℕ, ◌≤◌}
use native.Mathlib.Omega.{arith}
use mathlib.Core.Path.{◌≡◌, refl, sym, ap, ◌∙◌}
use mathlib.Core.Bool.{Bool, true, false, cond}
use mathlib.Core.List.{List}
use borrow.Author.Tests.{eq-eqb}
use lib.Dec.{eqb}
use lib.ListN.{length, take}
use Rattle.octets.specs.Layout.{over}
use Rattle.format.specs.declared.Settings.{Settings}
use Rattle.format.specs.Edition.{as_edition}
use Rattle.format.specs.Answer.{Answer, Accepted, Refused, Outcome, outcome}
use Rattle.format.specs.New.{New as NewThing, Nothing, Found, first_new}
use Rattle.format.specs.Packet.{version}
use Rattle.format.specs.Reader.{parsed, reading_answer, read}
use Rattle.format.proofs.Acceptance.{same_length, read_only}
use Rattle.format.proofs.Sameness.{same-itself}
use Rattle.segments.specs.InnerWalk.{CheckedPacket}
use Rattle.demands.specs.Demands.{accepted, BothRead, ReadAlike, OlderReading}
use Rattle.demands.proofs.Written.{over-front, demand-2}
use Rattle.demands.proofs.Editions.{read-sheet, demand-3}
use Rattle.demands.proofs.Version1.{version_1}
use Rattle.gmti_editions.specs.declared.Verdict.{Verdict}
use Rattle.gmti_editions.specs.declared.Verdict.TheVariants.{NotRead, Alike}
use Rattle.gmti_editions.specs.Verdict.{is_older_sheet, filled_for, is_returned, is_alike, alike_verdict, new_verdict, older_verdict, new_in, verdict, verdict_for, Version1Read, Demanded}
use Rattle.gmti_editions.proofs.Sheets.{withheld-when}

-- a packet written into the buffer with its counts is returned
returned : (l buffer : List ℕ) (s d t : ℕ) → is_returned l s d t (accepted s d t (length l) (over l buffer)) ≡ true
unfolding is_returned
returned l buffer s d t = rw (eq-eqb s s refl, eq-eqb d d refl, eq-eqb t t refl, over-front l buffer, same-itself l)

-- an accepted reading's sheet is as long as it answers
length-left : (settings : Settings) (l lent : List ℕ) (s d t n : ℕ) → (read settings l lent).answer ≡ Accepted s d t n → length (take n (read settings l lent).left) ≡ n
length-left settings l lent s d t n a = ap length (read-sheet settings l lent s d t n a) ∙ same_length _ _ _ _ s d t n (read_only settings l lent s d t n a).1

module _ (l lent1 lent3 buffer : List ℕ) (room : length l ≤ length buffer) (s d t n : ℕ) (both : BothRead l lent1 lent3 s d t n) where
  -- what the readings leave
  abbrev left1 : List ℕ
  left1 = (read (as_edition 1) l lent1).left

  abbrev left3 : List ℕ
  left3 = (read (as_edition 3) l lent3).left

  is-version-3 : eqb (version l) 3 ≡ true
  is-version-3 = eq-eqb (version l) 3 both.version_3

  -- where both readings are alike, so are the sheets, and the filled in one is written back
  is-alike : ReadAlike l lent1 lent3 s d t n → is_alike l s d t (take n left1) (take n left3) buffer ≡ true
  unfolding is_alike is_older_sheet filled_for
  is-alike a =
      let same = length-left (as_edition 1) l lent1 s d t n a.same_answer ∙ sym (length-left (as_edition 3) l lent3 s d t n both.edition_3) in
      rw (is-version-3, withheld-when (take n left1) (take n left3) same a.every_byte, a.written_back buffer room) (returned l buffer s d t)

  -- the verdict by what is new
  older-due : (new : NewThing) → OlderReading l lent1 lent3 s d t n new → older_verdict l s d t n new (read (as_edition 1) l lent1).answer left1 left3 buffer ≡ verdict_for new
  unfolding older_verdict alike_verdict new_verdict verdict_for
  older-due Nothing a =
      ap (λ (x : Answer). alike_verdict l s d t n x left1 left3 buffer) a.same_answer
      ∙ rw (eq-eqb s s refl, eq-eqb d d refl, eq-eqb t t refl, eq-eqb n n refl, is-alike a)
  older-due (Found segment field) a =
      ap (λ (o : Outcome). new_verdict segment field o.answer) a
      ∙ rw (eq-eqb segment segment refl, eq-eqb field field refl)

  -- the demand itself
  older-reading : OlderReading l lent1 lent3 s d t n (first_new 1 (parsed (as_edition 3) l).segments)
  older-reading = demand-3 l lent1 lent3 s d t n both

  -- the verdict of the definitions
  verdict-due : verdict l lent1 lent3 buffer ≡ verdict_for (first_new 1 (parsed (as_edition 3) l).segments)
  unfolding verdict new_in
  verdict-due =
      let older : NewThing → Verdict = λ new. older_verdict l s d t n new (read (as_edition 1) l lent1).answer left1 left3 buffer in
      ap (λ (a : Answer). elim a [
        | Refused number segment field ↦ NotRead
        | Accepted s d t n ↦ older_verdict l s d t n (new_in l) (read (as_edition 1) l lent1).answer left1 left3 buffer
      ]) both.edition_3
      ∙ ap (λ (b : Bool). older (cond b (first_new 1 (parsed (as_edition 3) l).segments) Nothing)) is-version-3
      ∙ older-due _ older-reading

-- ---- version 1

module _ (l lent1 lent3 buffer : List ℕ) (room : length l ≤ length buffer) (s d t n : ℕ) (one : Version1Read l lent1 lent3 s d t n) where
  -- what the readings leave
  abbrev one1 : List ℕ
  one1 = take n (read (as_edition 1) l lent1).left

  abbrev one3 : List ℕ
  one3 = take n (read (as_edition 3) l lent3).left

  not-version-3 : eqb (version l) 3 ≡ false
  not-version-3 = rw one.version_1

  -- both readings of it, lent the same, have the same outcome
  outcomes-same : read (as_edition 1) l lent1 ≡ read (as_edition 3) l lent1
  outcomes-same = (version_1 l lent1 one.version_1).0

  -- and what is lent shows in the answer by its length alone
  lent-1 : (read (as_edition 3) l lent1).answer ≡ Accepted s d t n
  unfolding read
  lent-1 = ap (reading_answer (as_edition 3) l) one.same_length ∙ one.edition_3

  answer-1 : (read (as_edition 1) l lent1).answer ≡ Accepted s d t n
  answer-1 = ap (λ (o : Outcome). o.answer) outcomes-same ∙ lent-1

  sheets-same : one1 ≡ one3
  sheets-same =
      ap (λ (o : Outcome). take n o.left) outcomes-same
      ∙ read-sheet (as_edition 3) l lent1 s d t n lent-1
      ∙ sym (read-sheet (as_edition 3) l lent3 s d t n one.edition_3)

  is-alike-1 : is_alike l s d t one1 one3 buffer ≡ true
  unfolding is_alike is_older_sheet filled_for
  is-alike-1 =
      rw (not-version-3, sheets-same, same-itself one3, demand-2.sheets_are_written l lent3 buffer s d t n one.are_bytes one.edition_3 room) (returned l buffer s d t)

  -- the verdict of the definitions
  verdict-1 : verdict l lent1 lent3 buffer ≡ Alike
  unfolding verdict new_in older_verdict alike_verdict
  verdict-1 =
      let left1 = (read (as_edition 1) l lent1).left in
      let left3 = (read (as_edition 3) l lent3).left in
      ap (λ (a : Answer). elim a [
        | Refused number segment field ↦ NotRead
        | Accepted s d t n ↦ older_verdict l s d t n (new_in l) (read (as_edition 1) l lent1).answer left1 left3 buffer
      ]) one.edition_3
      ∙ ap (λ (b : Bool). older_verdict l s d t n (cond b (first_new 1 (parsed (as_edition 3) l).segments) Nothing) (read (as_edition 1) l lent1).answer left1 left3 buffer) not-version-3
      ∙ ap (λ (x : Answer). alike_verdict l s d t n x left1 left3 buffer) answer-1
      ∙ rw (eq-eqb s s refl, eq-eqb d d refl, eq-eqb t t refl, eq-eqb n n refl, is-alike-1)

-- ---- what a run of both readings has to show

-- an accepted reading says that no row applies, and its sheet lies within the lent one
pub record Within (settings : Settings) (l lent : List ℕ) (n : ℕ) : Type 0 where
  pub checked : CheckedPacket settings l
  pub fits : n ≤ length lent

pub read-within : (settings : Settings) (l lent left : List ℕ) (s d t n : ℕ) → outcome (Accepted s d t n) left ≡ read settings l lent → Within settings l lent n
read-within settings l lent left s d t n e =
    let a = read_only settings l lent s d t n (sym (ap (λ (o : Outcome). o.answer) e)) in
    record { checked = record { header = a.0.header; ending = a.0.ending }; fits = omega (arith, a.0.fits, same_length _ _ _ _ s d t n a.1) }

-- the verdict, both answers, and that the demand gives it
pub judged : (l lent1 lent3 buffer kept1 kept3 : List ℕ) (a1 a3 : Answer) (v : Verdict)
    → outcome a3 kept3 ≡ read (as_edition 3) l lent3 → outcome a1 kept1 ≡ read (as_edition 1) l lent1 → v ≡ verdict l lent1 lent3 buffer
    → (v ≡ verdict l lent1 lent3 buffer)
    × (((a3 ≡ (read (as_edition 3) l lent3).answer) × (a1 ≡ (read (as_edition 1) l lent1).answer))
    × (((s d t n : ℕ) → BothRead l lent1 lent3 s d t n → length l ≤ length buffer → Demanded l lent1 lent3 s d t n v)
    × ((s d t n : ℕ) → Version1Read l lent1 lent3 s d t n → length l ≤ length buffer → v ≡ Alike)))
judged l lent1 lent3 buffer kept1 kept3 a1 a3 v e3 e1 is = (
  is,
  (
    (ap (λ (o : Outcome). o.answer) e3, ap (λ (o : Outcome). o.answer) e1),
    (
      λ s d t n both room. record { reading = older-reading l lent1 lent3 buffer room s d t n both; verdict_is = is ∙ verdict-due l lent1 lent3 buffer room s d t n both },
      λ s d t n one room. is ∙ verdict-1 l lent1 lent3 buffer room s d t n one,
    ),
  ),
)
