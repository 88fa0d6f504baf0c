-- Demand 3 run on one packet: what both readings and the writer make of it. The quoted words are the demand's, and of version 1
-- document 01's.
-- Assumes nothing.
use Rattle.std.specs.Prelude.{ℕ, suc, ◌≡◌, Bool, false, ◌&&◌, cond, List, [], ◌∷◌, eqb, length, take}
use Rattle.octets.specs.Octets.{Bytes}
use Rattle.format.specs.Edition.{as_edition}
use Rattle.format.specs.Answer.{Answer, Accepted, Refused, Outcome}
use Rattle.format.specs.New.{New as NewThing, Nothing, Found, first_new}
use Rattle.format.specs.Packet.{version}
use Rattle.format.specs.Reader.{parsed, read}
use Rattle.format.specs.Writer.{listed, is_same, write}
use Rattle.demands.specs.Filled.{filled_in}
use Rattle.demands.specs.Places.{is_withheld_at}
use Rattle.demands.specs.Demands.{OlderReading}
use Rattle.gmti_editions.specs.declared.Verdict.{Verdict}
use Rattle.gmti_editions.specs.declared.Verdict.TheVariants.{NotRead, New, Alike, Broken}

-- ---- both sheets

-- the bytes x, with zero at each place where f holds
unfoldable pub zero_where : (ℕ → Bool) → List ℕ → List ℕ
zero_where f [] = []
zero_where f (b ∷ x) = cond (f 0) 0 b ∷ zero_where (λ i. f (suc i)) x

-- "Its sheet equals the Edition 3 sheet in every byte but those of fields D27 and J26 and their marks, which are zero"
unfoldable pub is_withheld_sheet : List ℕ → List ℕ → Bool
is_withheld_sheet older newer = is_same (zero_where (is_withheld_at (listed newer).records) newer) older

-- so of the sheets of a version 3 packet l. "Version 1 packets read alike under both readings, D27 and J26 shown."
unfoldable pub is_older_sheet : List ℕ → List ℕ → List ℕ → Bool
is_older_sheet l older newer = cond (eqb (version l) 3) (is_withheld_sheet older newer) (is_same newer older)

-- "returns the same packet with the same counts"
unfoldable pub is_returned : List ℕ → ℕ → ℕ → ℕ → Outcome → Bool
is_returned l s d t w =
    elim w.answer [
      | Refused number segment field ↦ false
      | Accepted s2 d2 t2 n ↦ eqb s s2 && eqb d d2 && eqb t t2 && is_same (take n w.left) l
    ]

-- "the sheet so filled in"; that of a version 1 packet shows D27 and J26 as it is
unfoldable pub filled_for : List ℕ → List ℕ → List ℕ → List ℕ
filled_for l older newer = cond (eqb (version l) 3) (filled_in older newer) older

-- the older sheet is the one that is due, and the writer is "given the sheet so filled in". Both sheets end at the length that the readings
-- answer
unfoldable pub is_alike : List ℕ → ℕ → ℕ → ℕ → List ℕ → List ℕ → List ℕ → Bool
is_alike l s d t older newer buffer = is_older_sheet l older newer && is_returned l s d t (write (filled_for l older newer) buffer)

-- ---- the Edition 1 reading's answer, where the Edition 3 reading answers s d t n

-- "accepts exactly when the packet holds none of the four things". Where it holds none: "the same counts and length", and alike sheets
unfoldable pub alike_verdict : List ℕ → ℕ → ℕ → ℕ → ℕ → Answer → List ℕ → List ℕ → List ℕ → Verdict
alike_verdict l s d t n (Refused number segment field) older newer buffer = Broken
alike_verdict l s d t n (Accepted s1 d1 t1 n1) older newer buffer =
    cond (eqb s s1 && eqb d d1 && eqb t t1 && eqb n n1 && is_alike l s d t (take n older) (take n newer) buffer) Alike Broken

-- "If the packet does hold something new, the Edition 1 reading refuses with 15 and names the first segment that holds any, and the field
-- that document 01 gives for it."
unfoldable pub new_verdict : ℕ → ℕ → Answer → Verdict
new_verdict segment field (Accepted s1 d1 t1 n1) = Broken
new_verdict segment field (Refused number segment1 field1) = cond (eqb number 15 && eqb segment1 segment && eqb field1 field) New Broken

-- by the first new thing in the packet
unfoldable pub older_verdict : List ℕ → ℕ → ℕ → ℕ → ℕ → NewThing → Answer → List ℕ → List ℕ → List ℕ → Verdict
older_verdict l s d t n Nothing a older newer buffer = alike_verdict l s d t n a older newer buffer
older_verdict l s d t n (Found segment field) a older newer buffer = new_verdict segment field a

-- ---- the packet

-- the first thing in it that is new to the Edition 1 reading. "Version 1 packets read alike under both readings", whatever they hold
unfoldable pub new_in : List ℕ → NewThing
new_in l = cond (eqb (version l) 3) (first_new 1 (parsed (as_edition 3) l).segments) Nothing

-- "For every version 3 packet that the Edition 3 reading accepts": NotRead where it does not
unfoldable pub verdict : List ℕ → List ℕ → List ℕ → List ℕ → Verdict
verdict l lent1 lent3 buffer =
    elim (read (as_edition 3) l lent3).answer [
      | Refused number segment field ↦ NotRead
      | Accepted s d t n ↦
          older_verdict l s d t n (new_in l) (read (as_edition 1) l lent1).answer (read (as_edition 1) l lent1).left (read (as_edition 3) l lent3).left buffer
    ]

-- ---- the demand

-- the verdict that it has for a version 3 packet, by the first new thing in it
unfoldable pub verdict_for : NewThing → Verdict
verdict_for Nothing = Alike
verdict_for (Found segment field) = New

-- "Version 1 packets": the Edition 3 reading accepts one, and both readings are lent as much
pub record Version1Read (l lent1 lent3 : List ℕ) (s d t n : ℕ) : Type 0 where
  pub are_bytes : Bytes l
  pub version_1 : version l ≡ 1
  pub same_length : length lent1 ≡ length lent3
  pub edition_3 : (read (as_edition 3) l lent3).answer ≡ Accepted s d t n

-- the demand holds of the packet l, read as both editions, and the verdict v says so
pub record Demanded (l lent1 lent3 : List ℕ) (s d t n : ℕ) (v : Verdict) : Type 0 where
  pub reading : OlderReading l lent1 lent3 s d t n (first_new 1 (parsed (as_edition 3) l).segments)
  pub verdict_is : v ≡ verdict_for (first_new 1 (parsed (as_edition 3) l).segments)
