-- Demand 1, of the definitions: whatever the bytes, the edition and the lent memory, a call ends as document 01 says.
-- Assumes nothing.
use Prim.Native.Nat.{ℕ}
use native.Mathlib.Nat.{le_refl}
use native.Mathlib.Numerals.{add-one}
use mathlib.Core.Path.{◌≡◌, refl, sym}
use mathlib.Core.Bool.{Bool, true, false, cond, true≢false}
use mathlib.Core.List.{List, []}
use borrow.Author.Tests.{leb-true, leb-false}
use lib.Dec.{leb}
use lib.ListN.{length, drop}
use Rattle.format.specs.declared.Settings.{Settings}
use Rattle.format.specs.Check.{Check, Passed, Failed}
use Rattle.format.specs.Answer.{Answer, Accepted, Refused, Outcome, outcome, left_by}
use Rattle.format.specs.Packet.{Segment}
use Rattle.format.specs.Rows.{first_row, header_rows}
use Rattle.format.specs.Reader.{parsed, reading_of, dwells_in, targets_in, sheet, segments_answer, reading_answer, read}
use Rattle.format.specs.Writer.{is_accepted, writer_rows, spell, writer_answer, writing_answer, write}
use Rattle.demands.specs.First.{none, of_header, of_segment, of_end, NoRow}
use Rattle.demands.specs.Demands.{Reads, Writes, Demand1}
use Rattle.demands.proofs.Walk.{Stopped, walk}
use Rattle.demands.proofs.First.{answer_by, never_both, one_first_row, no-row-accepted}

module _ (settings : Settings) (l lent : List ℕ) where
  -- the outcome of a reading that answers a
  abbrev answered : Answer → Outcome
  answered a = outcome a (left_by a (sheet settings l) lent)

  -- the segments that the walk finds
  abbrev found : List Segment
  found = (parsed settings l).segments

  -- where it stops
  stopped : Stopped (reading_of settings l) (drop 32 l) found (parsed settings l).ending
  unfolding parsed
  stopped = walk (reading_of settings l) (drop 32 l) (length (drop 32 l)) [] (drop 32 l) (le_refl (length (drop 32 l))) none

  -- the outcome by how it ends, where no row applies to the header
  segments-read : first_row (header_rows settings l) ≡ Passed → (c : Check) → Stopped (reading_of settings l) (drop 32 l) found c
      → Reads settings l lent (answered (segments_answer (record { segments = found; ending = c }) (length (sheet settings l)) (length lent)))
  unfolding left_by sheet
  segments-read h Passed s = fits (leb (length (sheet settings l)) (length lent)) refl
    where
      fits : (b : Bool) → leb (length (sheet settings l)) (length lent) ≡ b
          → Reads settings l lent (answered (cond b (Accepted (length found) (dwells_in found) (targets_in found) (length (sheet settings l))) (Refused 16 0 0)))
      fits true t = Reads.set_out {ss = found} (record { header = h; segments = s; end = leb-true _ _ t })
      fits false t = Reads.turned_down (of_end h s (leb-false _ _ t))
  segments-read h (Failed number field) s =
      rw add-one (Reads.turned_down (of_segment h s.1 s.2 s.3))

  -- and by the header's first row
  pub reads : Reads settings l lent (read settings l lent)
  unfolding read reading_answer left_by
  reads = go (first_row (header_rows settings l)) refl
    where
      go : (c : Check) → first_row (header_rows settings l) ≡ c
          → Reads settings l lent (answered (answer_by c (parsed settings l) (length (sheet settings l)) (length lent)))
      go Passed e = segments-read e (parsed settings l).ending stopped
      go (Failed number field) e = Reads.turned_down (of_header e)

  -- an accepted packet is one to which no row applies
  accepted-no-row : is_accepted (read settings l lent).answer ≡ true → (ss : List Segment) × NoRow settings l (length lent) ss
  accepted-no-row = go reads
    where
      go : {o : Outcome} → Reads settings l lent o → is_accepted o.answer ≡ true → (ss : List Segment) × NoRow settings l (length lent) ss
      go (Reads.set_out {ss} n) e = (ss, n)
      go (Reads.turned_down f) e = absurd (true≢false (sym e))

-- the writer answers by the first of its rows
pub writes : (x lent : List ℕ) → Writes x lent (write x lent)
unfolding write writing_answer left_by
writes x lent = go (first_row (writer_rows x (length lent))) refl
  where
    answered : Answer → Outcome
    answered a = outcome a (left_by a (spell x) lent)

    go : (c : Check) → first_row (writer_rows x (length lent)) ≡ c
        → Writes x lent (answered (writer_answer x c))
    go Passed e = Writes.set_out e
    go (Failed number field) e = Writes.turned_down e

pub demand-1 : Demand1
demand-1 = record {
  reading = reads;
  writing = writes;
  never_both = never_both;
  one_first_row = one_first_row;
  accepted_then_no_row = accepted-no-row;
  no_row_then_accepted = no-row-accepted;
}
