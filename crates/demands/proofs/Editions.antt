-- Demand 3, of the definitions: a version 3 packet that the Edition 3 reading accepts, read as Edition 1.
-- Assumes nothing.
use Prim.Native.Nat.{ℕ, ◌+◌, ◌≤◌}
use native.Mathlib.Omega.{arith}
use mathlib.Core.Path.{◌≡◌, refl, sym, ap, ap₂, ◌∙◌}
use mathlib.Core.Bool.{true, cond}
use mathlib.Core.List.{List, ◌∷◌, ◌++◌, append-nil}
use lib.ListN.{length, get_or, take, drop, length-drop, drop_of_length-le}
use lib.Seq.{take_at}
use Rattle.octets.specs.Layout.{over}
use Rattle.format.specs.declared.Settings.{Settings}
use Rattle.format.specs.Check.{Check, Passed, Failed}
use Rattle.format.specs.Answer.{Answer, Accepted, Refused, outcome, left_by}
use Rattle.format.specs.Packet.{version}
use Rattle.format.specs.Edition.{as_edition, is_older}
use Rattle.format.specs.Sheet.{header_record, packet_records, record_bytes}
use Rattle.format.specs.Rows.{first_row, header_rows}
use Rattle.format.specs.New.{New, Nothing, Found, first_new}
use Rattle.format.specs.Reader.{Parsed, parsed, reading_of, sheet, reading_answer, read}
use Rattle.format.specs.Writer.{Listed, listed, write}
use Rattle.format.proofs.Records.{listed-sheet}
use Rattle.demands.specs.Filled.{filled_records, filled_in}
use Rattle.demands.specs.Places.{is_withheld_at}
use Rattle.demands.specs.Demands.{ReadAlike, OlderReading, Demand3}
use Rattle.format.proofs.Segments.{parse-sound}
use Rattle.format.proofs.Acceptance.{Acceptable, same_length, header-sized, read_only}
use Rattle.demands.proofs.First.{answer_by}
use Rattle.demands.proofs.OlderWalk.{Older, older-walk}
use Rattle.demands.proofs.Withheld.{withheld_records, withheld_sheet}
use Rattle.demands.proofs.Alike.{AllAlike, next, alike-withheld, alike-filled, alike-length}
use Rattle.demands.proofs.Places.{withheld-at}
use Rattle.demands.proofs.OlderRecords.{header-alike, packet-alike}
use Rattle.demands.proofs.Written.{newest, demand-2}

-- of the lent sheet, so many bytes as the answer says are the sheet
pub read-sheet : (settings : Settings) (l lent : List ℕ) (s d t n : ℕ) → (read settings l lent).answer ≡ Accepted s d t n → take n (read settings l lent).left ≡ sheet settings l
unfolding read left_by over
read-sheet settings l lent s d t n a =
    rw a (take_at (sheet settings l) (drop (length (sheet settings l)) lent) n (same_length _ _ _ _ s d t n (read_only settings l lent s d t n a).1))

-- the header's rows are the same in both readings
header-same : (l : List ℕ) → first_row (header_rows (as_edition 1) l) ≡ first_row (header_rows (as_edition 3) l)
unfolding header_rows first_row
header-same l = refl

-- so the answers are the same where both walks are, and the sheets are as long
pub answers-same : (l : List ℕ) (m : ℕ) → parsed (as_edition 1) l ≡ parsed (as_edition 3) l → length (sheet (as_edition 1) l) ≡ length (sheet (as_edition 3) l)
    → reading_answer (as_edition 1) l m ≡ reading_answer (as_edition 3) l m
unfolding reading_answer
answers-same l m same as_long =
    ap (λ (c : Check). answer_by c (parsed (as_edition 1) l) (length (sheet (as_edition 1) l)) m) (header-same l)
    ∙ ap₂ (λ (p : Parsed) (n : ℕ). answer_by (first_row (header_rows (as_edition 3) l)) p n m) same as_long

module _ (l : List ℕ) (version_3 : version l ≡ 3) where
  -- the Edition 1 reading of a version 3 packet is the older one
  older : is_older (reading_of (as_edition 1) l) ≡ true
  unfolding is_older
  older = rw version_3

  -- the Edition 1 walk over the packet goes by what is new in it
  walks : (parsed (as_edition 3) l).ending ≡ Passed → Older 1 (parsed (as_edition 1) l) (parsed (as_edition 3) l) (first_new 1 (parsed (as_edition 3) l).segments)
  unfolding parsed
  walks e = older-walk (reading_of (as_edition 1) l) (reading_of (as_edition 3) l) older refl (length (drop 32 l)) 1 (drop 32 l) e

  -- where nothing is new, both walks are the same
  module _ (same : parsed (as_edition 1) l ≡ parsed (as_edition 3) l) (short : length (drop 32 l) ≤ 65536) where
    -- then the records of the two sheets are alike
    sheets-alike : AllAlike (header_record l ∷ packet_records (reading_of (as_edition 1) l) (parsed (as_edition 1) l).segments) (header_record l ∷ packet_records (reading_of (as_edition 3) l) (parsed (as_edition 3) l).segments)
    unfolding parsed
    sheets-alike = rw same (next (header-alike l) (packet-alike (reading_of (as_edition 1) l) (reading_of (as_edition 3) l) older (newest l) refl (parsed (as_edition 3) l).segments (parse-sound (reading_of (as_edition 3) l) (length (drop 32 l)) (drop 32 l) short)))

    -- so the sheets are as long
    sheets-length : length (sheet (as_edition 1) l) ≡ length (sheet (as_edition 3) l)
    unfolding sheet
    sheets-length = alike-length sheets-alike

    -- the older sheet is the newer one in every byte but those of D27, J26 and their marks, which are zero
    pub same-but : sheet (as_edition 1) l ≡ withheld_sheet (sheet (as_edition 3) l)
    unfolding withheld_sheet sheet
    same-but = ap record_bytes (alike-withheld sheets-alike) ∙ ap (λ (x : Listed). record_bytes (withheld_records x.records)) (sym (listed-sheet (as_edition 3) l))

    -- that is, place by place
    sheet-bytes : (i : ℕ) → get_or (sheet (as_edition 1) l) i 0 ≡ cond (is_withheld_at (listed (sheet (as_edition 3) l)).records i) 0 (get_or (sheet (as_edition 3) l) i 0)
    unfolding sheet
    sheet-bytes i = ap (λ (x : List ℕ). get_or x i 0) same-but ∙ withheld-at (sheet (as_edition 3) l) (ap (λ (x : Listed). record_bytes x.records) (listed-sheet (as_edition 3) l)) i

    -- and filled in it is the newer one
    sheet-filled : filled_in (sheet (as_edition 1) l) (sheet (as_edition 3) l) ≡ sheet (as_edition 3) l
    unfolding filled_in over sheet
    sheet-filled =
        let x1 = sheet (as_edition 1) l in
        let x3 = sheet (as_edition 3) l in
        let filled : record_bytes (filled_records (listed x1).records (listed x3).records) ≡ x3 =
        ap₂ (λ (x y : Listed). record_bytes (filled_records x.records y.records)) (listed-sheet (as_edition 1) l) (listed-sheet (as_edition 3) l) ∙ ap record_bytes (alike-filled sheets-alike) in
        ap (λ (x : List ℕ). over x x1) filled
        ∙ ap (λ (x : List ℕ). x3 ++ x) (drop_of_length-le x1 {i = length x3} (omega (arith, sheets-length)))
        ∙ append-nil x3

  -- where something new is found, the answer says where
  answer-new : (m segment field : ℕ) → first_row (header_rows (as_edition 3) l) ≡ Passed → (parsed (as_edition 1) l).ending ≡ Failed 15 field → segment ≡ 1 + length (parsed (as_edition 1) l).segments → reading_answer (as_edition 1) l m ≡ Refused 15 segment field
  unfolding reading_answer
  answer-new m segment field h e s =
      let number : length (parsed (as_edition 1) l).segments + 1 ≡ segment = omega arith in
      rw (header-same l, h, e, number, reading_answer)

-- demand 3, of the definitions
pub demand-3 : Demand3
unfolding read left_by
demand-3 l lent1 lent3 s d t n both = go (first_new 1 (parsed (as_edition 3) l).segments) (walks l v known.ending)
  where
    v : version l ≡ 3
    v = both.version_3

    a3 : (read (as_edition 3) l lent3).answer ≡ Accepted s d t n
    a3 = both.edition_3

    known : Acceptable (as_edition 3) l (length lent3)
    known = (read_only (as_edition 3) l lent3 s d t n a3).0

    short : length (drop 32 l) ≤ 65536
    short = rw length-drop (omega (arith, (header-sized (as_edition 3) l known.header).short))

    alike : parsed (as_edition 1) l ≡ parsed (as_edition 3) l → ReadAlike l lent1 lent3 s d t n
    alike same =
        let a1 : (read (as_edition 1) l lent1).answer ≡ Accepted s d t n = answers-same l (length lent1) same (sheets-length l v same short) ∙ ap (reading_answer (as_edition 3) l) both.same_length ∙ a3 in
        let left1 = read-sheet (as_edition 1) l lent1 s d t n a1 in
        let left3 = read-sheet (as_edition 3) l lent3 s d t n a3 in
        record {
          same_answer = a1;
          every_byte = λ i. rw (left1, left3) (sheet-bytes l v same short i);
          written_back = λ buffer h.
              ap (λ (x : List ℕ). write x buffer) (ap₂ filled_in left1 left3 ∙ sheet-filled l v same short ∙ sym left3)
              ∙ demand-2.sheets_are_written l lent3 buffer s d t n both.are_bytes a3 h;
        }

    go : (new : New) → Older 1 (parsed (as_edition 1) l) (parsed (as_edition 3) l) new → OlderReading l lent1 lent3 s d t n new
    go Nothing same = alike same
    go (Found segment field) w =
        ap (λ (a : Answer). outcome a (left_by a (sheet (as_edition 1) l) lent1))
        (answer-new l v (length lent1) segment field known.header w.0 w.1)
