-- The three demands, as statements about the definitions that the public functions' contracts cite: `read edition packet lent` and
-- `write sheet lent` are the answer and what the lent memory holds afterwards (crate format, specs/Reader.antt and specs/Writer.antt).
-- The quoted words are the demands'.
-- Assumes nothing.
use Rattle.std.specs.Prelude.{ℕ, ◌*◌, ◌≤◌, ◌≡◌, true, false, cond, List, length, get_or, take}
use Rattle.std.proofs.lemmas.List.Edits.{sets}
use Rattle.octets.specs.Octets.{Bytes}
use Rattle.octets.specs.Layout.{over}
use Rattle.distinct.specs.Distinct.{is_among, without_repeats, has_repeats}
use Rattle.format.specs.Edition.{as_edition, mark}
use Rattle.format.specs.declared.Settings.{Settings}
use Rattle.format.specs.Check.{Passed, Failed}
use Rattle.format.specs.Answer.{Accepted, Refused, Outcome, outcome}
use Rattle.format.specs.Packet.{version, Segment}
use Rattle.format.specs.Dwell.{Pair, is_same_pair}
use Rattle.format.specs.Sheet.{Record, piece_count, pieces_of, record_bytes}
use Rattle.format.specs.Lengths.{record_length}
use Rattle.format.specs.Rows.{is_naming, first_row}
use Rattle.format.specs.New.{New, Nothing, Found, first_new}
use Rattle.format.specs.Reader.{dwells_in, targets_in, reading_of, parsed, set_out_of, sheet, read}
use Rattle.format.specs.Bound.{formula, sheet_bound, EnoughFor}
use Rattle.format.specs.Writer.{listed, is_accepted, sheet_rows, writer_rows, spell, writer_answer, write}
use Rattle.demands.specs.First.{FirstRow, NoRow}
use Rattle.demands.specs.Filled.{filled_in}
use Rattle.demands.specs.Places.{is_withheld_at}
use Rattle.demands.specs.Counts.{count, is_kind, is_leader, pairs_on}
use Rattle.demands.specs.Names.{names_are_lines}
use Rattle.demands.specs.Pieces.{Carry}

-- an accepted call, and what it leaves
abbrev pub accepted : ℕ → ℕ → ℕ → ℕ → List ℕ → Outcome
accepted segments dwells targets n left = outcome (Accepted segments dwells targets n) left

-- a refused call, and what it leaves
abbrev pub refused : ℕ → ℕ → ℕ → List ℕ → Outcome
refused number segment field left = outcome (Refused number segment field) left

-- ---- Demand 1. A packet "is either set out on a sheet, when no row of document 01 applies, or turned down with the number, segment
-- and field of the first row that does. A packet turned down leaves the lent sheet as it was."
pub data Reads (settings : Settings) (l lent : List ℕ) : Outcome → Type 0 where
  set_out : {ss : List Segment} → NoRow settings l (length lent) ss
      → Reads settings l lent (accepted (length ss) (dwells_in ss) (targets_in ss) (length (set_out_of settings l ss)) (over (set_out_of settings l ss) lent))
  turned_down : {number segment field : ℕ} → FirstRow settings l (length lent) number segment field
      → Reads settings l lent (refused number segment field lent)

-- "A sheet handed in for writing is treated likewise."
pub data Writes (x lent : List ℕ) : Outcome → Type 0 where
  set_out : first_row (writer_rows x (length lent)) ≡ Passed
      → Writes x lent (outcome (writer_answer x Passed) (over (spell x) lent))
  turned_down : {number field : ℕ} → first_row (writer_rows x (length lent)) ≡ Failed number field
      → Writes x lent (refused number 0 0 lent)

-- "a run of bytes of any length and content, read as Edition 1 or as Edition 3", or as any other number. "Neither asks for a checked input."
-- "either .. or": never both, and only one row is the first. So a packet is accepted exactly when no row applies to it.
pub record Demand1 : Type 0 where
  pub reading : (settings : Settings) (l lent : List ℕ) → Reads settings l lent (read settings l lent)
  pub writing : (x lent : List ℕ) → Writes x lent (write x lent)
  pub never_both : (settings : Settings) (l : List ℕ) (lent : ℕ) (ss : List Segment) (number segment field : ℕ)
      → NoRow settings l lent ss → FirstRow settings l lent number segment field → ⊥
  pub one_first_row : (settings : Settings) (l : List ℕ) (lent number segment field number' segment' field' : ℕ)
      → FirstRow settings l lent number segment field → FirstRow settings l lent number' segment' field'
      → (number ≡ number') × (segment ≡ segment') × (field ≡ field')
  pub accepted_then_no_row : (settings : Settings) (l lent : List ℕ) → is_accepted (read settings l lent).answer ≡ true
      → (ss : List Segment) × NoRow settings l (length lent) ss
  pub no_row_then_accepted : (settings : Settings) (l lent : List ℕ) (ss : List Segment) → NoRow settings l (length lent) ss
      → read settings l lent
      ≡ accepted (length ss) (dwells_in ss) (targets_in ss) (length (set_out_of settings l ss)) (over (set_out_of settings l ss) lent)

-- ---- Demand 2. "The sheet is the one that the STANAG 4607 tables, as condensed in document 01, give for those bytes": that is the
-- definition `sheet`, and the counts are the sheet's. "Given a packet buffer long enough, the writer accepts exactly the sheets that
-- the Edition 3 reading makes of some packet, and returns that packet."
-- The dwells are counted as request A1 of document 02 says.
pub record Counted (x : List ℕ) (segments dwells targets n : ℕ) : Type 0 where
  pub segments_are : segments ≡ count is_leader (listed x).records
  pub dwells_are : dwells ≡ length (without_repeats is_same_pair (pairs_on (listed x).records))
  pub targets_are : targets ≡ count (is_kind 4) (listed x).records
  pub length_is : n ≡ length x

-- demand 2 itself: the counts, and "exactly" in both directions
pub record Demand2 : Type 0 where
  pub counts : (settings : Settings) (l lent : List ℕ) (s d t n : ℕ) → (read settings l lent).answer ≡ Accepted s d t n
      → Counted (sheet settings l) s d t n
  pub sheets_are_written : (l lent buffer : List ℕ) (s d t n : ℕ) → Bytes l → (read (as_edition 3) l lent).answer ≡ Accepted s d t n
      → length l ≤ length buffer
      → write (take n (read (as_edition 3) l lent).left) buffer ≡ accepted s d t (length l) (over l buffer)
  pub only_sheets_are_written : (x buffer : List ℕ) (s d t n : ℕ) → Bytes x → (write x buffer).answer ≡ Accepted s d t n
      → (l : List ℕ) × Bytes l × (length l ≡ n) × ((write x buffer).left ≡ over l buffer)
      × ((lent : List ℕ) → length lent ≡ length x → read (as_edition 3) l lent ≡ accepted s d t (length x) x)

-- ---- Document 02, A1: "the number of different pairs of D2 and D3 in the packet". The pairs that are counted are all of those that
-- there are, and none of them twice; two pairs are the same just where they are equal.
pub record DifferentPairs : Type 0 where
  pub same_are_equal : (p q : Pair) → is_same_pair p q ≡ true → p ≡ q
  pub equal_are_same : (p : Pair) → is_same_pair p p ≡ true
  pub all_of_them : (p : Pair) (ps : List Pair) → is_among is_same_pair p (without_repeats is_same_pair ps) ≡ is_among is_same_pair p ps
  pub none_twice : (ps : List Pair) → has_repeats is_same_pair (without_repeats is_same_pair ps) ≡ false

-- ---- Document 02, A2: "For every accepted packet of n bytes, the sheet length is at most 33 + 45 × (n − 32) / 4, rounded down." So
-- whoever sets so much aside before reading is never refused for want of it. "The bound of A2 must cover the new kinds" (request A4): it
-- is of any packet, with HRR segments or without.
pub record SheetBound : Type 0 where
  pub at_most : (settings : Settings) (l lent : List ℕ) (s d t n : ℕ) → (read settings l lent).answer ≡ Accepted s d t n
      → n ≤ formula (length l)
  pub enough : (n : ℕ) → EnoughFor n (sheet_bound n)

-- ---- Document 02, A3: "Text in fields other than F3 now holds only 0x20 to 0x7E." So each name on the sheet of an accepted packet is on
-- one line, whatever it is read as. "A sheet with a line feed in a name can no longer be written, since no accepted packet has it": nor
-- can one with any other byte outside 0x20 to 0x7E. It is refused, with 19 where rows 17 and 18, the first two of `sheet_rows`, do not apply.
pub record NamesOnOneLine : Type 0 where
  pub on_sheets : (settings : Settings) (l lent : List ℕ) (s d t n : ℕ) → (read settings l lent).answer ≡ Accepted s d t n
      → names_are_lines (listed (sheet settings l)).records ≡ true
  pub not_written : (x lent : List ℕ) → names_are_lines (listed x).records ≡ false → is_accepted (write x lent).answer ≡ false
  pub refused_with_19 : (x lent : List ℕ) → names_are_lines (listed x).records ≡ false → first_row (take 2 (sheet_rows x)) ≡ Passed
      → write x lent ≡ refused 19 0 0 lent

-- ---- Document 02, A5: "The filling promises, for any text and a sheet part long enough, exactly the pieces that document 01 gives, and
-- every byte behind them unchanged." The contract of `piece_records` (crate records) says that it stores `record_bytes (pieces_of text)`
-- from the first place of the part on. "exactly": these pieces carry the text, no other records do, and they take just the room that
-- the contract asks for. "unchanged": what is stored stands at the part's front, and behind it is what the part held there.
pub record PiecesFilled : Type 0 where
  pub carry : (text : List ℕ) → Carry (pieces_of text) text
  pub no_others : (text : List ℕ) (rs : List Record) → Carry rs text → rs ≡ pieces_of text
  pub take_room : (text : List ℕ) → length (record_bytes (pieces_of text)) ≡ piece_count (length text) * record_length 6
  pub behind_unchanged : (text lent : List ℕ) → piece_count (length text) * record_length 6 ≤ length lent
      → sets lent 0 (record_bytes (pieces_of text)) ≡ over (record_bytes (pieces_of text)) lent

-- ---- Demand 3

-- "For every version 3 packet that the Edition 3 reading accepts, the Edition 1 reading, given the same bytes and a lent sheet of the
-- same length": l is read as Edition 1 onto lent1, and as Edition 3 onto lent3, "whatever the lent sheets held"
pub record BothRead (l lent1 lent3 : List ℕ) (s d t n : ℕ) : Type 0 where
  pub are_bytes : Bytes l
  pub version_3 : version l ≡ 3
  pub same_length : length lent1 ≡ length lent3
  pub edition_3 : (read (as_edition 3) l lent3).answer ≡ Accepted s d t n

-- "none of the four things": "It then answers the same counts and length. Its sheet equals the Edition 3 sheet in every byte but
-- those of fields D27 and J26 and their marks, which are zero, since these two are withheld. Copy into it every D27 and J26 of the
-- Edition 3 sheet and mark them as shown: given the sheet so filled in and a buffer at least as long as the packet, whatever it
-- held, the writer accepts and returns the same packet with the same counts."
pub record ReadAlike (l lent1 lent3 : List ℕ) (s d t n : ℕ) : Type 0 where
  pub same_answer : (read (as_edition 1) l lent1).answer ≡ Accepted s d t n
  pub every_byte : (i : ℕ)
      → get_or (take n (read (as_edition 1) l lent1).left) i 0
      ≡ cond (is_withheld_at (listed (take n (read (as_edition 3) l lent3).left)).records i) 0 (get_or (take n (read (as_edition 3) l lent3).left) i 0)
  pub written_back : (buffer : List ℕ) → length l ≤ length buffer
      → write (filled_in (take n (read (as_edition 1) l lent1).left) (take n (read (as_edition 3) l lent3).left)) buffer ≡ accepted s d t (length l) (over l buffer)

-- "accepts exactly when the packet holds none of the four things"; "If the packet does hold something new, the Edition 1 reading
-- refuses with 15 and names the first segment that holds any, and the field that document 01 gives for it."
abbrev pub OlderReading : (l lent1 lent3 : List ℕ) (s d t n : ℕ) → New → Type 0
OlderReading l lent1 lent3 s d t n Nothing = ReadAlike l lent1 lent3 s d t n
OlderReading l lent1 lent3 s d t n (Found segment field) = read (as_edition 1) l lent1 ≡ refused 15 segment field lent1

-- demand 3, for every packet, both lent sheets and every buffer
abbrev pub Demand3 : Type 0
Demand3 = (l lent1 lent3 : List ℕ) (s d t n : ℕ) → BothRead l lent1 lent3 s d t n
    → OlderReading l lent1 lent3 s d t n (first_new 1 (parsed (as_edition 3) l).segments)

-- ---- Document 01: "Version 1 packets read alike under both readings, D27 and J26 shown", that is, marked with 1
abbrev pub Version1 : Type 0
Version1 = (l lent : List ℕ) → version l ≡ 1
    → (read (as_edition 1) l lent ≡ read (as_edition 3) l lent) × (mark (reading_of (as_edition 1) l) ≡ 1)

-- "The field is named in rows 5, 10, 11, 13, 14 and 15 (0 there for type 3) and is 0 in all others.": but for 15, a row that names a
-- field names one that is not 0
pub record FieldsNamed : Type 0 where
  pub others : (settings : Settings) (l : List ℕ) (lent number segment field : ℕ) → FirstRow settings l lent number segment field
      → is_naming number ≡ false → field ≡ 0
  pub named : (settings : Settings) (l : List ℕ) (lent number segment : ℕ) → FirstRow settings l lent number segment 0
      → is_naming number ≡ true → number ≡ 15
