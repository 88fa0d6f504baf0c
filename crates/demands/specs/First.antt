-- The first row of document 01 that applies to a packet, said without the walk `parse` of the crate format: of a reading, whoever doubts
-- that walk can believe this instead. "Reading: the rows in order, those of a segment for each segment in turn, first fault wins."
-- Assumes nothing.
use Rattle.std.specs.Prelude.{ℕ, suc, ◌≤◌, ◌<◌, ◌≡◌, List, [], ◌∷◌, ◌++◌, length, drop}
use Rattle.format.specs.declared.Settings.{Settings}
use Rattle.format.specs.declared.Reading.{Reading}
use Rattle.format.specs.Check.{Passed, Failed}
use Rattle.format.specs.Packet.{Segment, size_at, segment_at}
use Rattle.format.specs.Rows.{first_row, header_rows, segment_rows}
use Rattle.format.specs.Reader.{reading_of, set_out_of}

-- no row applies to the segments ss, with which `start` begins, and `left` is what is left of it behind them
pub data Passes (r : Reading) (start : List ℕ) : List Segment → List ℕ → Type 0 where
  none : Passes r start [] start
  more : {ss : List Segment} {left : List ℕ} → Passes r start ss left → 0 < length left → first_row (segment_rows r left) ≡ Passed
      → Passes r start (ss ++ segment_at left ∷ []) (drop (size_at left) left)

-- the first row that applies has this number, segment and field, where so many bytes are lent
pub data FirstRow (settings : Settings) (l : List ℕ) (lent : ℕ) : ℕ → ℕ → ℕ → Type 0 where
  of_header : {number field : ℕ} → first_row (header_rows settings l) ≡ Failed number field → FirstRow settings l lent number 0 field
  of_segment : {ss : List Segment} {number field : ℕ} {left : List ℕ} → first_row (header_rows settings l) ≡ Passed
      → Passes (reading_of settings l) (drop 32 l) ss left → 0 < length left
      → first_row (segment_rows (reading_of settings l) left) ≡ Failed number field
      → FirstRow settings l lent number (suc (length ss)) field
  of_end : {ss : List Segment} → first_row (header_rows settings l) ≡ Passed → Passes (reading_of settings l) (drop 32 l) ss []
      → lent < length (set_out_of settings l ss) → FirstRow settings l lent 16 0 0

-- no row applies, and the packet's segments are ss
pub record NoRow (settings : Settings) (l : List ℕ) (lent : ℕ) (ss : List Segment) : Type 0 where
  pub header : first_row (header_rows settings l) ≡ Passed
  pub segments : Passes (reading_of settings l) (drop 32 l) ss []
  pub end : length (set_out_of settings l ss) ≤ lent
