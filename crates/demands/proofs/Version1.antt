-- A version 1 packet reads alike under both readings: but for row 1, a reading shows only in whether it is the older one and in the version.
-- Assumes nothing.
use Prim.Native.Nat.{ℕ, zero, suc}
use mathlib.Core.Path.{◌≡◌, refl, ap, ap₂, ◌∙◌}
use mathlib.Core.Bool.{false}
use mathlib.Core.List.{List, [], ◌∷◌, ◌++◌}
use lib.ListN.{length, drop}
use Rattle.format.specs.declared.Reading.{Reading}
use Rattle.format.specs.Check.{Check}
use Rattle.format.specs.Answer.{Answer, outcome, left_by}
use Rattle.format.specs.Packet.{Segment, type_at, size_at, body_at, version, segment_at}
use Rattle.format.specs.Edition.{as_edition, is_older, is_hrr, shown, mark}
use Rattle.format.specs.Sheet.{Record, header_record, dwell_record, dwell_records, job_records, segment_records, packet_records, record_bytes}
use Rattle.format.specs.Rows.{first_row, dwell_rows, job_rows, body_rows, segment_rows}
use Rattle.format.specs.Reader.{Parsed, onward, parse, reading_of, parsed, set_out_of, sheet, read}
use Rattle.demands.specs.Demands.{Version1}
use Rattle.demands.proofs.Written.{newest}
use Rattle.demands.proofs.Editions.{answers-same}

-- two readings of packets of the same version, neither of them the older one
module _ (r q : Reading) (r-full : is_older r ≡ false) (q-full : is_older q ≡ false) (same : r.version ≡ q.version) where
  -- ---- the rows

  dwell-rows : (b : List ℕ) → dwell_rows r b ≡ dwell_rows q b
  unfolding dwell_rows
  dwell-rows b = rw (r-full, q-full, same)

  job-rows : (b : List ℕ) → job_rows r b ≡ job_rows q b
  unfolding job_rows
  job-rows b = rw (r-full, q-full)

  body-rows : (t : ℕ) (b : List ℕ) → body_rows r t b ≡ body_rows q t b
  unfolding body_rows is_hrr
  body-rows t b = rw (dwell-rows b, job-rows b, same)

  segment-rows : (l : List ℕ) → segment_rows r l ≡ segment_rows q l
  unfolding segment_rows
  segment-rows l = rw (r-full, q-full, body-rows (type_at l) (body_at l))

  -- so the walk finds the same
  parse-same : (k : ℕ) (l : List ℕ) → parse r k l ≡ parse q k l
  unfolding parse
  parse-same zero l = refl
  parse-same (suc k) [] = refl
  parse-same (suc k) (x ∷ xs) =
      ap₂ (λ (c : Check) (p : Parsed). onward c (segment_at (x ∷ xs)) p)
      (ap first_row (segment-rows (x ∷ xs))) (parse-same k (drop (size_at (x ∷ xs)) (x ∷ xs)))

  -- ---- the records

  dwell-records : (b : List ℕ) → dwell_records r b ≡ dwell_records q b
  unfolding dwell_records dwell_record shown mark
  dwell-records b = rw (r-full, q-full)

  job-records : (b : List ℕ) → job_records r b ≡ job_records q b
  unfolding job_records shown mark
  job-records b = rw (r-full, q-full)

  segment-records : (s : Segment) → segment_records r s ≡ segment_records q s
  unfolding segment_records is_hrr
  segment-records s = rw (dwell-records s.body, job-records s.body, same)

  packet-records : (ss : List Segment) → packet_records r ss ≡ packet_records q ss
  unfolding packet_records
  packet-records [] = refl
  packet-records (s ∷ ss) = ap₂ (λ (rs qs : List Record). rs ++ qs) (segment-records s) (packet-records ss)

module _ (l : List ℕ) (one : version l ≡ 1) where
  -- the Edition 1 reading of a version 1 packet is not the older one
  not-older : is_older (reading_of (as_edition 1) l) ≡ false
  unfolding is_older
  not-older = rw one

  -- both readings find the same segments
  walks_same : parsed (as_edition 1) l ≡ parsed (as_edition 3) l
  unfolding parsed
  walks_same = parse-same (reading_of (as_edition 1) l) (reading_of (as_edition 3) l) not-older (newest l) refl (length (drop 32 l)) (drop 32 l)

  -- and make the same sheet
  sheets-same : sheet (as_edition 1) l ≡ sheet (as_edition 3) l
  unfolding sheet
  sheets-same =
      ap (λ (p : Parsed). set_out_of (as_edition 1) l p.segments) walks_same
      ∙ ap (λ (rs : List Record). record_bytes (header_record l ∷ rs))
      (packet-records (reading_of (as_edition 1) l) (reading_of (as_edition 3) l) not-older (newest l) refl (parsed (as_edition 3) l).segments)

-- so they have the same outcome, whatever is lent, and what they mark is shown
pub version_1 : Version1
unfolding read mark
version_1 l lent v = (
  ap₂ (λ (a : Answer) (x : List ℕ). outcome a (left_by a x lent))
      (answers-same l (length lent) (walks_same l v) (ap length (sheets-same l v))) (sheets-same l v),
  rw (not-older l v),
)
