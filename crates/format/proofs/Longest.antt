-- The longest sheet: a segment to which no row applies takes at most a target's record of the sheet for each 4 bytes of the packet, so
-- the sheet is bounded by the packet, whatever the reading finds.
-- Assumes nothing.
use Prim.Native.Nat.{ℕ, zero, suc, ◌+◌, ◌-◌, ◌*◌, ◌≤◌}
use native.Mathlib.Nat.{mul-le-mul, not-suc-le-zero}
use native.Mathlib.Omega.{arith}
use mathlib.Core.Path.{◌≡◌, refl, sym}
use mathlib.Core.Bool.{Bool, true, false, not, ◌&&◌, ◌||◌, cond, true≢false}
use mathlib.Core.List.{List, [], ◌∷◌}
use borrow.Author.Tests.{ltb-false}
use lib.Dec.{ltb}
use lib.ListN.{length, drop, length-append, length-drop}
use Rattle.mask.specs.Fields.{announced, announced_length}
use Rattle.mask.specs.Mask.{is_placed}
use Rattle.hrr.specs.Hrr.{hrr_mask, hrr_fields, scatterer_count}
use Rattle.format.specs.declared.Settings.{Settings}
use Rattle.format.specs.declared.Reading.{Reading}
use Rattle.format.specs.Check.{Check, Passed, Failed}
use Rattle.format.specs.Packet.{Segment, type_at, size_at, body_at}
use Rattle.format.specs.Dwell.{mask_of, target_count, target_length}
use Rattle.format.specs.Edition.{is_hrr}
use Rattle.format.specs.Sheet.{body_length, header_record, piece_count, segment_records, packet_records, record_bytes}
use Rattle.format.specs.Lengths.{record_length}
use Rattle.format.specs.Bound.{formula, longest_sheet}
use Rattle.format.specs.Rows.{first_row, dwell_rows, hrr_rows, body_rows, segment_rows}
use Rattle.format.specs.Reader.{Parsed, onward, parse, reading_of, parsed, sheet}
use Rattle.format.proofs.Types.{by_number}
use Rattle.format.proofs.Rows.{first_passes, segment-passes}
use Rattle.format.proofs.Lengths.{bytes-append, length-record, records_of, length-segment}
use Rattle.format.proofs.Segments.{length-body}
use Rattle.format.proofs.Bodies.{mission-length, job-length, kept-length, text-length}
use Rattle.format.proofs.Dwells.{is-dwell}
use Rattle.format.proofs.Hrr.{is-hrr, scatterers-few}

-- a target that is placed takes at least the 4 bytes of D32.4 and D32.5
placed-length : (mask : ℕ) → is_placed mask ≡ true → 4 ≤ target_length mask
unfolding is_placed announced_length
placed-length mask e = go (announced mask 32) (announced mask 33) (announced mask 34) (announced mask 35) (announced mask 36) _ e
  where
    go : (a b c d f : Bool) (n : ℕ) → (b && c || d && f) ≡ true → 4 ≤ cond a 2 0 + (cond b 4 0 + (cond c 4 0 + (cond d 2 0 + (cond f 2 0 + n))))
    go a true c d f n e = omega arith
    go a false c true true n e = omega arith
    go a false c true false n e = absurd (true≢false (sym e))
    go a false c false f n e = absurd (true≢false (sym e))

-- where a dwell to which no row applies has targets, they are placed (row 13)
has-placed : (r : Reading) (b : List ℕ) → first_row (dwell_rows r b) ≡ Passed → (ltb 0 (target_count b) && not (is_placed (mask_of b))) ≡ false
unfolding dwell_rows
has-placed r b e =
    let nine = first_passes _ _ e in
    let eleven = first_passes _ _ nine.1 in
    let fifteen = first_passes _ _ eleven.1 in
    let twelve = first_passes _ _ fifteen.1 in
    let four = first_passes _ _ twelve.1 in
    (first_passes _ _ four.1).0

-- so its targets take at least 4 bytes each
targets-length : (r : Reading) (b : List ℕ) → first_row (dwell_rows r b) ≡ Passed → target_count b * 4 ≤ target_count b * target_length (mask_of b)
targets-length r b e = go (target_count b) (ltb 0 (target_count b)) (is_placed (mask_of b)) refl refl (has-placed r b e)
  where
    go : (n : ℕ) (t p : Bool) → ltb 0 n ≡ t → is_placed (mask_of b) ≡ p → (t && not p) ≡ false → n * 4 ≤ n * target_length (mask_of b)
    go n true true ht hp h = mul-le-mul {n₁ = n} {m₁ = 4} {n₂ = n} {m₂ = target_length (mask_of b)} (omega arith) (placed-length (mask_of b) hp)
    go n true false ht hp h = absurd (true≢false h)
    go zero false p ht hp h = omega arith
    go (suc n) false p ht hp h = let z : suc n ≤ 0 = ltb-false 0 (suc n) ht in absurd (not-suc-le-zero z)

-- the mandatory fields of an HRR segment take 29 bytes, and each scatterer takes one at least
hrr-short : (b : List ℕ) → first_row (hrr_rows b) ≡ Passed
    → 4 * (record_length 11 + scatterer_count (hrr_mask b) (hrr_fields b) * record_length 12) ≤ record_length 4 * (5 + length b)
hrr-short b e = omega (arith, scatterers-few b (is-hrr b e))

-- so many bytes in pieces of 32: their number
piece-count : (n : ℕ) → 32 * piece_count n ≤ n + 31
unfolding piece_count
piece-count n = omega arith

-- the bytes of the records of a segment to whose body no row applies, by its type
records-short : (r : Reading) (type : ℕ) (b : List ℕ) → first_row (body_rows r type b) ≡ Passed → 4 * records_of r type b ≤ record_length 4 * (5 + length b)
unfolding body_rows is_hrr
records-short r type b =
    by_number r (λ (t : ℕ). first_row (body_rows r t b) ≡ Passed → 4 * records_of r t b ≤ record_length 4 * (5 + length b))
    (λ e. omega (arith, mission-length b e))
    (λ e. omega (arith, (is-dwell r b e).exact, targets-length r b e))
    (λ h3 e. rw h3 (hrr-short b (rw h3 at e)))
    (λ e. omega (arith, job-length r b e))
    (λ e. omega (arith, text-length b e, piece-count (length b - 20)))
    (λ e. omega (arith, kept-length 14 b e))
    (λ e. omega (arith, kept-length 23 b e))
    (λ t h1 h2 h3 h5 h6 h10 h13 e. rw (h1, h2, h3, h5, h6, h10, h13) (omega (arith, piece-count (length b))))
    type

-- those of a segment
pub segment-short : (r : Reading) (s : Segment) → first_row (body_rows r s.type s.body) ≡ Passed → 4 * length (record_bytes (segment_records r s)) ≤ record_length 4 * (5 + length s.body)
segment-short r s e = omega (arith, length-segment r s.type s.body, records-short r s.type s.body e)

-- and of all that the walk finds in l
pub parse-short : (r : Reading) (k : ℕ) (l : List ℕ) → 4 * length (record_bytes (packet_records r (parse r k l).segments)) ≤ record_length 4 * length l
unfolding parse packet_records record_bytes
parse-short r zero l = omega arith
parse-short r (suc k) [] = omega arith
parse-short r (suc k) (x ∷ xs) =
    go (first_row (segment_rows r (x ∷ xs))) refl (parse-short r k (drop (size_at (x ∷ xs)) (x ∷ xs)))
  where
    rest : Parsed
    rest = parse r k (drop (size_at (x ∷ xs)) (x ∷ xs))

    first : Segment
    first = record { type = type_at (x ∷ xs); body = body_at (x ∷ xs) }

    go : (c : Check) → first_row (segment_rows r (x ∷ xs)) ≡ c
        → 4 * length (record_bytes (packet_records r rest.segments)) ≤ record_length 4 * length (drop (size_at (x ∷ xs)) (x ∷ xs))
        → 4 * length (record_bytes (packet_records r (onward c first rest).segments)) ≤ record_length 4 * length (x ∷ xs)
    go Passed p i =
        let s = segment-passes r (x ∷ xs) p in
        rw (bytes-append (segment_records r first) (packet_records r rest.segments), length-append)
        (omega (arith, segment-short r first s.body, length-body (x ∷ xs) s.within, s.header, s.within, length-drop (size_at (x ∷ xs)) (x ∷ xs)))
    go (Failed number field) p i = omega arith

-- the sheet of any packet: the header's record, and a target's for each 4 bytes behind the header
pub sheet-short : (settings : Settings) (l : List ℕ) → 4 * length (sheet settings l) ≤ 4 * record_length 1 + record_length 4 * (length l - 32)
unfolding sheet header_record body_length parsed
sheet-short settings l =
    let r = reading_of settings l in
    omega (arith, length-record 1 l (packet_records r (parsed settings l).segments), parse-short r (length (drop 32 l)) (drop 32 l), length-drop 32 l)

-- so it is within the bound of A2: the product is divided as a whole
pub sheet-bounded : (settings : Settings) (l : List ℕ) → length (sheet settings l) ≤ formula (length l)
sheet-bounded settings l = omega (arith, sheet-short settings l)

-- that of a packet that is not too long (row 2)
pub sheet-longest : (settings : Settings) (l : List ℕ) → length l ≤ 65536 → length (sheet settings l) ≤ longest_sheet
sheet-longest settings l h = omega (arith, sheet-short settings l)
