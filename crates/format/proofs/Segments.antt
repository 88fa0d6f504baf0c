-- The walk over a packet's segments undone: the segments that it finds, spelt one after another, are the packet's bytes again, and
-- to none of them does a row apply.
-- Assumes nothing.
use Prim.Native.Nat.{ℕ, zero, suc, ◌+◌, ◌-◌, ◌≤◌}
use native.Mathlib.Nat.{not-suc-le-zero, zero-add, suc-add}
use native.Mathlib.Omega.{arith}
use mathlib.Core.Path.{◌≡◌, refl, sym, ap, ◌∙◌}
use mathlib.Core.List.{List, [], ◌∷◌, ◌++◌}
use lib.ListN.{length, take, drop, length-drop, take-append-drop}
use lib.Seq.{length-take-le, take-take, get_or-drop}
use Rattle.octets.specs.Octets.{be, bytes, Bytes}
use Rattle.octets.proofs.Laws.{bytes-be}
use Rattle.format.specs.declared.Reading.{Reading}
use Rattle.format.specs.Check.{Check, Passed, Failed}
use Rattle.format.specs.Packet.{Segment, type_at, size_at, body_at, segment_bytes}
use Rattle.format.specs.Edition.{is_hrr}
use Rattle.format.specs.Sheet.{Record, mission_records, dwell_records, hrr_records, job_records, text_records, test_records, location_records, opaque_records, segment_records}
use Rattle.format.specs.Rows.{first_row, mission_rows, dwell_rows, hrr_rows, job_rows, text_rows, kept_rows, body_rows, segment_rows}
use Rattle.format.specs.Reader.{Parsed, onward, parse}
use Rattle.format.specs.Writer.{segments_bytes}
use Rattle.format.proofs.Types.{by_number}
use Rattle.format.proofs.Rows.{passed-not-failed, segment-passes}

-- a list in three parts
in_three : (j k : ℕ) (l : List ℕ) → j ≤ k → take j l ++ drop j (take k l) ++ drop k l ≡ l
in_three j k l h =
    ap (λ (x : List ℕ). x ++ drop j (take k l) ++ drop k l) (sym (take-take j k l h))
    ∙ ap (λ (x : List ℕ). x ++ drop k l) (take-append-drop j (take k l))
    ∙ take-append-drop k l

-- the body of a segment is as long as its size says
pub length-body : (l : List ℕ) → size_at l ≤ length l → length (body_at l) ≡ size_at l - 5
unfolding body_at
length-body l h = length-drop 5 (take (size_at l) l) ∙ ap (λ (n : ℕ). n - 5) (length-take-le (size_at l) l h)

-- the k bytes behind the first a
pub part-is : (a k : ℕ) (l : List ℕ) → take k (drop a l) ≡ drop a (take (a + k) l)
part-is zero k l = rw zero-add
part-is (suc a) zero [] = rw suc-add
part-is (suc a) (suc k) [] = rw suc-add
part-is (suc a) k (x ∷ l) = rw suc-add (part-is a k l)

-- the body of a segment is the part of the packet behind its 5 header bytes
pub body-part : (l : List ℕ) (n : ℕ) → n ≡ size_at l → 5 ≤ n → take (n - 5) (drop 5 l) ≡ body_at l
unfolding body_at
body-part l n s h =
    let e : 5 + (n - 5) ≡ size_at l = omega arith in
    part-is 5 (n - 5) l ∙ ap (λ (m : ℕ). drop 5 (take m l)) e

-- a segment at the front of l, spelt again, is what stood there
pub segment-back : (l : List ℕ) → 5 ≤ size_at l → size_at l ≤ length l → Bytes l
    → segment_bytes (record { type = type_at l; body = body_at l }) ++ drop (size_at l) l ≡ l
unfolding segment_bytes size_at type_at body_at
segment-back [] h w b = absurd (omega arith)
segment-back (x ∷ xs) h w b =
    let z = be 4 xs in
    let n : 5 + length (drop 5 (take z (x ∷ xs))) ≡ z = omega (arith, length-drop 5 (take z (x ∷ xs)), length-take-le z (x ∷ xs) w) in
    let s : bytes 4 (5 + length (drop 5 (take z (x ∷ xs)))) ≡ take 4 xs = ap (bytes 4) n ∙ bytes-be 4 xs (omega arith) (λ i. b (suc i)) in
    ap (λ (y : List ℕ). x ∷ (y ++ drop 5 (take z (x ∷ xs))) ++ drop z (x ∷ xs)) s
    ∙ in_three 5 z (x ∷ xs) h

-- the segments that the walk finds, spelt one after another, are what it walked over
pub parse-back : (r : Reading) (k : ℕ) (l : List ℕ) → length l ≤ k → Bytes l → (parse r k l).ending ≡ Passed → segments_bytes (parse r k l).segments ≡ l
unfolding parse segments_bytes
parse-back r zero [] h b e = refl
parse-back r zero (x ∷ xs) h b e = absurd (not-suc-le-zero h)
parse-back r (suc k) [] h b e = refl
parse-back r (suc k) (x ∷ xs) h b e =
    go (first_row (segment_rows r (x ∷ xs))) refl e
    (λ p. parse-back r k (drop (size_at (x ∷ xs)) (x ∷ xs)) (rw length-drop (omega (arith, (segment-passes r (x ∷ xs) p).header))) (λ i. rw get_or-drop (b (size_at (x ∷ xs) + i))))
  where
    rest : Parsed
    rest = parse r k (drop (size_at (x ∷ xs)) (x ∷ xs))

    first : Segment
    first = record { type = type_at (x ∷ xs); body = body_at (x ∷ xs) }

    go : (c : Check) → first_row (segment_rows r (x ∷ xs)) ≡ c → (onward c first rest).ending ≡ Passed
        → (first_row (segment_rows r (x ∷ xs)) ≡ Passed → rest.ending ≡ Passed → segments_bytes rest.segments ≡ drop (size_at (x ∷ xs)) (x ∷ xs))
        → segments_bytes (onward c first rest).segments ≡ x ∷ xs
    go Passed p e i =
        let s = segment-passes r (x ∷ xs) p in
        ap (λ (y : List ℕ). segment_bytes first ++ y) (i p e) ∙ segment-back (x ∷ xs) s.header s.within b
    go (Failed number field) p e i = passed-not-failed number field (sym e)

-- what is known of each segment found: no row applies to its body, and it is no longer than a packet may be
pub record Sound (r : Reading) (s : Segment) : Type 0 where
  pub rows : first_row (body_rows r s.type s.body) ≡ Passed
  pub short : length s.body ≤ 65536

-- and so of all of them
abbrev pub AllSound : Reading → List Segment → Type 0
AllSound r [] = Unit {0}
AllSound r (s ∷ ss) = Sound r s × AllSound r ss

-- the walk stops before a segment to which a row applies
pub parse-sound : (r : Reading) (k : ℕ) (l : List ℕ) → length l ≤ 65536 → AllSound r (parse r k l).segments
unfolding parse
parse-sound r zero l h = tt
parse-sound r (suc k) [] h = tt
parse-sound r (suc k) (x ∷ xs) h =
    go (first_row (segment_rows r (x ∷ xs))) refl (parse-sound r k (drop (size_at (x ∷ xs)) (x ∷ xs)) (rw length-drop (omega arith)))
  where
    rest : Parsed
    rest = parse r k (drop (size_at (x ∷ xs)) (x ∷ xs))

    go : (c : Check) → first_row (segment_rows r (x ∷ xs)) ≡ c → AllSound r rest.segments
        → AllSound r (onward c (record { type = type_at (x ∷ xs); body = body_at (x ∷ xs) }) rest).segments
    go Passed p i =
        let s = segment-passes r (x ∷ xs) p in
        (record { rows = s.body; short = omega (arith, length-body (x ∷ xs) s.within, s.within) }, i)
    go (Failed number field) p i = tt

-- one case for each type of segment, with the rows that do not apply to its body
pub by_rows : (P : List Record → Type 0) (r : Reading) (s : Segment) → first_row (body_rows r s.type s.body) ≡ Passed
    → (s.type ≡ 1 → first_row (mission_rows s.body) ≡ Passed → P (mission_records s.body))
    → (s.type ≡ 2 → first_row (dwell_rows r s.body) ≡ Passed → P (dwell_records r s.body))
    → (s.type ≡ 3 → first_row (hrr_rows s.body) ≡ Passed → P (hrr_records s.body))
    → (s.type ≡ 5 → first_row (job_rows r s.body) ≡ Passed → P (job_records r s.body))
    → (s.type ≡ 6 → first_row (text_rows s.body) ≡ Passed → P (text_records s.body))
    → (s.type ≡ 10 → first_row (kept_rows 14 s.body) ≡ Passed → P (test_records s.body))
    → (s.type ≡ 13 → first_row (kept_rows 23 s.body) ≡ Passed → P (location_records s.body))
    → P (opaque_records s.type s.body)
    → P (segment_records r s)
unfolding segment_records body_rows is_hrr
by_rows P r s h m d hrr j t e l o =
    by_number r (λ (n : ℕ). s.type ≡ n → first_row (body_rows r n s.body) ≡ Passed → P (opaque_records n s.body) → P (segment_records r (record { type = n; body = s.body })))
    (λ q p _. m q p) (λ q p _. d q p) (λ h3 q p _. rw h3 (hrr q (rw h3 at p)))
    (λ q p _. j q p) (λ q p _. t q p) (λ q p _. e q p) (λ q p _. l q p)
    (λ n h1 h2 h3 h5 h6 h10 h13 q p o. rw (h1, h2, h3, h5, h6, h10, h13) o)
    s.type refl h o
