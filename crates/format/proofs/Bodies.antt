-- Bodies to which no row applies: how long they are, and so what stands in the first record of their segment.
-- Assumes nothing.
use Prim.Native.Nat.{ℕ, suc, ◌+◌, ◌≤◌}
use native.Mathlib.Omega.{arith}
use mathlib.Core.Path.{◌≡◌, sym, ap, ◌∙◌}
use mathlib.Core.Bool.{false, not}
use mathlib.Core.List.{List, [], ◌∷◌, ◌++◌, append_assoc}
use borrow.Author.Tests.{ltb-false, eqb-true, not-false}
use lib.Dec.{eqb}
use lib.ListN.{length, take, drop, length-append}
use lib.Seq.{length-take-le}
use Rattle.octets.specs.Octets.{bytes}
use Rattle.octets.specs.Layout.{pad, total}
use Rattle.octets.proofs.Laws.{length-bytes}
use Rattle.octets.proofs.Layouts.{pad-same}
use Rattle.mask.specs.Fields.{dwell_widths}
use Rattle.mask.proofs.FullWidth.{length-full}
use Rattle.format.specs.declared.Reading.{Reading}
use Rattle.format.specs.Check.{Passed}
use Rattle.format.specs.Packet.{s2, job_widths}
use Rattle.format.specs.Dwell.{mask_of, dwell_fields}
use Rattle.format.specs.Edition.{is_older, shown, mark}
use Rattle.format.specs.Sheet.{body_length, record_of, dwell_record}
use Rattle.format.specs.Rows.{Row, row, first_row, mission_rows, job_rows, text_rows, kept_rows}
use Rattle.format.proofs.Rows.{first_passes}

-- ---- lengths by the rows 9 and 12

-- a body of a fixed length
fixed-length : (n : ℕ) (b : List ℕ) (rs : List Row) → first_row (row 9 0 (not (eqb (s2 b) (5 + n))) ∷ rs) ≡ Passed → length b ≡ n
fixed-length n b rs e =
    let z : s2 b ≡ 5 + n = eqb-true _ _ (not-false _ (first_passes _ _ e).0) in
    omega arith

-- a mission's body
pub mission-length : (b : List ℕ) → first_row (mission_rows b) ≡ Passed → length b ≡ 39
unfolding mission_rows
mission-length b e = fixed-length 39 b _ e

-- a job definition's
pub job-length : (r : Reading) (b : List ℕ) → first_row (job_rows r b) ≡ Passed → length b ≡ 68
unfolding job_rows
job-length r b e = fixed-length 68 b _ e

-- that of a type that is kept as bytes
pub kept-length : (n : ℕ) (b : List ℕ) → first_row (kept_rows n b) ≡ Passed → length b ≡ n
unfolding kept_rows
kept-length n b e = fixed-length n b _ e

-- a text's body has its two fixed fields
pub text-length : (b : List ℕ) → first_row (text_rows b) ≡ Passed → 20 ≤ length b
unfolding text_rows
text-length b e =
    let z : 25 ≤ s2 b = ltb-false _ _ (first_passes _ _ e).0 in
    omega arith

-- ---- records that are full

-- bytes that fill the body of a kind are that body
pub record-exact : (kind : ℕ) (b : List ℕ) → length b ≡ body_length kind → record_of kind b ≡ record { kind = kind; body = b }
unfolding record_of
record-exact kind b e = ap (λ (x : List ℕ). record { kind = kind; body = x }) (ap (λ (n : ℕ). pad n b) (sym e) ∙ pad-same b)

-- the length of a dwell's fields at full widths
pub length-dwell : (b : List ℕ) → length (dwell_fields b) ≡ 78
unfolding dwell_fields total
length-dwell b = length-full (mask_of b) 2 dwell_widths (drop 8 b)

-- a dwell's record where nothing is withheld
pub dwell-exact : (r : Reading) (b : List ℕ) → is_older r ≡ false → 8 ≤ length b → dwell_record r b ≡ record { kind = 3; body = take 8 b ++ (dwell_fields b ++ 1 ∷ []) }
unfolding dwell_record shown mark body_length
dwell-exact r b o h =
    let n : length (take 8 b ++ (dwell_fields b ++ 1 ∷ [])) ≡ body_length 3 = simp (length-append, length-take-le 8 b h, length-dwell b) in
    rw (o, append_assoc (take 8 b) (dwell_fields b) (1 ∷ [])) (record-exact 3 _ n)

-- a job definition's record where nothing is withheld
pub job-exact : (r : Reading) (b : List ℕ) → is_older r ≡ false → length b ≡ 68 → record_of 8 (shown r 1 job_widths 26 b ++ mark r ∷ []) ≡ record { kind = 8; body = b ++ 1 ∷ [] }
unfolding shown mark body_length
job-exact r b o h =
    let n : length (b ++ 1 ∷ []) ≡ body_length 8 = simp (length-append, h) in
    rw o (record-exact 8 _ n)

-- the first record of a text
pub text-exact : (b : List ℕ) (n : ℕ) → 20 ≤ length b → record_of 5 (take 20 b ++ bytes 4 n) ≡ record { kind = 5; body = take 20 b ++ bytes 4 n }
unfolding body_length
text-exact b n h =
    let e : length (take 20 b ++ bytes 4 n) ≡ body_length 5 = simp (length-append, length-take-le 20 b h, length-bytes 4 n) in
    record-exact 5 _ e

-- the first record of an opaque segment
pub opaque-exact : (type n : ℕ) → record_of 7 (type ∷ bytes 4 n) ≡ record { kind = 7; body = type ∷ bytes 4 n }
unfolding body_length
opaque-exact type n = record-exact 7 _ (ap suc (length-bytes 4 n))
