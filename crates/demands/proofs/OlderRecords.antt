-- The records that the two readings make of the same segments are alike.
-- Assumes nothing.
use Prim.Native.Nat.{ℕ, ◌+◌, ◌≤◌}
use native.Mathlib.Omega.{arith}
use mathlib.Core.Path.{◌≡◌, refl, sym, ap, ap₂, ◌∙◌}
use mathlib.Core.Bool.{true, false}
use mathlib.Core.List.{List, [], ◌∷◌, ◌++◌}
use lib.Dec.{eqb}
use lib.ListN.{length, take, length-append}
use lib.Seq.{length-take-le}
use Rattle.octets.specs.Layout.{pad, total, replaced, zeroed}
use Rattle.octets.proofs.Layouts.{pad-same}
use Rattle.mask.specs.Fields.{dwell_widths}
use Rattle.format.specs.declared.Reading.{Reading}
use Rattle.format.specs.Check.{Passed}
use Rattle.format.specs.Packet.{Segment}
use Rattle.format.specs.Dwell.{dwell_fields}
use Rattle.format.specs.Edition.{is_older, is_hrr, shown, mark}
use Rattle.format.specs.Sheet.{Record, body_length, record_of, header_record, dwell_record, dwell_records, hrr_record, hrr_records, text_records, opaque_records, job_records, segment_records, packet_records}
use Rattle.format.specs.Rows.{first_row, body_rows}
use Rattle.format.proofs.Types.{by_number}
use Rattle.format.proofs.Bodies.{job-length, length-dwell}
use Rattle.format.proofs.Dwells.{is-dwell}
use Rattle.demands.specs.Filled.{dwell_body_widths}
use Rattle.format.proofs.Segments.{AllSound}
use Rattle.demands.proofs.Runs.{Run, run_end, run_more, targets-run, scatterers-run, pieces-run}
use Rattle.demands.proofs.Withheld.{put-behind}
use Rattle.demands.proofs.Alike.{Alike, dwell, job, other, AllAlike, none, next, alike-append, length-one}

-- a record of neither kind is the same in both readings
same-record : (kind : ℕ) (b : List ℕ) → eqb kind 3 ≡ false → eqb kind 8 ≡ false → Alike (record_of kind b) (record_of kind b)
unfolding record_of
same-record kind b h3 h8 = other h3 h8

-- so are the header's
pub header-alike : (l : List ℕ) → Alike (header_record l) (header_record l)
unfolding header_record
header-alike l = same-record 1 l refl refl

-- and all of a run of such records
run-alike : {kind n : ℕ} {qs : List Record} → eqb kind 3 ≡ false → eqb kind 8 ≡ false → Run kind n qs → AllAlike qs qs
run-alike h3 h8 run_end = none
run-alike h3 h8 (run_more {q = q} e a) = next (other {r = q} (rw e h3) (rw e h8)) (run-alike h3 h8 a)

-- alike bytes, as many as the kind says, make alike records
whole-alike : (kind : ℕ) (x y : List ℕ) → length y ≡ body_length kind → Alike (record { kind = kind; body = x }) (record { kind = kind; body = y }) → Alike (record_of kind x) (record_of kind y)
unfolding record_of
whole-alike kind x y h a = rw (stays x (length-one a ∙ h), stays y h) a
  where
    stays : (b : List ℕ) → length b ≡ body_length kind → pad (body_length kind) b ≡ b
    stays b h = ap (λ (w : ℕ). pad w b) (sym h) ∙ pad-same b

-- a body with its mark has one more byte
marked-length : (b : List ℕ) (mark n : ℕ) → length b ≡ n → length (b ++ mark ∷ []) ≡ n + 1
marked-length b mark n h = length-append b (mark ∷ []) ∙ ap (λ (m : ℕ). m + 1) h

-- D27 of D1 to D31 is D27 of D2 to D31, behind the mask
behind-mask : (a f : List ℕ) → length a ≡ 8 → zeroed 1 dwell_body_widths 27 (a ++ f) ≡ a ++ zeroed 2 dwell_widths 27 f
unfolding replaced total
behind-mask a f h = put-behind a f (pad 2 []) 8 69 2 h

-- the mask and D2 to D31 are 86 bytes
dwell-length : (b : List ℕ) → 8 ≤ length b → length (take 8 b ++ dwell_fields b) ≡ 86
dwell-length b h = length-append (take 8 b) (dwell_fields b) ∙ ap₂ ◌+◌ (length-take-le 8 b h) (length-dwell b)

-- r1 is the older reading of a packet that r3 reads in full
module _ (r1 r3 : Reading) (older : is_older r1 ≡ true) (newer : is_older r3 ≡ false) (same : r1.version ≡ r3.version) where
  -- the two records of a dwell are alike
  dwell-alike : (b : List ℕ) → 8 ≤ length b → Alike (dwell_record r1 b) (dwell_record r3 b)
  unfolding dwell_record shown mark body_length
  dwell-alike b h =
      let body = take 8 b ++ dwell_fields b in
      let n : length body ≡ 86 = dwell-length b h in
      rw (older, newer, ← behind-mask (take 8 b) (dwell_fields b) (length-take-le 8 b h)) (whole-alike 3 _ _ (marked-length body 1 86 n) (dwell body n))

  -- the two records of a job definition are alike
  job-alike : (b : List ℕ) → length b ≡ 68 → AllAlike (job_records r1 b) (job_records r3 b)
  unfolding job_records shown mark body_length replaced total
  job-alike b n = rw (older, newer) (next (whole-alike 8 _ _ (marked-length b 1 68 n) (job b n)) none)

  -- the records of a segment are alike, whatever its type
  body_alike : (t : ℕ) (b : List ℕ) → first_row (body_rows r3 t b) ≡ Passed
      → AllAlike (segment_records r1 (record { type = t; body = b })) (segment_records r3 (record { type = t; body = b }))
  unfolding segment_records body_rows is_hrr dwell_records hrr_records hrr_record text_records opaque_records
  body_alike t b =
      by_number r3 (λ (t : ℕ). first_row (body_rows r3 t b) ≡ Passed → AllAlike (segment_records r1 (record { type = t; body = b })) (segment_records r3 (record { type = t; body = b })))
      (λ p. next (same-record 2 b refl refl) none)
      (λ p. next (dwell-alike b (omega (arith, (is-dwell r3 b p).exact))) (run-alike refl refl (targets-run _ _ _ _)))
      (λ h3 p. rw (same, h3) (next (same-record 11 _ refl refl) (run-alike refl refl (scatterers-run _ _ _))))
      (λ p. job-alike b (job-length r3 b p))
      (λ p. next (same-record 5 _ refl refl) (run-alike refl refl (pieces-run _ _)))
      (λ p. next (same-record 9 b refl refl) none)
      (λ p. next (same-record 10 b refl refl) none)
      (λ t h1 h2 h3 h5 h6 h10 h13 p. rw (h1, h2, same, h3, h5, h6, h10, h13) (next (same-record 7 _ refl refl) (run-alike refl refl (pieces-run _ _))))
      t

  -- so are those of all segments
  pub packet-alike : (ss : List Segment) → AllSound r3 ss → AllAlike (packet_records r1 ss) (packet_records r3 ss)
  unfolding packet_records
  packet-alike [] p = none
  packet-alike (s ∷ ss) p = alike-append (body_alike s.type s.body p.0.rows) (packet-alike ss p.1)
