-- The record of an HRR segment, laid out by stores, with its scatterers behind it.
-- Assumes nothing.
use mathlib.Core.Path.{◌≡◌, ap, ◌∙◌}
use mathlib.Core.List.{List, [], ◌∷◌, ◌++◌}
use Prim.Native.Nat.{ℕ, ◌+◌, ◌≤◌}
use native.Mathlib.Omega.{arith}
use lib.ListN.{length, take, drop, length-append}
use lib.Seq.{sets, length-take-le}
use Rattle.octets.proofs.Laws.{then}
use Rattle.mask.specs.Fields.{announced_length, full_fields}
use Rattle.hrr.specs.declared.Scatterers.{Scatterers}
use Rattle.hrr.specs.Hrr.{hrr_mask, hrr_widths, hrr_fields, scatterer_count, scatterer_widths}
use Rattle.hrr.specs.InnerScatterers.{scatterers_of, widths_of}
use Rattle.format.specs.Sheet.{body_length, hrr_record, scatterer_records, hrr_records, record_bytes}
use Rattle.format.specs.Lengths.{record_length}
use Rattle.format.proofs.Lengths.{length-one}
use Rattle.format.proofs.Hrr.{length-hrr-fields}
use Rattle.records.proofs.Laid.{record-laid, records-then, full_body}

-- the record of the segment: the mask, and its fields at full widths
pub hrr-laid : (mask : ℕ) (b l : List ℕ) {x z w : List ℕ} → mask ≡ hrr_mask b → 5 ≤ length b
    → x ≡ sets l 0 (11 ∷ []) → z ≡ sets x 1 (take 5 (drop 0 b)) → w ≡ sets z 6 (full_fields mask 2 hrr_widths (drop 5 b))
    → w ≡ sets l 0 (record_bytes (hrr_record b ∷ []))
unfolding hrr_record hrr_fields body_length
hrr-laid mask b l {x} {z} hm h hx hz hw =
    let f = hrr_fields b in
    let five : length (take 5 b) ≡ 5 = length-take-le 5 b h in
    let all : length (take 5 b ++ f) ≡ 66 = length-append (take 5 b) f ∙ omega (arith, length-hrr-fields b) in
    record-laid 11 (take 5 b ++ f) (take 5 b ++ f) l (full_body 11 _ all) hx
    (then (take 5 b) f x 1 5 hz five (hw ∙ ap (λ (k : ℕ). sets z 6 (full_fields k 2 hrr_widths (drop 5 b))) hm))

-- the segment's record, and behind it its scatterers
pub hrr-with-scatterers : (b l : List ℕ) (s : Scatterers) (at : ℕ) {m w : List ℕ} → s ≡ scatterers_of (hrr_mask b) (hrr_fields b) → at ≡ 5 + announced_length (hrr_mask b) 2 hrr_widths
    → m ≡ sets l 0 (record_bytes (hrr_record b ∷ [])) → w ≡ sets m (record_length 11) (record_bytes (scatterer_records (widths_of s) s.count (drop at b)))
    → w ≡ sets l 0 (record_bytes (hrr_records b))
unfolding hrr_records hrr_record scatterer_widths body_length
hrr-with-scatterers b l s at {m} hs ha hm hw =
    let mask = hrr_mask b in
    let f = hrr_fields b in
    records-then (hrr_record b ∷ []) (scatterer_records (scatterer_widths mask f) (scatterer_count mask f) (drop (5 + announced_length mask 2 hrr_widths) b)) l 0 (record_length 11) hm (length-one 11 _)
    (hw
    ∙ ap (λ (i : ℕ). sets m (record_length 11) (record_bytes (scatterer_records (widths_of s) s.count (drop i b)))) ha
    ∙ ap (λ (k : Scatterers). sets m (record_length 11) (record_bytes (scatterer_records (widths_of k) k.count (drop (5 + announced_length mask 2 hrr_widths) b)))) hs)
