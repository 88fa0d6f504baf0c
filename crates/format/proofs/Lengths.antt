-- How many bytes the records of each segment take on the sheet.
-- Assumes nothing.
use Prim.Native.Nat.{ℕ, zero, suc, ◌+◌, ◌-◌, ◌*◌}
use native.Mathlib.Omega.{arith}
use mathlib.Core.Path.{◌≡◌, refl, sym, ap, ◌∙◌}
use mathlib.Core.Bool.{cond}
use mathlib.Core.List.{List, [], ◌∷◌, ◌++◌, append_assoc}
use lib.Dec.{eqb}
use lib.ListN.{length, drop, length-append, length-drop}
use Rattle.octets.specs.Layout.{total}
use Rattle.octets.proofs.Layouts.{length-pad}
use Rattle.mask.specs.Fields.{announced_length}
use Rattle.hrr.specs.Hrr.{hrr_mask, hrr_widths, hrr_fields, scatterer_count, scatterer_widths}
use Rattle.format.specs.declared.Settings.{Settings}
use Rattle.format.specs.declared.Reading.{Reading}
use Rattle.format.specs.declared.Area.{Area}
use Rattle.format.specs.Dwell.{mask_of, dwell_fields, target_count, targets_of, target_length, area_of}
use Rattle.format.specs.Edition.{is_hrr}
use Rattle.format.specs.Sheet.{Record, body_length, record_of, header_record, dwell_record, target_record, target_records, piece_record, piece_records, piece_count, dwell_records, scatterer_record, scatterer_records, hrr_record, hrr_records, text_records, opaque_records, job_records, segment_records, packet_records, record_bytes}
use Rattle.format.specs.Lengths.{record_length}
use Rattle.format.specs.Reader.{parsed, reading_of, sheet}
use Rattle.format.proofs.Types.{by_number}

-- the bytes of two runs of records, one after the other
pub bytes-append : (rs qs : List Record) → record_bytes (rs ++ qs) ≡ record_bytes rs ++ record_bytes qs
unfolding record_bytes
bytes-append [] qs = refl
bytes-append (r ∷ rs) qs = ap (λ (x : List ℕ). r.kind ∷ x) (ap (λ (x : List ℕ). r.body ++ x) (bytes-append rs qs) ∙ sym (append_assoc r.body (record_bytes rs) (record_bytes qs)))

-- a record before others takes its kind and the body that the kind fixes
pub length-record : (kind : ℕ) (b : List ℕ) (rs : List Record) → length (record_bytes (record_of kind b ∷ rs)) ≡ suc (body_length kind + length (record_bytes rs))
unfolding record_bytes record_of
length-record kind b rs = ap suc (length-append (record_of kind b).body (record_bytes rs) ∙ ap (λ (n : ℕ). n + length (record_bytes rs)) (length-pad (body_length kind) b))

-- so many targets
pub length-targets : (mask : ℕ) (area : Area) (n : ℕ) (t : List ℕ) → length (record_bytes (target_records mask area n t)) ≡ n * record_length 4
unfolding target_records target_record record_bytes body_length
length-targets mask area zero t = refl
length-targets mask area (suc n) t =
    let u = drop (target_length mask) t in
    length-record 4 _ (target_records mask area n u) ∙ omega (arith, length-targets mask area n u)

-- so many scatterers
pub length-scatterers : (ws : List ℕ) (n : ℕ) (t : List ℕ) → length (record_bytes (scatterer_records ws n t)) ≡ n * record_length 12
unfolding scatterer_records scatterer_record record_bytes body_length
length-scatterers ws zero t = refl
length-scatterers ws (suc n) t =
    let u = drop (total ws) t in
    length-record 12 _ (scatterer_records ws n u) ∙ omega (arith, length-scatterers ws n u)

-- so many pieces
pub length-pieces : (n : ℕ) (b : List ℕ) → length (record_bytes (piece_records n b)) ≡ n * record_length 6
unfolding piece_records piece_record record_bytes body_length
length-pieces zero b = refl
length-pieces (suc n) b = length-record 6 _ (piece_records n (drop 32 b)) ∙ omega (arith, length-pieces n (drop 32 b))

-- one record by itself
pub length-one : (kind : ℕ) (b : List ℕ) → length (record_bytes (record_of kind b ∷ [])) ≡ 1 + body_length kind
unfolding record_bytes
length-one kind b = omega (arith, length-record kind b [])

-- the header's record by itself
pub length-header : (l : List ℕ) → length (record_bytes (header_record l ∷ [])) ≡ record_length 1
unfolding header_record body_length
length-header l = length-one 1 l

-- a sheet: the header's record, and those of the segments
pub length-sheet : (settings : Settings) (l : List ℕ) → length (sheet settings l) ≡ record_length 1 + length (record_bytes (packet_records (reading_of settings l) (parsed settings l).segments))
unfolding sheet header_record body_length
length-sheet settings l = length-record 1 l (packet_records (reading_of settings l) (parsed settings l).segments) ∙ omega arith

-- a dwell and its targets
dwell : (r : Reading) (b : List ℕ) → length (record_bytes (dwell_records r b)) ≡ record_length 3 + target_count b * record_length 4
unfolding dwell_records dwell_record body_length
dwell r b =
    length-record 3 _ (target_records (mask_of b) (area_of (dwell_fields b)) (target_count b) (targets_of b))
    ∙ omega (arith, length-targets (mask_of b) (area_of (dwell_fields b)) (target_count b) (targets_of b))

-- an HRR segment and its scatterers
pub length-hrr : (b : List ℕ) → length (record_bytes (hrr_records b)) ≡ record_length 11 + scatterer_count (hrr_mask b) (hrr_fields b) * record_length 12
unfolding hrr_records hrr_record body_length
length-hrr b =
    let ws = scatterer_widths (hrr_mask b) (hrr_fields b) in
    let n = scatterer_count (hrr_mask b) (hrr_fields b) in
    let t = drop (5 + announced_length (hrr_mask b) 2 hrr_widths) b in
    length-record 11 _ (scatterer_records ws n t) ∙ omega (arith, length-scatterers ws n t)

-- a text and its pieces
pub length-text : (b : List ℕ) → length (record_bytes (text_records b)) ≡ record_length 5 + piece_count (length b - 20) * record_length 6
unfolding text_records body_length
length-text b =
    length-record 5 _ (piece_records (piece_count (length (drop 20 b))) (drop 20 b))
    ∙ omega (arith, length-pieces (piece_count (length (drop 20 b))) (drop 20 b), ap (λ (n : ℕ). piece_count n) (length-drop 20 b))

-- an opaque body and its pieces
pub length-opaque : (type : ℕ) (b : List ℕ) → length (record_bytes (opaque_records type b)) ≡ record_length 7 + piece_count (length b) * record_length 6
unfolding opaque_records body_length
length-opaque type b = length-record 7 _ (piece_records (piece_count (length b)) b) ∙ omega (arith, length-pieces (piece_count (length b)) b)

-- a job definition
job : (r : Reading) (b : List ℕ) → length (record_bytes (job_records r b)) ≡ record_length 8
unfolding job_records body_length
job r b = length-one 8 _

-- the bytes of a segment's records, by its type
abbrev pub records_of : Reading → ℕ → List ℕ → ℕ
records_of r type b =
    cond (eqb type 1) (record_length 2)
    (cond (eqb type 2) (record_length 3 + target_count b * record_length 4)
    (cond (eqb type 5) (record_length 8)
    (cond (eqb type 6) (record_length 5 + piece_count (length b - 20) * record_length 6)
    (cond (eqb type 10) (record_length 9)
    (cond (eqb type 13) (record_length 10)
    (cond (is_hrr r type) (record_length 11 + scatterer_count (hrr_mask b) (hrr_fields b) * record_length 12)
    (record_length 7 + piece_count (length b) * record_length 6)))))))

-- it is that of the definition
pub length-segment : (r : Reading) (type : ℕ) (b : List ℕ) → length (record_bytes (segment_records r (record { type = type; body = b }))) ≡ records_of r type b
unfolding segment_records is_hrr body_length
length-segment r type b =
    by_number r (λ (t : ℕ). length (record_bytes (segment_records r (record { type = t; body = b }))) ≡ records_of r t b)
    (length-one 2 b)
    (dwell r b)
    (λ h3. rw h3 (length-hrr b))
    (job r b)
    (length-text b)
    (length-one 9 b)
    (length-one 10 b)
    (λ t h1 h2 h3 h5 h6 h10 h13. rw (h1, h2, h3, h5, h6, h10, h13) (length-opaque t b))
    type
