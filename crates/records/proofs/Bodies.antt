-- The records of a job definition, of a text and of an opaque segment, laid out by stores.
-- Assumes nothing.
use mathlib.Core.Path.{◌≡◌, refl, sym, ap, ◌∙◌}
use mathlib.Core.Bool.{Bool, true, false, cond}
use mathlib.Core.List.{List, [], ◌∷◌, ◌++◌, append_assoc}
use Prim.Native.Nat.{ℕ, suc, ◌+◌, ◌-◌, ◌≤◌}
use native.Mathlib.Omega.{arith}
use lib.ListN.{length, get_or, set, take, drop, length-append, length-set}
use lib.Seq.{sets, set_split, set-get_or, take_all, length-take-le}
use Rattle.octets.specs.Octets.{bytes}
use Rattle.octets.specs.Layout.{pad, total, replaced, zeroed}
use Rattle.octets.proofs.Laws.{length-bytes, then}
use Rattle.format.specs.declared.Reading.{Reading}
use Rattle.format.specs.Packet.{job_widths}
use Rattle.format.specs.Edition.{is_older, shown, mark}
use Rattle.format.specs.Sheet.{body_length, record_of, pieces_of, text_records, opaque_records, job_records, record_bytes}
use Rattle.format.specs.Lengths.{record_length}
use Rattle.copies.proofs.Stores.{sets-within}
use Rattle.format.proofs.Lengths.{length-one}
use Rattle.records.proofs.Laid.{record-laid, records-then, full_body}

-- ---- a job definition

-- J26 as the reading shows it, in its place
j26-shown : (r : Reading) (b : List ℕ) → length b ≡ 68 → set b 65 (cond (is_older r) 0 (get_or b 65 0)) ≡ shown r 1 job_widths 26 b
unfolding shown replaced total pad
j26-shown r b h = go (is_older r)
  where
    go : (o : Bool) → set b 65 (cond o 0 (get_or b 65 0)) ≡ cond o (zeroed 1 job_widths 26 b) b
    go true = set_split b 65 0 (omega arith) ∙ sym (append_assoc (take 65 b) (0 ∷ []) (drop 66 b))
    go false = set-get_or b 65 0

-- its record: the body, J26 in it once more as it is shown, and the mark
pub job-laid : (r : Reading) (b l : List ℕ) {x y z w : List ℕ}
    → length b + 1 ≡ body_length 8 → x ≡ sets l 0 (8 ∷ []) → y ≡ sets x 1 (take 68 b) → z ≡ sets y 66 (cond (is_older r) 0 (get_or b 65 0) ∷ []) → w ≡ sets z 69 (mark r ∷ [])
    → w ≡ sets l 0 (record_bytes (job_records r b))
unfolding job_records body_length
job-laid r b l {x} {y} {z} e hx hy hz hw =
    let h : length b ≡ 68 = omega arith in
    let s = shown r 1 job_widths 26 b in
    let n : length s ≡ 68 = ap length (sym (j26-shown r b h)) ∙ length-set b 65 _ ∙ h in
    let v : z ≡ sets x 1 s =
    hz ∙ ap (λ (k : List ℕ). sets k 66 (cond (is_older r) 0 (get_or b 65 0) ∷ [])) (hy ∙ ap (sets x 1) (take_all 68 b (omega arith)))
    ∙ sets-within (cond (is_older r) 0 (get_or b 65 0) ∷ []) b x 1 65 (omega arith) ∙ ap (sets x 1) (j26-shown r b h) in
    let m : length (s ++ mark r ∷ []) ≡ 69 = length-append s (mark r ∷ []) ∙ omega arith in
    record-laid 8 (s ++ mark r ∷ []) (s ++ mark r ∷ []) l (full_body 8 _ m) hx (then s (mark r ∷ []) x 1 68 v n hw)

-- ---- bodies that are carried by pieces

-- the record of a text: F1 and F2, and the length of F3
pub text-first : (b l : List ℕ) {x y w : List ℕ}
    → 20 ≤ length b → x ≡ sets l 0 (5 ∷ []) → y ≡ sets x 1 (take 20 b) → w ≡ sets y 21 (bytes 4 (length b - 20))
    → w ≡ sets l 0 (record_bytes (record_of 5 (take 20 b ++ bytes 4 (length b - 20)) ∷ []))
unfolding body_length
text-first b l {x} h hx hy hw =
    let n = length b - 20 in
    let v = take 20 b ++ bytes 4 n in
    let t : length (take 20 b) ≡ 20 = length-take-le 20 b h in
    let m : length v ≡ 24 = length-append (take 20 b) (bytes 4 n) ∙ omega (arith, length-bytes 4 n) in
    record-laid 5 v v l (full_body 5 v m) hx (then (take 20 b) (bytes 4 n) x 1 20 hy t hw)

-- and the pieces behind it
pub text-laid : (b l : List ℕ) {z w : List ℕ}
    → z ≡ sets l 0 (record_bytes (record_of 5 (take 20 b ++ bytes 4 (length b - 20)) ∷ [])) → w ≡ sets z (record_length 5) (record_bytes (pieces_of (drop 20 b)))
    → w ≡ sets l 0 (record_bytes (text_records b))
unfolding text_records body_length
text-laid b l hz hw =
    let v = take 20 b ++ bytes 4 (length b - 20) in
    records-then (record_of 5 v ∷ []) (pieces_of (drop 20 b)) l 0 (record_length 5) hz (length-one 5 v) hw

-- the record of an opaque segment: the type, and the length
pub opaque-first : (type : ℕ) (b l : List ℕ) {x y w : List ℕ}
    → x ≡ sets l 0 (7 ∷ []) → y ≡ sets x 1 (type ∷ []) → w ≡ sets y 2 (bytes 4 (length b)) → w ≡ sets l 0 (record_bytes (record_of 7 (type ∷ bytes 4 (length b)) ∷ []))
unfolding body_length
opaque-first type b l {x} hx hy hw =
    let v = type ∷ bytes 4 (length b) in
    let m : length v ≡ 5 = ap suc (length-bytes 4 (length b)) in
    record-laid 7 v v l (full_body 7 v m) hx (then (type ∷ []) (bytes 4 (length b)) x 1 1 hy refl hw)

-- and the pieces behind it
pub opaque-laid : (type : ℕ) (b l : List ℕ) {z w : List ℕ}
    → z ≡ sets l 0 (record_bytes (record_of 7 (type ∷ bytes 4 (length b)) ∷ [])) → w ≡ sets z (record_length 7) (record_bytes (pieces_of b)) → w ≡ sets l 0 (record_bytes (opaque_records type b))
unfolding opaque_records body_length
opaque-laid type b l hz hw =
    let v = type ∷ bytes 4 (length b) in
    records-then (record_of 7 v ∷ []) (pieces_of b) l 0 (record_length 7) hz (length-one 7 v) hw
