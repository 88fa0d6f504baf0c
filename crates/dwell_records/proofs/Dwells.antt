-- The record of a dwell, laid out by stores, with its targets behind it.
-- Assumes nothing.
use mathlib.Core.Path.{◌≡◌, refl, sym, ap, ◌∙◌}
use mathlib.Core.Bool.{Bool, true, false, cond}
use mathlib.Core.List.{List, [], ◌∷◌, ◌++◌}
use Prim.Native.Nat.{ℕ, ◌≤◌}
use native.Mathlib.Omega.{arith}
use lib.ListN.{length, take, drop, length-append}
use lib.Seq.{sets, sets-eq, length-sets, length-take-le}
use Rattle.octets.specs.Layout.{pad, total, replaced, zeroed}
use Rattle.octets.proofs.Laws.{then}
use Rattle.mask.specs.Fields.{full_fields, dwell_widths}
use Rattle.format.specs.declared.Reading.{Reading}
use Rattle.format.specs.Dwell.{mask_of, dwell_fields, target_count, targets_of, area_of}
use Rattle.format.specs.Edition.{is_older, shown, mark}
use Rattle.format.specs.Sheet.{body_length, dwell_record, target_records, dwell_records, record_bytes}
use Rattle.format.specs.Lengths.{record_length}
use Rattle.dwell_checks.specs.declared.Plan.{Plan}
use Rattle.dwell_checks.specs.InnerPlan.{plan_of}
use Rattle.format.proofs.Bodies.{length-dwell}
use Rattle.copies.proofs.Stores.{sets-within}
use Rattle.format.proofs.Lengths.{length-one}
use Rattle.records.proofs.Laid.{record-laid, records-then, full_body}

-- D27 as the reading shows it, in its place
d27-shown : (r : Reading) (f : List ℕ) → length f ≡ 78 → cond (is_older r) (sets f 69 (pad 2 [])) f ≡ shown r 2 dwell_widths 27 f
unfolding shown replaced total pad
d27-shown r f h = go (is_older r)
  where
    go : (o : Bool) → cond o (sets f 69 (pad 2 [])) f ≡ cond o (zeroed 2 dwell_widths 27 f) f
    go true = sets-eq (pad 2 []) f 69 (omega arith)
    go false = refl

-- the length of the fields so shown
length-shown : (r : Reading) (f : List ℕ) → length f ≡ 78 → length (shown r 2 dwell_widths 27 f) ≡ 78
length-shown r f h = ap length (sym (d27-shown r f h)) ∙ go (is_older r)
  where
    go : (o : Bool) → length (cond o (sets f 69 (pad 2 [])) f) ≡ 78
    go true = length-sets f 69 (pad 2 []) ∙ h
    go false = h

-- zeros stored in the place of D27 where it is withheld
withheld : (o : Bool) (f y : List ℕ) → length f ≡ 78 → cond o (sets (sets y 9 f) 78 (pad 2 [])) (sets y 9 f) ≡ sets y 9 (cond o (sets f 69 (pad 2 [])) f)
unfolding pad
withheld true f y h = sets-within (pad 2 []) f y 9 69 (omega arith)
withheld false f y h = refl

-- the record of a dwell: the mask, its fields at full widths, D27 withheld, and the mark
pub dwell-laid : (r : Reading) (mask v : ℕ) (b l : List ℕ) {x y z u w : List ℕ}
    → mask ≡ mask_of b → v ≡ mark r → 8 ≤ length b → x ≡ sets l 0 (3 ∷ []) → y ≡ sets x 1 (take 8 (drop 0 b)) → z ≡ sets y 9 (full_fields mask 2 dwell_widths (drop 8 b))
    → u ≡ cond (is_older r) (sets z 78 (pad 2 [])) z → w ≡ sets u 87 (v ∷ []) → w ≡ sets l 0 (record_bytes (dwell_record r b ∷ []))
unfolding dwell_record body_length dwell_fields
dwell-laid r mask v b l {x} {y} {z} {u} hm hv h hx hy hz hu hw =
    let f = dwell_fields b in
    let s = shown r 2 dwell_widths 27 f in
    let n : length s ≡ 78 = length-shown r f (length-dwell b) in
    let t : length (take 8 b) ≡ 8 = length-take-le 8 b h in
    let g : u ≡ sets y 9 s =
    hu ∙ ap (λ (k : List ℕ). cond (is_older r) (sets k 78 (pad 2 [])) k) (hz ∙ ap (λ (k : ℕ). sets y 9 (full_fields k 2 dwell_widths (drop 8 b))) hm)
    ∙ withheld (is_older r) f y (length-dwell b) ∙ ap (sets y 9) (d27-shown r f (length-dwell b)) in
    let a : length (take 8 b ++ s) ≡ 86 = length-append (take 8 b) s ∙ omega arith in
    let m : length (take 8 b ++ s ++ mark r ∷ []) ≡ 87 = length-append (take 8 b ++ s) (mark r ∷ []) ∙ omega arith in
    record-laid 3 (take 8 b ++ s ++ mark r ∷ []) (take 8 b ++ s ++ mark r ∷ []) l (full_body 3 _ m) hx
    (then (take 8 b ++ s) (mark r ∷ []) x 1 86 (then (take 8 b) s x 1 8 hy t g) a (hw ∙ ap (λ (k : ℕ). sets u 87 (k ∷ [])) hv))

-- a dwell's record, and behind it the targets of its plan
pub dwell-with-targets : (r : Reading) (b l : List ℕ) (p : Plan) {m w : List ℕ}
    → p ≡ plan_of b → m ≡ sets l 0 (record_bytes (dwell_record r b ∷ [])) → w ≡ sets m (record_length 3) (record_bytes (target_records p.mask p.area p.count (drop p.start b)))
    → w ≡ sets l 0 (record_bytes (dwell_records r b))
unfolding dwell_records dwell_record body_length targets_of
dwell-with-targets r b l p {m} e hm hw =
    records-then (dwell_record r b ∷ []) (target_records (mask_of b) (area_of (dwell_fields b)) (target_count b) (targets_of b)) l 0 (record_length 3) hm (length-one 3 _)
    (hw ∙ ap (λ (q : Plan). sets m (record_length 3) (record_bytes (target_records q.mask q.area q.count (drop q.start b)))) e)
