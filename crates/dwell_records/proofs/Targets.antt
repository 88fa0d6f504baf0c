-- The record of a target, laid out by stores, and the loop over targets.
-- Assumes nothing.
use mathlib.Core.Path.{◌≡◌, refl, sym, ap, ◌∙◌}
use mathlib.Core.Bool.{true}
use mathlib.Core.List.{List, [], ◌∷◌, ◌++◌, append_assoc}
use Prim.Native.Nat.{ℕ, zero, suc, ◌+◌, ◌-◌, ◌*◌}
use native.Mathlib.Nat.{zero-add, suc-add, zero-mul, suc-mul}
use native.Mathlib.Omega.{arith}
use borrow.Author.Tests.{not-false}
use lib.IntN.{ℤ, pos, negsuc}
use lib.ListN.{length, drop, length-append}
use lib.Seq.{sets, drop-drop}
use borrow.Rule.Slice.PartMut.{mid_of}
use Rattle.octets.specs.Octets.{bytes, signed_bytes}
use Rattle.octets.specs.Layout.{total}
use Rattle.octets.proofs.Laws.{then, length-bytes}
use Rattle.octets.proofs.Parts.{tail-is}
use Rattle.mask.specs.Fields.{full_fields, target_widths}
use Rattle.mask.proofs.FullWidth.{length-full}
use Rattle.position.specs.Position.{is_latitude, latitude_micro, longitude_micro}
use Rattle.format.specs.declared.Area.{Area}
use Rattle.format.specs.Check.{Passed}
use Rattle.format.specs.Dwell.{target_fields, target_length, latitude, longitude}
use Rattle.format.specs.Sheet.{body_length, target_record, target_records, record_bytes}
use Rattle.format.specs.Lengths.{record_length}
use Rattle.format.specs.Rows.{Row, first_row, target_rows, targets_rows}
use Rattle.format.proofs.Rows.{first_passes, both-pass}
use Rattle.format.proofs.Lengths.{length-one}
use Rattle.records.proofs.Laid.{record-laid, full_body, records-next, records-append}

-- a signed number has the length of its bytes
length-signed : (k : ℕ) (z : ℤ) → length (signed_bytes k z) ≡ k
unfolding signed_bytes
length-signed k (pos n) = length-bytes k _
length-signed k (negsuc n) = length-bytes k _

-- the fields of a target at full widths
length-target : (mask : ℕ) (t : List ℕ) → length (target_fields mask t) ≡ 36
unfolding target_fields total
length-target mask t = length-full mask 32 target_widths t

-- the record of a target: its fields, its latitude x and its longitude y
pub target-laid : (mask : ℕ) (area : Area) (t l : List ℕ) (x : ℤ) (y : ℕ) {i j k w : List ℕ}
    → x ≡ latitude_micro (latitude mask area (target_fields mask t)) → y ≡ longitude_micro (longitude mask area (target_fields mask t))
    → i ≡ sets l 0 (4 ∷ []) → j ≡ sets i 1 (full_fields mask 32 target_widths (drop 0 t)) → k ≡ sets j 37 (signed_bytes 4 x) → w ≡ sets k 41 (bytes 4 y)
    → w ≡ sets l 0 (record_bytes (target_record mask area t ∷ []))
unfolding target_record target_fields body_length
target-laid mask area t l x y {i} {j} {k} hx hy hi hj hk hw =
    let f = target_fields mask t in
    let a = latitude_micro (latitude mask area f) in
    let b = longitude_micro (longitude mask area f) in
    let v = f ++ signed_bytes 4 a ++ bytes 4 b in
    let n : length (f ++ signed_bytes 4 a) ≡ 40 = length-append f (signed_bytes 4 a) ∙ omega (arith, length-target mask t, length-signed 4 a) in
    let m : length v ≡ 44 = length-append (f ++ signed_bytes 4 a) (bytes 4 b) ∙ omega (arith, length-bytes 4 b) in
    let k' = hk ∙ ap (λ (z : ℤ). sets j 37 (signed_bytes 4 z)) hx in
    let w' = hw ∙ ap (λ (z : ℕ). sets k 41 (bytes 4 z)) hy in
    record-laid 4 v v l (full_body 4 v m) hi
    (then (f ++ signed_bytes 4 a) (bytes 4 b) i 1 40 (then f (signed_bytes 4 a) i 1 36 hj (length-target mask t) k') n w')

-- ---- targets in a row

module _ (mask : ℕ) (area : Area) where
  -- the next target of several
  target-step : (n : ℕ) (t : List ℕ) → target_records mask area (suc n) t ≡ target_record mask area t ∷ target_records mask area n (drop (target_length mask) t)
  unfolding target_records
  target-step n t = refl

  -- the length of a target's record
  length-of-target : (t : List ℕ) → length (record_bytes (target_record mask area t ∷ [])) ≡ record_length 4
  unfolding target_record body_length
  length-of-target t = length-one 4 _

  -- the loop: once the target at p is stored at q, what is left to store still gives all of them
  pub targets_next : (n k p q each : ℕ) (t o all : List ℕ) {m : List ℕ}
      → n ≡ suc k → each ≡ target_length mask → m ≡ sets o q (record_bytes (target_record mask area (drop p t) ∷ [])) → sets o q (record_bytes (target_records mask area n (drop p t))) ≡ all
      → sets m (q + record_length 4) (record_bytes (target_records mask area k (drop (p + each) t))) ≡ all
  targets_next n k p q each t o all {m} hn he hm e =
      ap (λ (u : ℕ). sets m (q + record_length 4) (record_bytes (target_records mask area k (drop (p + u) t)))) he
      ∙ records-next (target_record mask area) (target_records mask area) (target_length mask) (record_length 4) target-step length-of-target n k p q t o all hn hm e

  -- at the end none are left to store
  pub targets-last : (n p q : ℕ) (t o all : List ℕ) → n ≡ 0 → sets o q (record_bytes (target_records mask area n (drop p t))) ≡ all → o ≡ all
  unfolding target_records record_bytes
  targets-last n p q t o all hn e = rw hn at e

  -- where no row applies to several targets, none applies to the first, and none to those behind it
  rows_split : (n : ℕ) (t : List ℕ) → first_row (targets_rows mask area (suc n) t) ≡ Passed → (first_row (target_rows mask area t) ≡ Passed) × (first_row (targets_rows mask area n (drop (target_length mask) t)) ≡ Passed)
  unfolding targets_rows
  rows_split n t e = both-pass (target_rows mask area t) (targets_rows mask area n (drop (target_length mask) t)) e

  -- a target to which no row applies has a latitude
  is-placed : (t : List ℕ) → first_row (target_rows mask area t) ≡ Passed → is_latitude (latitude mask area (target_fields mask t)) ≡ true
  unfolding target_rows
  is-placed t e =
      let one = first_passes _ _ e in
      let two = first_passes _ _ one.1 in
      let three = first_passes _ _ two.1 in
      let four = first_passes _ _ three.1 in
      not-false _ four.0

  -- so at a turn of the loop, where n targets are left from p on
  pub turn-placed : (n k p : ℕ) (t : List ℕ) → n ≡ suc k → first_row (targets_rows mask area n (drop p t)) ≡ Passed → is_latitude (latitude mask area (target_fields mask (mid_of p (length t - p) t))) ≡ true
  turn-placed n k p t hn e = ap (λ (x : List ℕ). is_latitude (latitude mask area (target_fields mask x))) (tail-is p t) ∙ is-placed (drop p t) (rows_split k (drop p t) (rw hn at e)).0

  -- and behind it
  pub rows_next : (n k p each : ℕ) (t : List ℕ) → n ≡ suc k → each ≡ target_length mask → first_row (targets_rows mask area n (drop p t)) ≡ Passed → first_row (targets_rows mask area k (drop (p + each) t)) ≡ Passed
  rows_next n k p each t hn he e = rw (he, ← drop-drop (target_length mask) p t) (rows_split k (drop p t) (rw hn at e)).1

  -- ---- the first j of several targets, and those behind them

  pub targets-append : (j k : ℕ) (t : List ℕ) → target_records mask area (j + k) t ≡ target_records mask area j t ++ target_records mask area k (drop (j * target_length mask) t)
  unfolding target_records
  targets-append = records-append (target_record mask area) (target_records mask area) (target_length mask) (record_length 4) target-step length-of-target (λ t. refl)

  rows_are : (j k : ℕ) (t : List ℕ) → targets_rows mask area (j + k) t ≡ targets_rows mask area j t ++ targets_rows mask area k (drop (j * target_length mask) t)
  unfolding targets_rows
  rows_are zero k t = rw (zero-add, zero-mul)
  rows_are (suc j) k t =
      let u = target_length mask in
      let p : u + j * u ≡ suc j * u = omega (arith, suc-mul j u) in
      ap (λ (n : ℕ). targets_rows mask area n t) (suc-add j k)
      ∙ ap (λ (x : List Row). target_rows mask area t ++ x) (rows_are j k (drop u t) ∙ ap (λ (x : List ℕ). targets_rows mask area j (drop u t) ++ targets_rows mask area k x) (drop-drop (j * u) u t ∙ ap (λ (n : ℕ). drop n t) p))
      ∙ sym (append_assoc (target_rows mask area t) (targets_rows mask area j (drop u t)) (targets_rows mask area k (drop (suc j * u) t)))

  -- where no row applies to all, none applies to the ones or to the others
  pub rows_append : (j k : ℕ) (t : List ℕ) → first_row (targets_rows mask area (j + k) t) ≡ Passed
      → (first_row (targets_rows mask area j t) ≡ Passed) × (first_row (targets_rows mask area k (drop (j * target_length mask) t)) ≡ Passed)
  rows_append j k t e = both-pass (targets_rows mask area j t) (targets_rows mask area k (drop (j * target_length mask) t)) (sym (ap first_row (rows_are j k t)) ∙ e)
