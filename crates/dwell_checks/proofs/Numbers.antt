-- Laws of the numbers that are read: where the fields of a dwell and of a target stand, and what stands there.
-- Assumes nothing.
use mathlib.Core.Path.{◌≡◌, refl, sym, ap, ap₂, ◌∙◌}
use mathlib.Core.Bool.{true, false, cond}
use mathlib.Core.List.{List, [], ◌∷◌, ◌++◌}
use Prim.Native.Nat.{ℕ, suc, ◌+◌, ◌-◌, ◌*◌, ◌≤◌, ◌<◌}
use native.Mathlib.Nat.{mul-le-mul}
use native.Mathlib.Omega.{arith}
use lib.IntN.{ℤ}
use lib.ListN.{length, get_or, take, drop, length-drop}
use lib.Dec.{lit≤, lit<}
use lib.Seq.{take-suc, drop-drop, get_or-drop, get_or-append-add, length-take-le}
use Rattle.octets.specs.Octets.{be, twos, signed}
use Rattle.octets.specs.Layout.{total, width, value, signed_value}
use Rattle.mask.specs.Fields.{announced, taken, announced_length, full_fields, dwell_widths, target_widths}
use Rattle.mask.specs.Mask.{is_required}
use Rattle.mask.specs.InnerFields.{widths, Required}
use Rattle.mask.proofs.FullWidth.{announced-le, announced-append}
use Rattle.mask.proofs.Unfaulted.{from-10, from-28}
use Rattle.mask.proofs.Places.{announced_before, field-within, value-full, value_there}
use Rattle.octets.proofs.Laws.{one_byte}
use Rattle.format.specs.Dwell.{D, mask_of, dwell_fields, target_fields, target_length}
use Rattle.dwell_checks.specs.InnerPlan.{number_if}

-- ---- a number at its place

-- where field n is announced and where it is not
module _ (mask n w at : ℕ) (b : List ℕ) where
  pub if-there : {r : ℕ} → announced mask n ≡ true → r ≡ be w (drop at b) → r ≡ number_if mask n w at b
  if-there e h = rw e h

  pub if-absent : announced mask n ≡ false → 0 ≡ number_if mask n w at b
  if-absent e = rw e

-- field n of a table whose bytes begin at p, read at the place where it stands
module _ (mask first n : ℕ) (ws : List ℕ) (lo : first ≤ n) (hi : n < first + length ws) (b : List ℕ) (p at : ℕ) (place : at ≡ p + announced_before mask first ws n) where
  -- it lies within b where the announced fields do
  pub field_room : p + announced_length mask first ws ≤ length b → announced mask n ≡ true → at + width first ws n ≤ length b
  field_room h e = omega (arith, field-within mask first n ws lo hi e)

  pub field-read : {r : ℕ} → r ≡ number_if mask n (width first ws n) at b → r ≡ value first ws n (full_fields mask first ws (drop p b))
  field-read h =
      h
      ∙ ap (λ (i : ℕ). number_if mask n (width first ws n) i b) place
      ∙ ap (λ (l : List ℕ). cond (announced mask n) (be (width first ws n) l) 0) (sym (drop-drop (announced_before mask first ws n) p b))
      ∙ sym (value-full mask first n ws lo hi (drop p b))

  pub field-signed : {z : ℤ} → z ≡ twos (width first ws n) (number_if mask n (width first ws n) at b) → z ≡ signed_value first ws n (full_fields mask first ws (drop p b))
  unfolding signed_value signed value
  field-signed h = h ∙ ap (twos (width first ws n)) (field-read refl)

-- so field n of the target at the front of t
module _ (mask n at : ℕ) (t : List ℕ) (lo : 32 ≤ n) (hi : n < 50) (place : at ≡ announced_before mask 32 target_widths n) where
  start : at ≡ 0 + announced_before mask 32 target_widths n
  start = omega arith

  pub target-asked : target_length mask ≤ length t → (2 ≤ n) × (n ≤ 65) × (announced mask n ≡ true → at + width 32 target_widths n ≤ length t)
  target-asked h = (omega arith, omega arith, field_room mask 32 n target_widths lo hi t 0 at start (omega arith))

  pub target-read : {r : ℕ} → r ≡ number_if mask n (width 32 target_widths n) at t → r ≡ value 32 target_widths n (target_fields mask t)
  unfolding target_fields
  target-read = field-read mask 32 n target_widths lo hi t 0 at start

  pub target-signed : {z : ℤ} → z ≡ twos (width 32 target_widths n) (number_if mask n (width 32 target_widths n) at t) → z ≡ signed_value 32 target_widths n (target_fields mask t)
  unfolding target_fields
  target-signed = field-signed mask 32 n target_widths lo hi t 0 at start

-- ---- the bytes in front of a field

-- the announced bytes of one field more
announced-next : (mask first i : ℕ) (ws : List ℕ) → i < length ws → announced_length mask first (take (suc i) ws) ≡ announced_length mask first (take i ws) + taken mask (first + i) (get_or ws i 0)
unfolding announced_length
announced-next mask first i ws h =
    ap (announced_length mask first) (take-suc ws i 0 h)
    ∙ announced-append mask first (take i ws) (get_or ws i 0 ∷ [])
    ∙ ap (λ (k : ℕ). announced_length mask first (take i ws) + (taken mask (first + k) (get_or ws i 0) + 0)) (length-take-le i ws (omega arith))
    ∙ omega arith

-- and of a target's fields from the first on, one more, which is n
pub span-next : (mask first n : ℕ) → 32 ≤ first → first ≤ n → n < 50
    → announced_length mask first (widths first n) ≡ announced_length mask first (take (n - first) (drop (first - 2) (dwell_widths ++ target_widths))) + taken mask n (get_or target_widths (n - 32) 0)
span-next mask first n lo mid hi =
    let all = dwell_widths ++ target_widths in
    let ws = drop (first - 2) all in
    let i = n - first in
    let more : n + 1 - first ≡ suc i = omega arith in
    let there : first + i ≡ n = omega arith in
    let k : first - 2 + i ≡ length dwell_widths + (n - 32) = omega arith in
    ap (λ (j : ℕ). announced_length mask first (take j ws)) more
    ∙ announced-next mask first i ws (omega (arith, length-drop (first - 2) all))
    ∙ ap₂ (λ (m w : ℕ). announced_length mask first (take i ws) + taken mask m w) there
    (get_or-drop (first - 2) all i 0 ∙ ap (λ (j : ℕ). get_or all j 0) k ∙ get_or-append-add dwell_widths target_widths (n - 32) 0)

-- the most bytes that a dwell's fields take, and its targets
pub most : (mask count : ℕ) → count ≤ 65535 → (announced_length mask 2 dwell_widths ≤ 78) × (count * target_length mask ≤ 65535 * 36)
unfolding total
most mask count h = (announced-le mask 2 dwell_widths, mul-le-mul h (announced-le mask 32 target_widths))

-- where the required fields are announced, D2 to D9 take all their widths
module _ (mask : ℕ) (h : Required mask) where
  before-4 : announced_before mask 2 dwell_widths 4 ≡ 4
  unfolding is_required announced_length
  before-4 = rw (h 2 refl, h 3 refl)

  pub before-5 : announced_before mask 2 dwell_widths 5 ≡ 5
  unfolding is_required announced_length
  before-5 = rw (h 2 refl, h 3 refl, h 4 refl)

  pub before-10 : announced_before mask 2 dwell_widths 10 ≡ 23
  unfolding announced_length
  before-10 = from-10 mask h []

  pub before-11 : announced_before mask 2 dwell_widths 11 ≡ 23 + taken mask 10 4
  unfolding announced_length
  before-11 = omega (arith, from-10 mask h (4 ∷ []))

  -- D25 stands behind D24
  pub before-25 : announced_before mask 2 dwell_widths 25 ≡ announced_before mask 2 dwell_widths 24 + 4
  unfolding is_required announced_length
  before-25 = rw (h 24 refl) (omega arith)

  -- the fields before D24, and those from there on
  pub split-24 : announced_length mask 2 dwell_widths ≡ announced_length mask 2 (widths 2 23) + announced_length mask 24 (widths 24 31)
  split-24 = announced-append mask 2 (widths 2 23) (widths 24 31)

  -- and all required fields take 35 bytes
  pub required-length : 35 ≤ announced_length mask 2 dwell_widths
  required-length = omega (arith, split-24, from-10 mask h (widths 10 23), from-28 mask h (widths 28 31))

-- D4 of a body with the required fields
pub d4-is : (b : List ℕ) → Required (mask_of b) → get_or b 12 0 ≡ D 4 (dwell_fields b)
unfolding is_required dwell_fields
d4-is b h =
    let at = sym (ap (λ (m : ℕ). 8 + m) (before-4 (mask_of b) h)) in
    value_there (mask_of b) 2 4 dwell_widths (lit≤ tt) (lit< tt) b 8 12 (h 4 refl) at (sym (one_byte 12 b))

-- what is said of a dwell's fields by its mask, however the mask is known
pub by_mask : {A : Type 0} (f : List ℕ → A) (b : List ℕ) (mask : ℕ) → mask ≡ mask_of b → f (full_fields mask 2 dwell_widths (drop 8 b)) ≡ f (dwell_fields b)
unfolding dwell_fields
by_mask f b mask e = ap (λ (m : ℕ). f (full_fields m 2 dwell_widths (drop 8 b))) e
