-- Where the mask and the area keep every target within its bounds: no row of any target applies.
-- Assumes nothing.
use mathlib.Core.Path.{◌≡◌, refl, sym, ap, ◌∙◌}
use mathlib.Core.Bool.{Bool, true, false, cond, not, ◌||◌, true≢false}
use mathlib.Core.List.{List}
use Prim.Native.Nat.{ℕ, zero, suc, ◌-◌, ◌*◌, ◌/◌, ◌^◌, ◌≤◌, ◌<◌}
use native.Mathlib.Omega.{arith}
use borrow.Author.Tests.{le-leb, ltb-false, ltb-true}
use lib.Bits.{bit_and}
use lib.Dec.{ltb, lit≤, lit<}
use lib.IntN.{ℤ, pos, negsuc, nat_abs}
use lib.ListN.{drop}
use lib.Signed.{lt_z}
use Rattle.octets.specs.Octets.{be, twos, signed, Bytes}
use Rattle.octets.specs.Layout.{width, offset, signed_value}
use Rattle.octets.proofs.Laws.{be-lt}
use Rattle.octets.proofs.ByteLists.{drop-bytes}
use Rattle.mask.specs.Fields.{announced, announced_length, target_widths}
use Rattle.mask.proofs.Bit.{set-and, set-none}
use Rattle.mask.proofs.FullWidth.{full-bytes}
use Rattle.mask.proofs.Places.{value-absent, signed-absent}
use Rattle.position.specs.Position.{is_latitude}
use Rattle.position.specs.InnerAlways.{is_always_latitude}
use Rattle.position.proofs.Range.{always-latitude}
use Rattle.format.specs.declared.Area.{Area}
use Rattle.format.specs.Check.{Check, Passed}
use Rattle.format.specs.Dwell.{target_fields, latitude, D32±}
use Rattle.format.specs.Rows.{first_row, target_rows, targets_rows}
use Rattle.dwell_checks.specs.InnerPlan.{is_inside}
use Rattle.format.proofs.Rows.{or_else, first-append}
use Rattle.dwell_checks.proofs.Positions.{rows_are, latitude-there, latitude-summed}

-- a field of a word of which the mask has nothing is not announced
none_of : (mask word n : ℕ) → bit_and mask word ≡ 0 → announced word n ≡ true → announced mask n ≡ false
none_of mask word n e h = go (announced mask n) refl
  where
    go : (b : Bool) → announced mask n ≡ b → b ≡ false
    go true g = absurd (true≢false (sym (set-and mask word n ∙ rw (g, h)) ∙ ap (λ (v : ℕ). announced v n) e ∙ set-none n))
    go false g = refl

-- the size of a signed number of k bytes is at most half of what they count
number_size : (k n m : ℕ) → n < 256 ^ k → 256 ^ k ≡ 2 * m → nat_abs (twos k n) ≤ m
unfolding twos
number_size k n m h e = go (ltb n (256 ^ k / 2)) refl
  where
    go : (t : Bool) → ltb n (256 ^ k / 2) ≡ t → nat_abs (cond t (pos n) (negsuc (256 ^ k - suc n))) ≤ m
    go true g = omega (arith, ltb-true n (256 ^ k / 2) g)
    go false g = omega (arith, ltb-false n (256 ^ k / 2) g)

field-size : (n m : ℕ) (f : List ℕ) → Bytes f → 256 ^ width 32 target_widths n ≡ 2 * m → nat_abs (signed_value 32 target_widths n f) ≤ m
unfolding signed signed_value
field-size n m f h e =
    let w = width 32 target_widths n in
    let s = drop (offset 32 target_widths n) f in
    number_size w (be w s) m (be-lt w s (drop-bytes (offset 32 target_widths n) f h)) e

-- every D32.2 is a latitude, and where D10 and D24 are small enough every D32.4 gives one
pub always-inside : (mask : ℕ) (area : Area) (t : List ℕ) → Bytes t → is_inside mask area ≡ true → is_latitude (latitude mask area (target_fields mask t)) ≡ true
unfolding is_latitude target_fields
always-inside mask area t h e = go (announced mask 33) refl e
  where
    f : List ℕ
    f = target_fields mask t

    bytes : Bytes f
    bytes = full-bytes mask 32 target_widths t h

    go : (b : Bool) → announced mask 33 ≡ b → (b || is_always_latitude area.d10.0 area.d24.0) ≡ true → is_latitude (latitude mask area f) ≡ true
    go true own s = ap is_latitude (sym (latitude-there mask area f own refl)) ∙ le-leb (nat_abs (D32± 2 f)) (2 ^ 31) (field-size 33 (2 ^ 31) f bytes refl)
    go false own s =
        ap is_latitude (sym (latitude-summed mask area f own refl refl)) ∙ always-latitude (D32± 4 f) area.d10.0 area.d24.0 (field-size 35 (2 ^ 15) f bytes refl) s

module _ (mask : ℕ) (area : Area) (inside : is_inside mask area ≡ true) (none : bit_and mask 0x1088_0000 ≡ 0) where
  target-within : (t : List ℕ) → Bytes t → first_row (target_rows mask area t) ≡ Passed
  unfolding announced twos target_fields
  target-within t h =
      rows_are mask area t {p = false} {q = false} {r = false} {s = false}
      (ap (λ (v : ℤ). lt_z v (negsuc 999)) (sym (signed-absent mask 32 37 target_widths (lit≤ tt) (lit< tt) t 0 refl (none_of mask 0x1088_0000 37 none refl))))
      (ap (ltb 100) (sym (value-absent mask 32 42 target_widths (lit≤ tt) (lit< tt) t 0 (none_of mask 0x1088_0000 42 none refl))))
      (ap (ltb 5000) (sym (value-absent mask 32 46 target_widths (lit≤ tt) (lit< tt) t 0 (none_of mask 0x1088_0000 46 none refl))))
      (ap not (always-inside mask area t h inside))

  pub targets-within : (n : ℕ) (t : List ℕ) → Bytes t → first_row (targets_rows mask area n t) ≡ Passed
  unfolding first_row targets_rows
  targets-within zero t h = refl
  targets-within (suc n) t h =
      let each = announced_length mask 32 target_widths in
      first-append (target_rows mask area t) (targets_rows mask area n (drop each t))
      ∙ ap (λ (c : Check). or_else c (first_row (targets_rows mask area n (drop each t)))) (target-within t h)
      ∙ targets-within n (drop each t) (drop-bytes each t h)
