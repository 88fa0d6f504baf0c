-- The number in a field at full widths is the number at its announced place in the bytes, and 0 where the field is absent.
-- Over every mask, first field, table of widths and bytes. Assumes nothing.
use mathlib.Core.Path.{◌≡◌, refl, sym, ap, ap₂, ◌∙◌}
use mathlib.Core.Bool.{Bool, true, false, cond}
use mathlib.Core.List.{List, [], ◌∷◌, ◌++◌}
use Prim.Native.Nat.{ℕ, zero, suc, ◌+◌, ◌-◌, ◌*◌, ◌≤◌, ◌<◌}
use native.Mathlib.Nat.{le_refl, not-suc-le-zero}
use native.Mathlib.Omega.{arith}
use lib.IntN.{ℤ, pos}
use lib.ListN.{length, get_or, take, drop}
use lib.Seq.{drop_at, drop-drop, split_at, length-take-le}
use Rattle.octets.specs.Octets.{be, twos, signed}
use Rattle.octets.specs.Layout.{pad, total, width, value, signed_value}
use Rattle.mask.specs.Fields.{announced, taken, announced_length, full_fields}
use Rattle.mask.proofs.FullWidth.{length-full, announced-append, full-append}

-- each byte of a padded list is the list's own, and 0 behind its end
pad-byte : (k : ℕ) (x r : List ℕ) (i : ℕ) → i < k → get_or (pad k x ++ r) i 0 ≡ get_or x i 0
unfolding pad
pad-byte zero x r i h = absurd (not-suc-le-zero h)
pad-byte (suc k) [] r zero h = refl
pad-byte (suc k) [] r (suc i) h = pad-byte k [] r i (omega arith)
pad-byte (suc k) (y ∷ x) r zero h = refl
pad-byte (suc k) (y ∷ x) r (suc i) h = pad-byte k x r i (omega arith)

-- so is a number in its first j bytes
be-pad : (j k : ℕ) (x r : List ℕ) → j ≤ k → be j (pad k x ++ r) ≡ be j x
unfolding be
be-pad zero k x r h = refl
be-pad (suc j) k x r h = ap₂ (λ (a b : ℕ). a * 256 + b) (be-pad j k x r (omega arith)) (pad-byte k x r j h)

-- no bytes spell 0
be-nil : (k : ℕ) → be k [] ≡ 0
unfolding be
be-nil zero = refl
be-nil (suc k) = rw (be-nil k)

-- the field of the width w behind those of the widths us, in a table whose first field is n
module _ (mask n w : ℕ) (us vs : List ℕ) where
  number_at : (b : List ℕ) → be w (drop (total us) (full_fields mask n (us ++ w ∷ vs) b)) ≡ cond (announced mask (n + length us)) (be w (drop (announced_length mask n us) b)) 0
  unfolding full_fields
  number_at b =
      let d = drop (announced_length mask n us) b in
      ap (λ (l : List ℕ). be w (drop (total us) l)) (full-append mask n us (w ∷ vs) b)
      ∙ ap (be w) (drop_at (full_fields mask n us b) (full_fields mask (n + length us) (w ∷ vs) d) (total us) (length-full mask n us b))
      ∙ be-pad w w (cond (announced mask (n + length us)) d []) (full_fields mask (suc (n + length us)) vs (drop (taken mask (n + length us) w) d)) (le_refl w)
      ∙ go d (announced mask (n + length us))
    where
      go : (d : List ℕ) (t : Bool) → be w (cond t d []) ≡ cond t (be w d) 0
      go d true = refl
      go d false = be-nil w

  within : announced mask (n + length us) ≡ true → announced_length mask n us + w ≤ announced_length mask n (us ++ w ∷ vs)
  unfolding announced_length
  within e =
      let a : announced_length mask n (us ++ w ∷ vs) ≡ announced_length mask n us + (w + announced_length mask (suc (n + length us)) vs) =
      announced-append mask n us (w ∷ vs) ∙ ap (λ (t : Bool). announced_length mask n us + (cond t w 0 + announced_length mask (suc (n + length us)) vs)) e in
      omega arith

-- the announced bytes in front of field n of a table
abbrev pub announced_before : ℕ → ℕ → List ℕ → ℕ → ℕ
announced_before mask first ws n = announced_length mask first (take (n - first) ws)

-- the field n of a table
module _ (mask first n : ℕ) (ws : List ℕ) (lo : first ≤ n) (hi : n < first + length ws) where
  -- the table is what stands before the field, the field, and what stands behind it
  around : ws ≡ take (n - first) ws ++ width first ws n ∷ drop (suc (n - first)) ws
  around = split_at ws (n - first) 0 (omega arith)

  -- and the field has the number that it is found by
  numbered : first + length (take (n - first) ws) ≡ n
  numbered = rw (length-take-le (n - first) ws (omega arith)) (omega arith)

  pub value-full : (b : List ℕ) → value first ws n (full_fields mask first ws b) ≡ cond (announced mask n) (be (width first ws n) (drop (announced_before mask first ws n) b)) 0
  unfolding value
  value-full b =
      ap (λ (x : List ℕ). be (width first ws n) (drop (total (take (n - first) ws)) (full_fields mask first x b))) around
      ∙ number_at mask first (width first ws n) (take (n - first) ws) (drop (suc (n - first)) ws) b
      ∙ ap (λ (m : ℕ). cond (announced mask m) (be (width first ws n) (drop (announced_before mask first ws n) b)) 0) numbered

  -- an announced field lies within the announced bytes
  pub field-within : announced mask n ≡ true → announced_before mask first ws n + width first ws n ≤ announced_length mask first ws
  field-within e =
      let i = within mask first (width first ws n) (take (n - first) ws) (drop (suc (n - first)) ws) (ap (announced mask) numbered ∙ e) in
      omega (arith, ap (announced_length mask first) around)

  -- a reader of bytes b, of which those of the table begin at p, gives the number in the field; where the field is absent, the number is 0
  module _ (b : List ℕ) (p : ℕ) where
    there : announced mask n ≡ true → be (width first ws n) (drop (p + announced_before mask first ws n) b) ≡ value first ws n (full_fields mask first ws (drop p b))
    there e =
        sym (ap (be (width first ws n)) (drop-drop (announced_before mask first ws n) p b))
        ∙ sym (value-full (drop p b) ∙ ap (λ (t : Bool). cond t (be (width first ws n) (drop (announced_before mask first ws n) (drop p b))) 0) e)

    pub value_there : (at : ℕ) {r : ℕ} → announced mask n ≡ true → at ≡ p + announced_before mask first ws n → r ≡ be (width first ws n) (drop at b) → r ≡ value first ws n (full_fields mask first ws (drop p b))
    value_there at e ea er = er ∙ ap (λ (i : ℕ). be (width first ws n) (drop i b)) ea ∙ there e

    pub value-absent : announced mask n ≡ false → 0 ≡ value first ws n (full_fields mask first ws (drop p b))
    value-absent e = sym (value-full (drop p b) ∙ ap (λ (t : Bool). cond t (be (width first ws n) (drop (announced_before mask first ws n) (drop p b))) 0) e)

    -- the same of a signed number
    pub signed-there : (at : ℕ) {r : ℤ} → announced mask n ≡ true → at ≡ p + announced_before mask first ws n → r ≡ signed (width first ws n) (drop at b) → r ≡ signed_value first ws n (full_fields mask first ws (drop p b))
    unfolding signed value signed_value
    signed-there at e ea er = er ∙ ap (λ (i : ℕ). twos (width first ws n) (be (width first ws n) (drop i b))) ea ∙ ap (twos (width first ws n)) (there e)

    pub signed-absent : twos (width first ws n) 0 ≡ pos 0 → announced mask n ≡ false → pos 0 ≡ signed_value first ws n (full_fields mask first ws (drop p b))
    unfolding signed value signed_value
    signed-absent z e = sym z ∙ ap (twos (width first ws n)) (value-absent e)
