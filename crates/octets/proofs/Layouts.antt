-- The laws of `pad`, `over` and of a table's fields that every layout needs: above all, what keeps the length.
-- Assumes nothing.
use mathlib.Core.Path.{◌≡◌, refl, sym, ap, ◌∙◌}
use mathlib.Core.List.{List, [], ◌∷◌, ◌++◌, append-nil, append_assoc}
use Prim.Native.Nat.{ℕ, zero, suc, ◌+◌, ◌-◌, ◌≤◌}
use native.Mathlib.Nat.{le_refl, not-suc-le-zero, zero-add}
use native.Mathlib.Omega.{arith}
use lib.ListN.{length, replicate, take, drop, length-append, length-drop, take-append-drop}
use lib.Seq.{sets, sets-eq, take-length, length-take-le, take_at, take-append-le, drop-append-le, get_or-take}
use Rattle.octets.specs.Octets.{be}
use Rattle.octets.specs.Layout.{pad, over, width, offset, field, value, replaced, zeroed, copied}
use Rattle.octets.proofs.Laws.{same-be}

-- a padded field has its width
pub length-pad : (w : ℕ) (b : List ℕ) → length (pad w b) ≡ w
unfolding pad
length-pad zero b = refl
length-pad (suc w) [] = ap suc (length-pad w [])
length-pad (suc w) (x ∷ b) = ap suc (length-pad w b)

-- where there are bytes enough, padding only cuts
pub pad-take : (w : ℕ) (b : List ℕ) → w ≤ length b → pad w b ≡ take w b
unfolding pad
pad-take zero b h = refl
pad-take (suc w) [] h = absurd (not-suc-le-zero h)
pad-take (suc w) (x ∷ b) h = ap (λ (r : List ℕ). x ∷ r) (pad-take w b (omega arith))

-- bytes of the width itself stay as they are
pub pad-same : (b : List ℕ) → pad (length b) b ≡ b
pad-same b = pad-take (length b) b (le_refl (length b)) ∙ take-length b

-- zeros are what is filled with: as many by themselves, and zeros cut or filled up are as none
pub pad-none : (m : ℕ) → pad m [] ≡ replicate m 0
unfolding pad
pad-none zero = refl
pad-none (suc m) = ap (λ (r : List ℕ). 0 ∷ r) (pad-none m)

pub pad-zeros : (w m : ℕ) → pad w (replicate m 0) ≡ pad w []
unfolding pad
pad-zeros zero m = refl
pad-zeros (suc w) zero = refl
pad-zeros (suc w) (suc m) = ap (λ (r : List ℕ). 0 ∷ r) (pad-zeros w m)

-- where bytes are filled up, they stay in front
pub pad-append : (w v : ℕ) (b c : List ℕ) → w ≡ length b + v → pad w (b ++ c) ≡ b ++ pad v c
unfolding pad
pad-append w v [] c e = let f : w ≡ v = omega arith in rw f
pad-append zero v (x ∷ b) c e = absurd (omega arith)
pad-append (suc w) v (x ∷ b) c e = ap (λ (y : List ℕ). x ∷ y) (pad-append w v b c (omega arith))

-- so they are cut out again
pub take-pad : (w : ℕ) (b : List ℕ) → length b ≤ w → take (length b) (pad w b) ≡ b
take-pad w b h =
    ap (λ (y : List ℕ). take (length b) (pad w y)) (sym (append-nil b))
    ∙ ap (take (length b)) (pad-append w (w - length b) b [] (omega arith))
    ∙ take_at b (pad (w - length b) []) (length b) refl

module _ (first : ℕ) (ws : List ℕ) (n : ℕ) where
  -- a field that lies within b has its width
  pub length-field : (b : List ℕ) → offset first ws n + width first ws n ≤ length b → length (field first ws n b) ≡ width first ws n
  unfolding field
  length-field b h = length-take-le (width first ws n) (drop (offset first ws n) b) (rw length-drop (omega arith))

  -- bytes as wide as the field, put into its place, keep the length; so do zeros, and what another has there
  pub length-replaced : (v b : List ℕ) → length v ≡ width first ws n → offset first ws n + width first ws n ≤ length b → length (replaced first ws n v b) ≡ length b
  unfolding replaced
  length-replaced v b e h =
      let t : length (take (offset first ws n) b) ≡ offset first ws n = length-take-le (offset first ws n) b (omega arith) in
      simp (length-append, length-drop) (omega arith)

  pub length-zeroed : (b : List ℕ) → offset first ws n + width first ws n ≤ length b → length (zeroed first ws n b) ≡ length b
  length-zeroed b h = length-replaced (pad (width first ws n) []) b (length-pad (width first ws n) []) h

  pub length-copied : (a b : List ℕ) → offset first ws n + width first ws n ≤ length a → offset first ws n + width first ws n ≤ length b → length (copied first ws n a b) ≡ length b
  length-copied a b ha hb = length-replaced (field first ws n a) b (length-field a ha) hb

  -- a field that lies within b goes by nothing that follows b
  pub field-front : (b c : List ℕ) → offset first ws n + width first ws n ≤ length b → field first ws n (b ++ c) ≡ field first ws n b
  unfolding field
  field-front b c h =
      let at : offset first ws n ≤ length b = omega arith in
      let here : width first ws n ≤ length (drop (offset first ws n) b) = rw length-drop (omega arith) in
      rw (drop-append-le (offset first ws n) b c at, take-append-le (width first ws n) (drop (offset first ws n) b) c here)

  -- one that stands before another stays where that other is replaced
  pub field-kept : (m : ℕ) (v b : List ℕ) → offset first ws n + width first ws n ≤ offset first ws m → offset first ws m ≤ length b
      → field first ws n (replaced first ws m v b) ≡ field first ws n b
  unfolding replaced
  field-kept m v b h k =
      let front = take (offset first ws m) b in
      let within : offset first ws n + width first ws n ≤ length front = rw (length-take-le (offset first ws m) b k) h in
      ap (field first ws n) (append_assoc front v _)
      ∙ field-front front _ within
      ∙ sym (field-front front (drop (offset first ws m) b) within)
      ∙ ap (field first ws n) (take-append-drop (offset first ws m) b)

  -- the number in a field is that of the field's bytes, so that where these are the same it is the same
  value-is : (b : List ℕ) → be (width first ws n) (field first ws n b) ≡ value first ws n b
  unfolding field value
  value-is b = same-be (width first ws n) _ (drop (offset first ws n) b) (λ i l. get_or-take (width first ws n) (drop (offset first ws n) b) i 0 l)

  pub same-value : (a b : List ℕ) → field first ws n a ≡ field first ws n b → value first ws n a ≡ value first ws n b
  same-value a b e = sym (value-is a) ∙ ap (be (width first ws n)) e ∙ value-is b

-- bytes stored from the first place on are laid over what was there
pub sets_over : (p o : List ℕ) → length p ≤ length o → sets o 0 p ≡ over p o
unfolding over
sets_over p o h = sets-eq p o 0 (omega arith) ∙ ap (λ (n : ℕ). p ++ drop n o) (zero-add (length p))
