-- Fields at full widths, and the announced ones alone: the lengths of both, and the way there and back.
-- Over every mask, first field and table of widths. Assumes nothing.
use mathlib.Core.Path.{◌≡◌, refl, sym, ap, ap₂, ◌∙◌}
use mathlib.Core.Bool.{Bool, true, false, cond}
use mathlib.Core.List.{List, [], ◌∷◌, ◌++◌, append_assoc}
use Prim.Native.Nat.{ℕ, suc, ◌+◌, ◌≤◌}
use native.Mathlib.Nat.{add-zero, add-suc, suc-add, zero-add}
use native.Mathlib.Omega.{arith}
use lib.ListN.{length, take, drop, length-append, length-drop}
use lib.Seq.{length-take-le, take_at, drop_at, take-add, drop-drop}
use Rattle.octets.specs.Octets.{Bytes}
use Rattle.octets.specs.Layout.{pad, total}
use Rattle.octets.proofs.Layouts.{length-pad, pad-take}
use Rattle.octets.proofs.ByteLists.{nil-bytes, append-bytes, drop-bytes, pad-bytes}
use Rattle.mask.specs.Fields.{announced, taken, announced_length, full_fields, announced_fields}

pub length-full : (mask n : ℕ) (ws b : List ℕ) → length (full_fields mask n ws b) ≡ total ws
unfolding full_fields total
length-full mask n [] b = refl
length-full mask n (w ∷ ws) b =
    length-append (pad w (cond (announced mask n) b [])) (full_fields mask (suc n) ws (drop (cond (announced mask n) w 0) b))
    ∙ rw (length-pad w (cond (announced mask n) b []), length-full mask (suc n) ws (drop (cond (announced mask n) w 0) b))

-- announced or not, the fields come to no more than all
pub announced-le : (mask n : ℕ) (ws : List ℕ) → announced_length mask n ws ≤ total ws
unfolding announced_length total
announced-le mask n [] = omega arith
announced-le mask n (w ∷ ws) = go (announced mask n) (announced-le mask (suc n) ws)
  where
    go : (t : Bool) → announced_length mask (suc n) ws ≤ total ws → cond t w 0 + announced_length mask (suc n) ws ≤ w + total ws
    go true h = omega arith
    go false h = omega arith

pub length-announced : (mask n : ℕ) (ws full : List ℕ) → total ws ≤ length full → length (announced_fields mask n ws full) ≡ announced_length mask n ws
unfolding announced_fields announced_length total
length-announced mask n [] full h = refl
length-announced mask n (w ∷ ws) full h = go (announced mask n) (length-announced mask (suc n) ws (drop w full) (rw (length-drop w full) (omega arith)))
  where
    go : (t : Bool) → length (announced_fields mask (suc n) ws (drop w full)) ≡ announced_length mask (suc n) ws
        → length (take (cond t w 0) full ++ announced_fields mask (suc n) ws (drop w full)) ≡ cond t w 0 + announced_length mask (suc n) ws
    go true e = length-append (take w full) (announced_fields mask (suc n) ws (drop w full)) ∙ rw (length-take-le w full (omega arith), e)
    go false e = e ∙ rw (zero-add (announced_length mask (suc n) ws))

-- the announced ones of the fields at full widths are the bytes that these were made of
pub announced-full : (mask n : ℕ) (ws b r : List ℕ) → announced_length mask n ws ≤ length b → announced_fields mask n ws (full_fields mask n ws b ++ r) ≡ take (announced_length mask n ws) b
unfolding announced_fields full_fields announced_length
announced-full mask n [] b r h = refl
announced-full mask n (w ∷ ws) b r h = go (announced mask n) h (λ b k. announced-full mask (suc n) ws b r k)
  where
    go : (t : Bool) → cond t w 0 + announced_length mask (suc n) ws ≤ length b
        → ((b : List ℕ) → announced_length mask (suc n) ws ≤ length b → announced_fields mask (suc n) ws (full_fields mask (suc n) ws b ++ r) ≡ take (announced_length mask (suc n) ws) b)
        → take (cond t w 0) (pad w (cond t b []) ++ full_fields mask (suc n) ws (drop (cond t w 0) b) ++ r) ++ announced_fields mask (suc n) ws (drop w (pad w (cond t b []) ++ full_fields mask (suc n) ws (drop (cond t w 0) b) ++ r))
        ≡ take (cond t w 0 + announced_length mask (suc n) ws) b
    go true h rest =
        let l : length (take w b) ≡ w = length-take-le w b (omega arith) in
        let g : announced_length mask (suc n) ws ≤ length (drop w b) = rw (length-drop w b) (omega arith) in
        rw (pad-take w b (omega arith), append_assoc, take_at (take w b) (full_fields mask (suc n) ws (drop w b) ++ r) w l, drop_at (take w b) (full_fields mask (suc n) ws (drop w b) ++ r) w l, rest (drop w b) g, take-add w (announced_length mask (suc n) ws) b)
    go false h rest =
        let g : announced_length mask (suc n) ws ≤ length b = omega arith in
        rw (append_assoc, drop_at (pad w []) (full_fields mask (suc n) ws b ++ r) w (length-pad w []), rest b g, zero-add)

-- of two tables, one after the other: the lengths add up, and the fields of the second follow those of the first
pub announced-append : (mask n : ℕ) (us vs : List ℕ) → announced_length mask n (us ++ vs) ≡ announced_length mask n us + announced_length mask (n + length us) vs
unfolding announced_length
announced-append mask n [] vs = rw (zero-add, add-zero)
announced-append mask n (u ∷ us) vs =
    ap (λ (m : ℕ). taken mask n u + m) (announced-append mask (suc n) us vs ∙ ap (λ (m : ℕ). announced_length mask (suc n) us + announced_length mask m vs) (suc-add n (length us) ∙ sym (add-suc n (length us))))
    ∙ omega arith

pub full-append : (mask n : ℕ) (us vs b : List ℕ) → full_fields mask n (us ++ vs) b ≡ full_fields mask n us b ++ full_fields mask (n + length us) vs (drop (announced_length mask n us) b)
unfolding full_fields announced_length
full-append mask n [] vs b = ap (λ (m : ℕ). full_fields mask m vs b) (sym (add-zero n))
full-append mask n (u ∷ us) vs b =
    ap (λ (t : List ℕ). pad u (cond (announced mask n) b []) ++ t)
    (full-append mask (suc n) us vs (drop (taken mask n u) b)
    ∙ ap₂ (λ (m : ℕ) (t : List ℕ). full_fields mask (suc n) us (drop (taken mask n u) b) ++ full_fields mask m vs t)
    (suc-add n (length us) ∙ sym (add-suc n (length us))) (drop-drop (announced_length mask (suc n) us) (taken mask n u) b))
    ∙ sym (append_assoc (pad u (cond (announced mask n) b [])) (full_fields mask (suc n) us (drop (taken mask n u) b)) _)

-- and so do the announced ones, each table's of its own bytes at full widths
pub fields-append : (mask n : ℕ) (us vs full : List ℕ) → announced_fields mask n (us ++ vs) full ≡ announced_fields mask n us full ++ announced_fields mask (n + length us) vs (drop (total us) full)
unfolding announced_fields total
fields-append mask n [] vs full = ap (λ (m : ℕ). announced_fields mask m vs full) (sym (add-zero n))
fields-append mask n (u ∷ us) vs full =
    ap (λ (t : List ℕ). take (taken mask n u) full ++ t)
    (fields-append mask (suc n) us vs (drop u full)
    ∙ ap₂ (λ (m : ℕ) (t : List ℕ). announced_fields mask (suc n) us (drop u full) ++ announced_fields mask m vs t)
    (suc-add n (length us) ∙ sym (add-suc n (length us))) (drop-drop (total us) u full))
    ∙ sym (append_assoc (take (taken mask n u) full) (announced_fields mask (suc n) us (drop u full)) _)

-- fields of bytes are bytes at full widths
pub full-bytes : (mask n : ℕ) (ws b : List ℕ) → Bytes b → Bytes (full_fields mask n ws b)
unfolding full_fields
full-bytes mask n [] b h = nil-bytes
full-bytes mask n (w ∷ ws) b h =
    append-bytes (pad w (cond (announced mask n) b [])) (full_fields mask (suc n) ws (drop (taken mask n w) b)) (go (announced mask n)) (full-bytes mask (suc n) ws (drop (taken mask n w) b) (drop-bytes (taken mask n w) b h))
  where
    go : (t : Bool) → Bytes (pad w (cond t b []))
    go true = pad-bytes w b h
    go false = pad-bytes w [] nil-bytes
