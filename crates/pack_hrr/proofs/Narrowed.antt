-- Numbers of two bytes of which the last bytes are stored one after another: of one, of a scatterer, and of scatterers in a row.
-- Assumes nothing.
use mathlib.Core.Path.{◌≡◌, refl, sym, ap, ◌∙◌}
use mathlib.Core.List.{List, [], ◌∷◌, ◌++◌, append-nil, append_assoc}
use Prim.Native.Nat.{ℕ, suc, ◌+◌, ◌-◌, ◌*◌, ◌≤◌}
use native.Mathlib.Omega.{arith}
use lib.ListN.{length, take, drop, length-append, length-drop}
use lib.Seq.{sets, drop-drop, length-take-le}
use borrow.Rule.Slice.PartMut.{mid_of, put_mid}
use Rattle.octets.specs.Layout.{total}
use Rattle.octets.proofs.Parts.{tail-is, filled_next}
use Rattle.hrr.specs.Hrr.{narrowed}
use Rattle.format.specs.Lengths.{record_length}
use Rattle.format.proofs.Segments.{part-is}
use Rattle.format.proofs.Hrr.{AllNarrow}
use Rattle.pack_hrr.specs.InnerNarrowed.{narrowed_all}

-- ---- one number

-- the last w of its two bytes, which stand at a place of x
abbrev pub last : ℕ → ℕ → List ℕ → List ℕ
last w at x = drop (2 - w) (take 2 (drop at x))

-- where they are taken from
pub last-is : (w at : ℕ) (x : List ℕ) → w ≤ 2 → take w (drop (at + (2 - w)) x) ≡ last w at x
last-is w at x h =
    let two : 2 - w + w ≡ 2 = omega arith in
    ap (take w) (sym (drop-drop (2 - w) at x)) ∙ part-is (2 - w) w (drop at x) ∙ ap (λ (n : ℕ). drop (2 - w) (take n (drop at x))) two

-- they are so many
length_last : (w : ℕ) (s : List ℕ) → w ≤ 2 → 2 ≤ length s → length (drop (2 - w) (take 2 s)) ≡ w
length_last w s h l = simp (length-drop, length-take-le 2 s l) (omega arith)

-- ---- a scatterer

-- its four numbers, one behind another
pub four-last : (m p r d : ℕ) (x : List ℕ) → (last m 1 x ++ last p 3 x) ++ (last r 5 x ++ last d 7 x) ≡ narrowed (m ∷ p ∷ r ∷ d ∷ []) (drop 1 x)
unfolding narrowed
four-last m p r d x =
    rw (drop-drop 2 1 x, drop-drop 2 3 x, drop-drop 2 5 x, append-nil) (append_assoc (last m 1 x) (last p 3 x) (last r 5 x ++ last d 7 x))

-- the bytes of its widths
pub length-narrowed : (ws s : List ℕ) → AllNarrow ws → length ws * 2 ≤ length s → length (narrowed ws s) ≡ total ws
unfolding narrowed total
length-narrowed [] s h l = refl
length-narrowed (w ∷ ws) s h l =
    let rest : length ws * 2 ≤ length (drop 2 s) = rw length-drop (omega arith) in
    rw (length-append, length_last w s h.0 (omega arith), length-narrowed ws (drop 2 s) h.1 rest)

-- ---- scatterers in a row

-- the loop: once the one at p is stored at q, in a part of the memory that is lent, what is left to store still gives all of them
module _ (ws : List ℕ) (four : length ws ≡ 4) (narrow : AllNarrow ws) where
  pub all-next : (n k p q each : ℕ) (x o all : List ℕ) {part : List ℕ}
      → n ≡ suc k → each ≡ total ws → p + record_length 12 ≤ length x → part ≡ sets (mid_of q (length o - q) o) 0 (narrowed ws (drop 1 (mid_of p (length x - p) x)))
      → sets o q (narrowed_all ws n (drop p x)) ≡ all → sets (put_mid q (length o - q) o part) (q + each) (narrowed_all ws k (drop (p + record_length 12) x)) ≡ all
  unfolding narrowed_all
  all-next n k p q each x o all hn he fits hp e =
      let one = narrowed ws (drop 1 (drop p x)) in
      let rest = narrowed_all ws k (drop (p + record_length 12) x) in
      let long : length ws * 2 ≤ length (drop 1 (drop p x)) = simp length-drop (omega arith) in
      filled_next o rest one q each (he ∙ sym (length-narrowed ws (drop 1 (drop p x)) narrow long))
      (hp ∙ ap (λ (t : List ℕ). sets (mid_of q (length o - q) o) 0 (narrowed ws (drop 1 t))) (tail-is p x))
      ∙ ap (λ (t : List ℕ). sets o q (one ++ narrowed_all ws k t)) (sym (drop-drop (record_length 12) p x))
      ∙ ap (λ (j : ℕ). sets o q (narrowed_all ws j (drop p x))) (sym hn)
      ∙ e

-- at the end none are left to store
pub all-last : (ws : List ℕ) (n p q : ℕ) (x o all : List ℕ) → n ≡ 0 → sets o q (narrowed_all ws n (drop p x)) ≡ all → o ≡ all
unfolding narrowed_all
all-last ws n p q x o all hn e = rw hn at e
