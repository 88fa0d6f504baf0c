-- Copies: a number that is read at one place and written at another, two copies in a row, and byte by byte; and zeros.
-- Assumes nothing.
use mathlib.Core.Path.{◌≡◌, refl, sym, ap, ◌∙◌}
use mathlib.Core.List.{List, [], ◌∷◌, ◌++◌}
use Prim.Native.Nat.{ℕ, zero, suc, ◌+◌, ◌≤◌, ◌<◌}
use native.Mathlib.Nat.{add-zero}
use native.Mathlib.Numerals.{add-one}
use native.Mathlib.Omega.{arith}
use lib.ListN.{length, replicate, get_or, set, take, drop, length-drop, drop_of_length-le}
use lib.Seq.{sets, drop-cons, drop-drop, get_or-drop, take-add, length-take-le}
use Rattle.octets.specs.Octets.{be, bytes, Bytes}
use Rattle.octets.specs.Layout.{pad}
use Rattle.octets.proofs.Laws.{bytes-be, then}

-- a number read at one place and written at another is a copy of its bytes
pub copied : (k : ℕ) (s l : List ℕ) (p q : ℕ) {v : ℕ} {a : List ℕ} → Bytes s → p + k ≤ length s → v ≡ be k (drop p s) → a ≡ sets l q (bytes k v) → a ≡ sets l q (take k (drop p s))
copied k s l p q b h hv ha =
    ha ∙ ap (λ (n : ℕ). sets l q (bytes k n)) hv
    ∙ ap (sets l q) (bytes-be k (drop p s) (rw (length-drop p s) (omega arith)) (λ i. rw (get_or-drop p s i 0) (b (p + i))))

-- one byte
pub one_byte : (s : List ℕ) (p : ℕ) → p + 1 ≤ length s → take 1 (drop p s) ≡ get_or s p 0 ∷ []
one_byte s p h = rw (drop-cons s p 0 (omega arith))

-- two copies, the second where the first ends, are one
pub copied-both : (j k : ℕ) (s l : List ℕ) (p q : ℕ) {a b : List ℕ} → p + j ≤ length s → a ≡ sets l q (take j (drop p s)) → b ≡ sets a (q + j) (take k (drop (p + j) s)) → b ≡ sets l q (take (j + k) (drop p s))
copied-both j k s l p q {a} h ha hb =
    then (take j (drop p s)) (take k (drop (p + j) s)) l q j ha (length-take-le j (drop p s) (rw (length-drop p s) (omega arith))) hb
    ∙ ap (sets l q) (ap (λ (t : List ℕ). take j (drop p s) ++ take k t) (sym (drop-drop j p s)) ∙ sym (take-add j k (drop p s)))

-- a copy byte by byte: once the byte at i is stored, what is left to store still gives the whole copy
pub copied_next : (s o w : List ℕ) (q i : ℕ) → i < length s → sets o (q + i) (drop i s) ≡ w → sets (set o (q + i) (get_or s i 0)) (q + (i + 1)) (drop (i + 1) s) ≡ w
copied_next s o w q i h e =
    let n : q + (i + 1) ≡ suc (q + i) = omega arith in
    rw (n, add-one i) (rw (drop-cons s i 0 h) at e)

-- at first all is left to store, and at the end nothing
pub copied-first : (s o : List ℕ) (q : ℕ) → sets o (q + 0) (drop 0 s) ≡ sets o q s
copied-first s o q = rw add-zero

pub copied-last : (s o w : List ℕ) (q i : ℕ) → length s ≤ i → sets o (q + i) (drop i s) ≡ w → o ≡ w
copied-last s o w q i h e = rw (drop_of_length-le s h) at e

-- as many zeros as `fill` leaves
pub zeros : (n : ℕ) → replicate n 0 ≡ pad n []
unfolding pad
zeros zero = refl
zeros (suc n) = ap (λ (l : List ℕ). 0 ∷ l) (zeros n)
