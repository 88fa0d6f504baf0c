-- Records that are laid out by stores: the kind, and behind it the bytes of the body.
-- Assumes nothing.
use mathlib.Core.Path.{◌≡◌, refl, sym, ap, ◌∙◌}
use mathlib.Core.List.{List, [], ◌∷◌, ◌++◌, append-nil}
use Prim.Native.Nat.{ℕ, zero, suc, ◌+◌, ◌-◌, ◌*◌, ◌≤◌}
use native.Mathlib.Nat.{zero-add, suc-add, zero-mul, suc-mul}
use native.Mathlib.Omega.{arith}
use lib.ListN.{length, take, drop}
use lib.Seq.{sets, drop-drop, length-take-le}
use borrow.Rule.Slice.PartMut.{mid_of, put_mid}
use Rattle.octets.specs.Layout.{pad}
use Rattle.octets.proofs.Laws.{then}
use Rattle.octets.proofs.Layouts.{pad-take, pad-same}
use Rattle.octets.proofs.Parts.{tail-is, part_filled}
use Rattle.format.specs.Sheet.{Record, body_length, record_of, record_bytes}
use Rattle.format.proofs.Lengths.{bytes-append}

-- a part of a slice that is cut to a length has it
pub cut : (n : ℕ) (b : List ℕ) → n ≤ length b → n ≡ length (take n b)
cut n b h = sym (length-take-le n b h)

-- a kind stored, and behind it the bytes v of the body, are the record
pub record-laid : (kind : ℕ) (b v l : List ℕ) {m w : List ℕ}
    → pad (body_length kind) b ≡ v → m ≡ sets l 0 (kind ∷ []) → w ≡ sets m 1 v → w ≡ sets l 0 (record_bytes (record_of kind b ∷ []))
unfolding record_bytes record_of
record-laid kind b v l e hm hw =
    then (kind ∷ []) v l 0 1 hm refl hw
    ∙ ap (λ (x : List ℕ). sets l 0 (kind ∷ x)) (sym e ∙ sym (append-nil (pad (body_length kind) b)))

-- so where as many bytes are copied as the kind fixes
pub record-copied : (kind : ℕ) (b l : List ℕ) {m w : List ℕ}
    → body_length kind ≤ length b → m ≡ sets l 0 (kind ∷ []) → w ≡ sets m 1 (take (body_length kind) b) → w ≡ sets l 0 (record_bytes (record_of kind b ∷ []))
record-copied kind b l h hm hw = record-laid kind b (take (body_length kind) b) l (pad-take (body_length kind) b h) hm hw

-- records that are stored where others end are in a row
pub records-then : (qs rs : List Record) (l : List ℕ) (at n : ℕ) {m w : List ℕ}
    → m ≡ sets l at (record_bytes qs) → length (record_bytes qs) ≡ n → w ≡ sets m (at + n) (record_bytes rs) → w ≡ sets l at (record_bytes (qs ++ rs))
records-then qs rs l at n hm hn hw = then (record_bytes qs) (record_bytes rs) l at n hm hn hw ∙ ap (sets l at) (sym (bytes-append qs rs))

-- a filler f of bytes that was lent those from p on, and a part of the memory from q on
pub part-laid : (f : List ℕ → List ℕ) (b o : List ℕ) (p q : ℕ) {r : List ℕ}
    → r ≡ sets (mid_of q (length o - q) o) 0 (f (mid_of p (length b - p) b)) → put_mid q (length o - q) o r ≡ sets o q (f (drop p b))
part-laid f b o p q e = part_filled o (f (drop p b)) q (e ∙ ap (λ (t : List ℕ). sets (mid_of q (length o - q) o) 0 (f t)) (tail-is p b))

-- a body that is full is stored as it is
pub full_body : (kind : ℕ) (b : List ℕ) → length b ≡ body_length kind → pad (body_length kind) b ≡ b
full_body kind b e = ap (λ (n : ℕ). pad n b) (sym e) ∙ pad-same b

-- records one for each u bytes, as rs counts them, each r of the bytes from its place on and w bytes long
module _ (r : List ℕ → Record) (rs : ℕ → List ℕ → List Record) (u w : ℕ) (step : (n : ℕ) (b : List ℕ) → rs (suc n) b ≡ r b ∷ rs n (drop u b)) (len : (b : List ℕ) → length (record_bytes (r b ∷ [])) ≡ w) where
  -- a loop's turn: once the one at p is stored at q, what is left to store still gives all of them
  pub records-next : (n k p q : ℕ) (b o all : List ℕ) {m : List ℕ}
      → n ≡ suc k → m ≡ sets o q (record_bytes (r (drop p b) ∷ [])) → sets o q (record_bytes (rs n (drop p b))) ≡ all
      → sets m (q + w) (record_bytes (rs k (drop (p + u) b))) ≡ all
  records-next n k p q b o all hn hm e =
      records-then (r (drop p b) ∷ []) (rs k (drop (p + u) b)) o q w hm (len (drop p b)) refl
      ∙ ap (λ (x : List ℕ). sets o q (record_bytes (r (drop p b) ∷ rs k x))) (sym (drop-drop u p b))
      ∙ ap (λ (x : List Record). sets o q (record_bytes x)) (sym (step k (drop p b)))
      ∙ ap (λ (j : ℕ). sets o q (record_bytes (rs j (drop p b)))) (sym hn) ∙ e

  -- the first j, and those behind them
  pub records-append : (none : (b : List ℕ) → rs 0 b ≡ []) (j k : ℕ) (b : List ℕ) → rs (j + k) b ≡ rs j b ++ rs k (drop (j * u) b)
  records-append none zero k b =
      rw (zero-add, zero-mul) (sym (ap (λ (x : List Record). x ++ rs k b) (none b)))
  records-append none (suc j) k b =
      let p : u + j * u ≡ suc j * u = omega (arith, suc-mul j u) in
      ap (λ (n : ℕ). rs n b) (suc-add j k) ∙ step (j + k) b
      ∙ ap (λ (x : List Record). r b ∷ x) (records-append none j k (drop u b) ∙ ap (λ (x : List ℕ). rs j (drop u b) ++ rs k x) (drop-drop (j * u) u b ∙ ap (λ (n : ℕ). drop n b) p))
      ∙ sym (ap (λ (x : List Record). x ++ rs k (drop (suc j * u) b)) (step j b))
