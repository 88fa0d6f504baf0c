-- A front of the sheet compared with the window: where it differs the whole differs, and where it is the same the rest decides.
-- Assumes nothing.
use Prim.Native.Nat.{ℕ, ◌+◌, ◌-◌, ◌≤◌}
use native.Mathlib.Omega.{arith}
use mathlib.Core.Path.{◌≡◌, sym, ap, ap₂, ◌∙◌}
use mathlib.Core.Bool.{Bool, true, false, ◌&&◌}
use mathlib.Core.List.{List, [], ◌∷◌, ◌++◌}
use lib.ListN.{length, take, drop, length-drop}
use lib.Seq.{sets, take_at, drop-drop, length-take-le}
use Rattle.octets.specs.Layout.{over}
use Rattle.octets.proofs.Layouts.{sets_over}
use Rattle.octets.proofs.Parts.{part-is, length_part}
use Rattle.format.specs.Sheet.{Record, record_bytes}
use Rattle.format.specs.Writer.{is_same}
use Rattle.format.proofs.Lengths.{bytes-append}
use Rattle.format.proofs.Sameness.{same-split}

-- what was stored from the first place on stands at the front
pub front-is : (a w₀ w : List ℕ) (n : ℕ) → w ≡ sets w₀ 0 a → length a ≡ n → n ≤ length w₀ → take n w ≡ a
unfolding over
front-is a w₀ w n filled long room =
    ap (take n) (filled ∙ sets_over a w₀ (omega arith)) ∙ take_at a (drop (length a) w₀) n long

-- n bytes a, compared with the first of x; b is what comes behind a
module _ (a b x : List ℕ) (n : ℕ) {r : Bool} (long : length a ≡ n) (within : n ≤ length x) (told : r ≡ is_same a (take n x)) where
  parts : is_same (a ++ b) x ≡ (r && is_same b (drop n x))
  parts =
      same-split a b x (omega arith)
      ∙ ap (λ (m : ℕ). is_same a (take m x) && is_same b (drop m x)) long
      ∙ ap (λ (s : Bool). s && is_same b (drop n x)) (sym told)

  pub first-differs : r ≡ false → false ≡ is_same (a ++ b) x
  first-differs e = sym (parts ∙ ap (λ (s : Bool). s && is_same b (drop n x)) e)

  pub first-same : r ≡ true → is_same b (drop n x) ≡ is_same (a ++ b) x
  first-same e = sym (parts ∙ ap (λ (s : Bool). s && is_same b (drop n x)) e)

-- so with those of x from q on
module _ (a b x : List ℕ) (q n : ℕ) {r : Bool} (long : length a ≡ n) (within : q + n ≤ length x) (told : r ≡ is_same a (take (q + n - q) (drop q x))) where
  left : n ≤ length (drop q x)
  left = rw length-drop (omega arith)

  told_part : r ≡ is_same a (take n (drop q x))
  told_part = told ∙ ap (is_same a) (part-is x q n)

  pub part-differs : r ≡ false → false ≡ is_same (a ++ b) (drop q x)
  part-differs = first-differs a b (drop q x) n long left told_part

  pub part_same : r ≡ true → is_same b (drop (q + n) x) ≡ is_same (a ++ b) (drop q x)
  part_same e = ap (is_same b) (sym (drop-drop n q x)) ∙ first-same a b (drop q x) n long left told_part e

-- the front of the window, where a stands, compared with those
pub told-window : (a x w₀ w : List ℕ) (q n : ℕ) {r : Bool} → w ≡ sets w₀ 0 a → length a ≡ n → n ≤ length w₀ → q + n ≤ length x
    → r ≡ is_same (take (length (take (q + n - q) (drop q x))) w) (take (q + n - q) (drop q x)) → r ≡ is_same a (take (q + n - q) (drop q x))
told-window a x w₀ w q n filled long room within told =
    told
    ∙ ap (λ (u : List ℕ). is_same u (take (q + n - q) (drop q x))) (ap (λ (m : ℕ). take m w) (length_part x q n within) ∙ front-is a w₀ w n filled long room)

-- so of the first n bytes of the window and of x
module _ (a b x w : List ℕ) (n : ℕ) {r : Bool} (front : take n w ≡ a) (long : length a ≡ n) (within : n ≤ length x)
    (told : r ≡ is_same (take (length (take (n - 0) x)) w) (take (n - 0) x)) where
  told-front : r ≡ is_same a (take n x)
  told-front =
      let e : n - 0 ≡ n = omega arith in
      let m : length (take (n - 0) x) ≡ n = length-take-le (n - 0) x (omega arith) ∙ e in
      told ∙ ap₂ (λ (u v : List ℕ). is_same u v) (ap (λ (i : ℕ). take i w) m ∙ front) (ap (λ (i : ℕ). take i x) e)

  pub head-differs : r ≡ false → false ≡ is_same (a ++ b) x
  head-differs = first-differs a b x n long within told-front

  pub head-same : (y : List ℕ) {s : Bool} → r ≡ true → y ≡ drop n x → s ≡ is_same b y → s ≡ is_same (a ++ b) x
  head-same y e h t = t ∙ ap (is_same b) h ∙ first-same a b x n long within told-front e

-- so of the record `first`, laid out in the window; the other records come behind it
module _ (first : Record) (rest : List Record) (x w₀ w : List ℕ) (n : ℕ) {r : Bool}
    (filled : w ≡ sets w₀ 0 (record_bytes (first ∷ []))) (long : length (record_bytes (first ∷ [])) ≡ n) (room : n ≤ length w₀) (within : n ≤ length x)
    (told : r ≡ is_same (take (length (take (n - 0) x)) w) (take (n - 0) x)) where
  front : take n w ≡ record_bytes (first ∷ [])
  front = front-is (record_bytes (first ∷ [])) w₀ w n filled long room

  whole : record_bytes (first ∷ []) ++ record_bytes rest ≡ record_bytes (first ∷ rest)
  whole = sym (bytes-append (first ∷ []) rest)

  pub record-differs : r ≡ false → false ≡ is_same (record_bytes (first ∷ rest)) x
  record-differs e = head-differs (record_bytes (first ∷ [])) (record_bytes rest) x w n front long within told e ∙ ap (λ (y : List ℕ). is_same y x) whole

  pub record_same : (y : List ℕ) {s : Bool} → r ≡ true → y ≡ drop n x → s ≡ is_same (record_bytes rest) y → s ≡ is_same (record_bytes (first ∷ rest)) x
  record_same y e h t = head-same (record_bytes (first ∷ [])) (record_bytes rest) x w n front long within told y e h t ∙ ap (λ (y : List ℕ). is_same y x) whole
