-- The sheet with its two withheld fields zeroed, which the older reading makes; and fields put into runs of bytes: a field and its mark
-- withheld, and filled in again, in a body of which the mark is the last byte.
-- Assumes nothing.
use Prim.Native.Nat.{ℕ, ◌+◌, ◌≤◌}
use native.Mathlib.Omega.{arith}
use mathlib.Core.Path.{◌≡◌, sym, ap₂, ◌∙◌}
use mathlib.Core.List.{List, [], ◌∷◌, ◌++◌, append_assoc, append-nil}
use lib.ListN.{length, take, drop, length-append, take-append-drop, drop_of_length-le}
use lib.Seq.{length-take-le, take-append-le, drop-append-le, take-append-add, drop-append-add, take_at, drop_at, take-add}
use Rattle.octets.specs.Layout.{pad, width, offset, field, replaced, zeroed, copied}
use Rattle.octets.proofs.Layouts.{length-pad, length-zeroed, field-front}
use Rattle.format.specs.Sheet.{Record, record_bytes}
use Rattle.format.specs.Writer.{listed}
use Rattle.demands.specs.Filled.{changed}

-- ---- records with D27, J26 and their marks zero

-- "those of fields D27 and J26 and their marks, which are zero"
unfoldable pub withheld_record : Record → Record
withheld_record r = changed (λ ws n mark b. zeroed 1 ws mark (zeroed 1 ws n b)) r

-- so each record of a list
unfoldable pub withheld_records : List Record → List Record
withheld_records [] = []
withheld_records (r ∷ rs) = withheld_record r ∷ withheld_records rs

-- a sheet with every D27, every J26 and their marks zero, and every other byte as it was
unfoldable pub withheld_sheet : List ℕ → List ℕ
withheld_sheet x = record_bytes (withheld_records (listed x).records)

-- ---- fields put into runs of bytes

-- bytes put in behind the m bytes of a are put into what follows a
pub put-behind : (a b v : List ℕ) (m o w : ℕ) → length a ≡ m → take (m + o) (a ++ b) ++ v ++ drop (m + (o + w)) (a ++ b) ≡ a ++ (take o b ++ v ++ drop (o + w) b)
put-behind a b v m o w h = rw (← h, take-append-add a b o, drop-append-add a b (o + w)) (simp append_assoc)

module _ (first : ℕ) (ws : List ℕ) (n : ℕ) (b : List ℕ) (within : offset first ws n + width first ws n ≤ length b) where
  -- a field that lies within b is replaced in b, also where more follows
  replaced-before : (v c : List ℕ) → replaced first ws n v (b ++ c) ≡ replaced first ws n v b ++ c
  unfolding replaced
  replaced-before v c =
      let at : offset first ws n ≤ length b = omega arith in
      rw (take-append-le (offset first ws n) b c at, drop-append-le (offset first ws n + width first ws n) b c within) (sym (append_assoc (take (offset first ws n) b ++ v) (drop (offset first ws n + width first ws n) b) c))

  -- of two replacements the later one holds
  replaced-again : (u v : List ℕ) → length v ≡ width first ws n → replaced first ws n u (replaced first ws n v b) ≡ replaced first ws n u b
  unfolding replaced
  replaced-again u v h =
      let front = take (offset first ws n) b in
      let back = drop (offset first ws n + width first ws n) b in
      let f : length front ≡ offset first ws n = length-take-le (offset first ws n) b (omega arith) in
      let g : length (front ++ v) ≡ offset first ws n + width first ws n = length-append front v ∙ ap₂ ◌+◌ f h in
      rw (append_assoc front v back, take_at front (v ++ back) (offset first ws n) f, ← append_assoc front v back, drop_at (front ++ v) back (offset first ws n + width first ws n) g)

  -- a field replaced by its own bytes leaves all as it was
  replaced-own : replaced first ws n (field first ws n b) b ≡ b
  unfolding replaced field
  replaced-own = rw (← take-add) (take-append-drop (offset first ws n + width first ws n) b)

-- the last field replaced leaves what stands before it
replaced-last : (first : ℕ) (ws : List ℕ) (n : ℕ) (v b c : List ℕ) → length b ≡ offset first ws n → length c ≡ width first ws n → replaced first ws n v (b ++ c) ≡ b ++ v
unfolding replaced
replaced-last first ws n v b c hb hc =
    let e : length (b ++ c) ≤ offset first ws n + width first ws n = rw length-append (omega arith) in
    rw (take_at b c (offset first ws n) hb, drop_of_length-le (b ++ c) e) (append-nil (b ++ v))

-- a body b and its mark, with a field of b that is withheld
module _ (ws : List ℕ) (n mark : ℕ) (b : List ℕ) (within : offset 1 ws n + width 1 ws n ≤ length b) (last : length b ≡ offset 1 ws mark) (one : width 1 ws mark ≡ 1) where
  -- the field and the mark zeroed: the field is zeroed in b, and the mark is 0
  pub withheld-body : zeroed 1 ws mark (zeroed 1 ws n (b ++ 1 ∷ [])) ≡ zeroed 1 ws n b ++ 0 ∷ []
  unfolding pad
  withheld-body =
      let same = length-zeroed 1 ws n b within in
      rw (replaced-before 1 ws n b within, one) (replaced-last 1 ws mark (0 ∷ []) (zeroed 1 ws n b) (1 ∷ []) (same ∙ last) (sym one))

  -- the field copied back and marked as shown: the body as it was
  pub filled-body : replaced 1 ws mark (1 ∷ []) (copied 1 ws n (b ++ 1 ∷ []) (zeroed 1 ws n b ++ 0 ∷ [])) ≡ b ++ 1 ∷ []
  filled-body =
      let same = length-zeroed 1 ws n b within in
      let still : offset 1 ws n + width 1 ws n ≤ length (zeroed 1 ws n b) = rw same within in
      rw (field-front 1 ws n b (1 ∷ []) within, replaced-before 1 ws n (zeroed 1 ws n b) still, replaced-again 1 ws n b within (field 1 ws n b) (pad (width 1 ws n) []) (length-pad (width 1 ws n) []), replaced-own 1 ws n b within)
      (replaced-last 1 ws mark (1 ∷ []) b (0 ∷ []) last (sym one))

  -- a withheld body is as long
  pub length-body : length (zeroed 1 ws n b ++ 0 ∷ []) ≡ length (b ++ 1 ∷ [])
  length-body = simp (length-append, length-zeroed 1 ws n b within)
