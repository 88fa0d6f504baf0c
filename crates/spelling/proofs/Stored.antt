-- What the code stores for a record is what the record adds to the packet.
-- Assumes nothing.
use mathlib.Core.Path.{◌≡◌, refl, ap, ap₂, ◌∙◌}
use mathlib.Core.Bool.{Bool, true, false, cond}
use mathlib.Core.List.{List, [], ◌∷◌, ◌++◌}
use Prim.Native.Nat.{ℕ, zero, suc, ◌+◌, ◌≤◌, zero-le}
use native.Mathlib.Nat.{le_refl}
use native.Mathlib.Omega.{arith}
use borrow.Author.Tests.{ne_eqb}
use lib.Dec.{eqb}
use lib.ListN.{length, get_or, take, drop, length-drop}
use lib.Seq.{sets, length-take-le, take-length}
use Rattle.octets.specs.Octets.{be, bytes}
use Rattle.octets.specs.Layout.{total}
use Rattle.octets.proofs.Laws.{length-bytes, then}
use Rattle.mask.specs.Fields.{announced_length, announced_fields, dwell_widths, target_widths}
use Rattle.mask.proofs.FullWidth.{length-announced}
use Rattle.format.specs.Sheet.{Record, body_length}
use Rattle.format.specs.Lengths.{record_length}
use Rattle.format.specs.Writer.{given, given_behind}
use Rattle.sheet_walk.specs.declared.Lead.{Lead}
use Rattle.sheet_walk.specs.InnerShape.{lead_of, size_by}
use Rattle.hrr.specs.Hrr.{hrr_mask, hrr_widths}
use Rattle.sheet_walk.proofs.Leads.{dwell-given, hrr-given}
use Rattle.spelling.specs.InnerSpelling.{size_of, begun, spelt, record_in, leading}

-- ---- what a record gives that begins a segment

-- a list that stands at the front of another
abbrev pub Front : List ℕ → List ℕ → Type 0
Front g b = (length g ≤ length b) × (take (length g) b ≡ g)

front : (k : ℕ) (b : List ℕ) → Front (take k b) b
front zero b = (zero-le, refl)
front (suc k) [] = (zero-le, refl)
front (suc k) (y ∷ b) =
    let f = front k b in
    (omega arith, ap (λ (z : List ℕ). y ∷ z) f.1)

-- a mask of k bytes and behind it the fields that it announces
masked-stored : (k : ℕ) (ws b : List ℕ) (mask n : ℕ) → mask ≡ n → (o : List ℕ) {x w : List ℕ} → k ≤ length b
    → x ≡ sets o 0 (take k b) → w ≡ sets x k (announced_fields mask 2 ws (drop k b)) → w ≡ sets o 0 (take k b ++ announced_fields n 2 ws (drop k b))
masked-stored k ws b mask n m o {x} {w} h hx hw =
    then (take k b) (announced_fields mask 2 ws (drop k b)) o 0 k hx (length-take-le k b h) (hw ∙ ap (λ (i : ℕ). sets x i (announced_fields mask 2 ws (drop k b))) start)
    ∙ ap (λ (i : ℕ). sets o 0 (take k b ++ announced_fields i 2 ws (drop k b))) m
  where
    start : k ≡ 0 + k
    start = omega arith

module _ (kind : ℕ) (b : List ℕ) where
  -- where no field is left out by a mask, the front of the body
  pub copied : (kind ≡ 3 → ⊥) → (kind ≡ 11 → ⊥) → Front (given (record_in kind b)) b
  unfolding given
  copied h i = rw (ne_eqb kind 3 h, ne_eqb kind 11 i) (go (eqb kind 5) (eqb kind 7) (eqb kind 8))
    where
      go : (s t u : Bool) → Front (cond s (take 20 b) (cond t [] (cond u (take 68 b) b))) b
      go true t u = front 20 b
      go false true u = (zero-le, refl)
      go false false true = front 68 b
      go false false false = (le_refl (length b), take-length b)

  -- a dwell, of this length, gives so many bytes: its mask and the announced fields
  module _ (size : length b ≡ body_length kind) (e : kind ≡ 3) where
    pub dwell-long : length b ≡ 87
    unfolding body_length
    dwell-long = size ∙ ap body_length e

    pub dwell-length : length (given (record_in kind b)) ≡ 8 + announced_length (be 8 b) 2 dwell_widths
    dwell-length = rw e (dwell-given b (size ∙ ap body_length e))

    pub dwell-stored : (mask : ℕ) → mask ≡ be 8 b → (o : List ℕ) {x w : List ℕ}
        → x ≡ sets o 0 (take 8 b) → w ≡ sets x 8 (announced_fields mask 2 dwell_widths (drop 8 b)) → w ≡ sets o 0 (given (record_in kind b))
    unfolding given
    dwell-stored mask m o hx hw =
        rw e (masked-stored 8 dwell_widths b mask (be 8 b) m o (omega (arith, dwell-long)) hx hw)

  -- so does an HRR segment
  module _ (size : length b ≡ body_length kind) (e : kind ≡ 11) where
    pub hrr-long : length b ≡ 66
    unfolding body_length
    hrr-long = size ∙ ap body_length e

    pub hrr-length : length (given (record_in kind b)) ≡ 5 + announced_length (hrr_mask b) 2 hrr_widths
    hrr-length = rw e (hrr-given b (size ∙ ap body_length e))

    pub hrr-stored : (mask : ℕ) → mask ≡ hrr_mask b → (o : List ℕ) {x w : List ℕ}
        → x ≡ sets o 0 (take 5 b) → w ≡ sets x 5 (announced_fields mask 2 hrr_widths (drop 5 b)) → w ≡ sets o 0 (given (record_in kind b))
    unfolding given
    hrr-stored mask m o five hw = rw e (masked-stored 5 hrr_widths b mask (hrr_mask b) m o (omega (arith, hrr-long)) five hw)

-- ---- with the segment's header

module _ (r : Record) (l : Lead) (e : l ≡ lead_of r) where
  pub lead-given : l.given ≡ length (given r)
  unfolding lead_of
  lead-given = rw e

  pub lead-size : size_by l ≡ size_of r
  unfolding lead_of size_of
  lead-size = rw e

  pub leader-stored : (size : ℕ) (o : List ℕ) {x w : List ℕ} → size ≡ size_by l
      → x ≡ sets o 0 (l.segment_type ∷ bytes 4 size) → w ≡ sets x 5 (given r) → w ≡ sets o 0 (begun r)
  unfolding lead_of begun
  leader-stored size o s hx hw =
      then (l.segment_type ∷ bytes 4 size) (given r) o 0 5 hx (ap suc (length-bytes 4 size)) hw
      ∙ ap₂ (λ (q : Lead) (n : ℕ). sets o 0 (q.segment_type ∷ (bytes 4 n ++ given r))) e (s ∙ lead-size)

-- ---- what a record adds, by its kind

module _ (leader : List ℕ) (kind : ℕ) (b : List ℕ) where
  -- one that begins a segment
  pub leader-spelt : (kind ≡ 4 → ⊥) → (kind ≡ 6 → ⊥) → (kind ≡ 12 → ⊥) → begun (record_in kind b) ≡ spelt (leading leader) (record_in kind b)
  unfolding spelt
  leader-spelt t p s = rw (ne_eqb kind 4 t, ne_eqb kind 6 p, ne_eqb kind 12 s)

  -- a target its announced fields
  pub target-spelt : kind ≡ 4 → (mask : ℕ) → mask ≡ be 8 leader → announced_fields mask 32 target_widths b ≡ spelt (leading leader) (record_in kind b)
  unfolding spelt given_behind
  target-spelt e mask m = rw (m, e)

  -- a piece as many bytes as it counts
  pub piece-spelt : kind ≡ 6 → take (get_or b 0 0) (drop 1 b) ≡ spelt (leading leader) (record_in kind b)
  unfolding spelt given_behind
  piece-spelt e = rw e

  -- how long the body is, and what these give
  module _ (size : length b ≡ body_length kind) where
    pub target-long : kind ≡ 4 → 1 + length b ≡ record_length 4
    unfolding body_length
    target-long e = ap (λ (n : ℕ). 1 + n) (size ∙ ap body_length e)

    pub target-length : kind ≡ 4 → (mask : ℕ) → mask ≡ be 8 leader → announced_length mask 32 target_widths ≡ length (spelt (leading leader) (record_in kind b))
    unfolding total
    target-length e mask m = omega (arith, length-announced mask 32 target_widths b (omega (arith, target-long e)), ap length (target-spelt e mask m))

    pub piece-long : kind ≡ 6 → length b ≡ 33
    unfolding body_length
    piece-long e = size ∙ ap body_length e

    pub piece-length : kind ≡ 6 → get_or b 0 0 ≤ 32 → get_or b 0 0 ≡ length (spelt (leading leader) (record_in kind b))
    piece-length e h =
        let n = piece-long e in
        omega (arith, length-take-le (get_or b 0 0) (drop 1 b) (rw length-drop (omega arith)), ap length (piece-spelt e))
