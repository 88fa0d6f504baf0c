-- The two readings walk over the same packet: alike where nothing is new in it, and up to the first segment that holds something new.
-- Assumes nothing.
use Prim.Native.Nat.{ℕ, zero, suc, ◌+◌}
use native.Mathlib.Omega.{arith}
use mathlib.Core.Path.{◌≡◌, refl, sym, ap}
use mathlib.Core.Bool.{Bool, true, false, not, cond, ◌&&◌}
use mathlib.Core.List.{List, [], ◌∷◌}
use lib.Dec.{eqb}
use lib.ListN.{length, drop}
use Rattle.mask.specs.Mask.{new_in_mask}
use Rattle.format.specs.declared.Reading.{Reading}
use Rattle.format.specs.Check.{Check, Passed, Failed}
use Rattle.format.specs.Packet.{Segment, size_at, type_at, body_at, J}
use Rattle.format.specs.Dwell.{mask_of}
use Rattle.format.specs.Edition.{is_older, is_new_mode}
use Rattle.format.specs.Rows.{first_row, segment_rows}
use Rattle.format.specs.New.{New, Nothing, Found, new_rows, first_new}
use Rattle.format.specs.Reader.{Parsed, onward, parse}
use Rattle.format.proofs.Rows.{passed-not-failed}
use Rattle.demands.proofs.OlderRows.{segment-new}

-- something new is refused with 15
new-is-15 : (s : Segment) (number field : ℕ) → first_row (new_rows s) ≡ Failed number field → number ≡ 15
unfolding new_rows first_row
new-is-15 s number field = go (eqb s.type 3) (not (eqb mask 0)) (eqb s.type 5 && is_new_mode (J 14 s.body))
  where
    mask : ℕ
    mask = cond (eqb s.type 2) (new_in_mask (mask_of s.body)) 0

    go : (a b c : Bool) → cond a (Failed 15 0) (cond b (Failed 15 mask) (cond c (Failed 15 14) Passed)) ≡ Failed number field → number ≡ 15
    go true b c e = cc
    go false true c e = cc
    go false false true e = cc
    go false false false e = passed-not-failed number field e

-- what the older walk gives where the newer one gives p3, by what is new from the segment with number n on
abbrev pub Older : ℕ → Parsed → Parsed → New → Type 0
Older n p1 p3 Nothing = p1 ≡ p3
Older n p1 p3 (Found segment field) = (p1.ending ≡ Failed 15 field) × (segment ≡ n + length p1.segments)

-- one more segment before a rest that is known, where c is the first thing that is new in it
one_more : (n : ℕ) (s : Segment) (p1 p3 : Parsed) (c : Check) (new : New) → ((number field : ℕ) → c ≡ Failed number field → number ≡ 15)
    → Older (suc n) p1 p3 new → Older n (onward c s p1) (onward Passed s p3) (elim c [ Passed ↦ new | Failed number field ↦ Found n field ])
one_more n s p1 p3 Passed Nothing is-15 h = ap (onward Passed s) h
one_more n s p1 p3 Passed (Found segment field) is-15 h = (h.0, omega (arith, h.1))
one_more n s p1 p3 (Failed number field) new is-15 h = (rw (is-15 number field refl), omega arith)

-- r1 is the older reading of a packet that r3 reads too
module _ (r1 r3 : Reading) (older : is_older r1 ≡ true) (same : r1.version ≡ r3.version) where
  -- where r3 finds no fault, the older walk goes by what is new in the segments
  pub older-walk : (k n : ℕ) (l : List ℕ) → (parse r3 k l).ending ≡ Passed
      → Older n (parse r1 k l) (parse r3 k l) (first_new n (parse r3 k l).segments)
  unfolding parse first_new
  older-walk zero n l p = refl
  older-walk (suc k) n [] p = refl
  older-walk (suc k) n (x ∷ xs) p = go (first_row (segment_rows r3 (x ∷ xs))) refl p (older-walk k (suc n) (drop (size_at (x ∷ xs)) (x ∷ xs)))
    where
      here : Segment
      here = record { type = type_at (x ∷ xs); body = body_at (x ∷ xs) }

      rest : Reading → Parsed
      rest r = parse r k (drop (size_at (x ∷ xs)) (x ∷ xs))

      go : (c : Check) → first_row (segment_rows r3 (x ∷ xs)) ≡ c → (onward c here (rest r3)).ending ≡ Passed
          → ((rest r3).ending ≡ Passed → Older (suc n) (rest r1) (rest r3) (first_new (suc n) (rest r3).segments))
          → Older n (onward (first_row (segment_rows r1 (x ∷ xs))) here (rest r1)) (onward c here (rest r3)) (first_new n (onward c here (rest r3)).segments)
      go Passed e p i = rw (segment-new r1 r3 older same (x ∷ xs) e) (one_more n here (rest r1) (rest r3) (first_row (new_rows here)) (first_new (suc n) (rest r3).segments) (new-is-15 here) (i p))
      go (Failed number field) e p i = passed-not-failed number field (sym p)
