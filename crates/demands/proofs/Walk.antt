-- The walk over a packet's segments stops where document 01 says: at the first segment to which a row applies, or at the end.
-- Assumes nothing.
use Prim.Native.Nat.{ℕ, zero, suc, ◌≤◌, ◌<◌}
use native.Mathlib.Nat.{not-suc-le-zero}
use native.Mathlib.Omega.{arith}
use mathlib.Core.Path.{◌≡◌, refl, subst}
use mathlib.Core.List.{List, [], ◌∷◌, ◌++◌, append-nil, append_assoc}
use lib.ListN.{length, drop, length-drop}
use Rattle.format.specs.declared.Reading.{Reading}
use Rattle.format.specs.Check.{Check, Passed, Failed}
use Rattle.format.specs.Packet.{Segment, size_at, segment_at}
use Rattle.format.specs.Rows.{first_row, segment_rows}
use Rattle.format.specs.Reader.{Parsed, onward, parse}
use Rattle.format.proofs.Rows.{segment-passes}
use Rattle.demands.specs.First.{Passes, more}

-- where a walk that passed the segments ss stops: at the packet's end, or at a segment with its first row
abbrev pub Stopped : Reading → List ℕ → List Segment → Check → Type 0
Stopped r start ss Passed = Passes r start ss []
Stopped r start ss (Failed number field) =
    (left : List ℕ) × Passes r start ss left × (0 < length left) × (first_row (segment_rows r left) ≡ Failed number field)

module _ (r : Reading) (start : List ℕ) where
  -- from what is left behind ss on, the walk passes the segments that it finds
  pub walk : (k : ℕ) (ss : List Segment) (l : List ℕ) → length l ≤ k → Passes r start ss l → Stopped r start (ss ++ (parse r k l).segments) (parse r k l).ending
  unfolding parse
  walk zero ss [] h p = rw (append-nil ss) p
  walk zero ss (x ∷ xs) h p = absurd (not-suc-le-zero h)
  walk (suc k) ss [] h p = rw (append-nil ss) p
  walk (suc k) ss (x ∷ xs) h p =
      go (first_row (segment_rows r (x ∷ xs))) refl
      (λ e. walk k (ss ++ here ∷ []) (drop (size_at (x ∷ xs)) (x ∷ xs)) (rw length-drop (omega (arith, (segment-passes r (x ∷ xs) e).header))) (more p (omega arith) e))
    where
      here : Segment
      here = segment_at (x ∷ xs)

      rest : Parsed
      rest = parse r k (drop (size_at (x ∷ xs)) (x ∷ xs))

      go : (c : Check) → first_row (segment_rows r (x ∷ xs)) ≡ c
          → (first_row (segment_rows r (x ∷ xs)) ≡ Passed → Stopped r start (ss ++ here ∷ [] ++ rest.segments) rest.ending)
          → Stopped r start (ss ++ (onward c here rest).segments) (onward c here rest).ending
      go Passed e i = subst (λ (qs : List Segment). Stopped r start qs rest.ending) (append_assoc ss (here ∷ []) rest.segments) (i e)
      go (Failed number field) e i = rw (append-nil ss) (x ∷ xs, p, omega arith, e)
