-- One step of the walk over a packet's segments, by what stands at the front of what is left.
-- Assumes nothing.
use Prim.Native.Nat.{ℕ, zero, suc, ◌-◌, ◌<◌}
use native.Mathlib.Omega.{arith}
use mathlib.Core.Path.{◌≡◌, refl, sym, ap, ◌∙◌}
use mathlib.Core.List.{List, [], ◌∷◌}
use lib.ListN.{length, drop}
use Rattle.format.specs.declared.Reading.{Reading}
use Rattle.format.specs.Check.{Check, Passed, Failed}
use Rattle.format.specs.Packet.{size_at, segment_at}
use Rattle.format.specs.Rows.{first_row, segment_rows}
use Rattle.format.specs.Reader.{Parsed, onward, parse}
use Rattle.format.proofs.Rows.{passed-not-failed}

-- where bytes are left, the first row that applies to the segment at their front decides
turn : (r : Reading) (k : ℕ) (l : List ℕ) → 0 < length l → 0 < k → parse r k l ≡ onward (first_row (segment_rows r l)) (segment_at l) (parse r (k - 1) (drop (size_at l) l))
unfolding parse
turn r k [] h f = absurd (omega arith)
turn r zero (x ∷ xs) h f = absurd (omega arith)
turn r (suc k) (x ∷ xs) h f =
    let e : k ≡ suc k - 1 = omega arith in
    ap (λ (j : ℕ). onward (first_row (segment_rows r (x ∷ xs))) (segment_at (x ∷ xs)) (parse r j (drop (size_at (x ∷ xs)) (x ∷ xs)))) e

module _ (r : Reading) (k : ℕ) (l : List ℕ) where
  -- what the walk finds behind the segment at the front
  abbrev pub behind : Parsed
  behind = parse r (k - 1) (drop (size_at l) l)

  -- no row applies: the segment comes first
  pub parse-good : 0 < length l → 0 < k → first_row (segment_rows r l) ≡ Passed → parse r k l ≡ record { segments = segment_at l ∷ behind.segments; ending = behind.ending }
  parse-good h f p = turn r k l h f ∙ ap (λ (c : Check). onward c (segment_at l) behind) p

  -- a row applies: the walk ends
  pub parse-bad : 0 < length l → 0 < k → (number field : ℕ) → first_row (segment_rows r l) ≡ Failed number field → parse r k l ≡ record { segments = []; ending = Failed number field }
  parse-bad h f number field p = turn r k l h f ∙ ap (λ (c : Check). onward c (segment_at l) behind) p

  -- nothing is left
  pub parse-end : length l ≡ 0 → parse r k l ≡ record { segments = []; ending = Passed }
  unfolding parse
  parse-end h = go k l h
    where
      go : (k : ℕ) (l : List ℕ) → length l ≡ 0 → parse r k l ≡ record { segments = []; ending = Passed }
      go zero l h = refl
      go (suc k) [] h = refl
      go (suc k) (x ∷ xs) h = absurd (omega arith)

  -- a walk that ends with the packet's end meets no row
  pub parse-passes : 0 < length l → 0 < k → (parse r k l).ending ≡ Passed → first_row (segment_rows r l) ≡ Passed
  parse-passes h f e = go (first_row (segment_rows r l)) refl
    where
      go : (c : Check) → first_row (segment_rows r l) ≡ c → first_row (segment_rows r l) ≡ Passed
      go Passed p = p
      go (Failed number field) p = passed-not-failed number field (sym e ∙ ap (λ (q : Parsed). q.ending) (parse-bad h f number field p))
