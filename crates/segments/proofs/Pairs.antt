-- D2 and D3 as one number: the numbers of two dwells of a packet are equal just where their pairs are the same.
-- Assumes nothing.
use Prim.Native.Nat.{ℕ, zero, suc, ◌+◌, ◌*◌, ◌<◌}
use native.Mathlib.Omega.{arith}
use mathlib.Core.Path.{◌≡◌, refl, sym, ap, ◌∙◌}
use mathlib.Core.Bool.{Bool, true, false, cond, ◌&&◌}
use mathlib.Core.List.{List, [], ◌∷◌, Forall₂}
use borrow.Author.Tests.{eqb-true, eqb-false, eq-eqb, ne_eqb}
use lib.Dec.{eqb, lit≤, lit<}
use lib.ListN.{take, drop}
use Rattle.octets.specs.Octets.{be, Bytes}
use Rattle.octets.proofs.Laws.{be-lt, joined}
use Rattle.octets.proofs.ByteLists.{take-bytes, drop-bytes}
use Rattle.mask.specs.Fields.{announced_length, dwell_widths}
use Rattle.mask.specs.Mask.{is_required}
use Rattle.mask.specs.InnerFields.{Required}
use Rattle.mask.proofs.Places.{announced_before, value_there}
use Rattle.format.specs.declared.Reading.{Reading}
use Rattle.format.specs.Check.{Check, Passed, Failed}
use Rattle.format.specs.Packet.{Segment, size_at, body_at, segment_at}
use Rattle.format.specs.Dwell.{mask_of, dwell_fields, D, Pair, pair_of, is_same_pair}
use Rattle.format.specs.Rows.{first_row, body_rows, segment_rows}
use Rattle.format.specs.Reader.{Parsed, onward, parse, pairs_in}
use Rattle.format.proofs.Rows.{segment-passes}
use Rattle.format.proofs.Dwells.{is-dwell}
use Rattle.segments.specs.InnerWalk.{pair_number, pair_numbers}

-- ---- a pair and its number

-- the number is D2, and D3 in the 16 bits below it
pub record Spelt (p : Pair) (n : ℕ) : Type 0 where
  pub number_is : n ≡ p.d2 * 65536 + p.d3
  pub low : p.d3 < 65536

-- so two numbers are equal just where the pairs are the same
pub spelt-alike : (p : Pair) (m : ℕ) (q : Pair) (n : ℕ) → Spelt p m → Spelt q n → is_same_pair p q ≡ eqb m n
unfolding is_same_pair
spelt-alike p m q n s t = go (eqb p.d2 q.d2) refl (eqb p.d3 q.d3) refl
  where
    go : (a : Bool) → eqb p.d2 q.d2 ≡ a → (b : Bool) → eqb p.d3 q.d3 ≡ b → (a && b) ≡ eqb m n
    go true h true k = sym (eq-eqb m n (omega (arith, s.number_is, t.number_is, eqb-true p.d2 q.d2 h, eqb-true p.d3 q.d3 k)))
    go true h false k = sym (ne_eqb m n (λ e. eqb-false p.d3 q.d3 k (omega (arith, s.number_is, t.number_is, eqb-true p.d2 q.d2 h))))
    go false h b k = sym (ne_eqb m n (λ e. eqb-false p.d2 q.d2 h (omega (arith, s.number_is, t.number_is, s.low, t.low))))

-- ---- a dwell's

-- D3 stands behind D2
before-3 : (mask : ℕ) → Required mask → announced_before mask 2 dwell_widths 3 ≡ 2
unfolding is_required announced_length
before-3 mask h = rw (h 2 refl)

-- the four bytes behind the mask spell D2 and D3
dwell-spelt : (b : List ℕ) → Bytes b → Required (mask_of b) → Spelt (pair_of (dwell_fields b)) (pair_number b)
unfolding is_required dwell_fields announced_length
dwell-spelt b h q =
    let mask = mask_of b in
    let at : 10 ≡ 8 + announced_before mask 2 dwell_widths 3 = sym (ap (λ (n : ℕ). 8 + n) (before-3 mask q)) in
    let d2 : be 2 (drop 8 b) ≡ D 2 (dwell_fields b) = value_there mask 2 2 dwell_widths (lit≤ tt) (lit< tt) b 8 8 (q 2 refl) refl refl in
    let d3 : be 2 (drop 10 b) ≡ D 3 (dwell_fields b) = value_there mask 2 3 dwell_widths (lit≤ tt) (lit< tt) b 8 10 (q 3 refl) at refl in
    record {
      number_is = omega (arith, joined 2 2 b 8 refl refl, d2, d3);
      low = omega (arith, d3, be-lt 2 (drop 10 b) (drop-bytes 10 b h));
    }

-- ---- those of all dwells

-- the pairs of the dwells and their numbers, one by one
abbrev pub AllSpelt : List Segment → Type 0
AllSpelt ss = Forall₂ Spelt (pairs_in ss) (pair_numbers ss)

-- with one more segment, to which no row applies
segment-spelt : (r : Reading) (s : Segment) (ss : List Segment) → Bytes s.body → first_row (body_rows r s.type s.body) ≡ Passed
    → AllSpelt ss → AllSpelt (s ∷ ss)
unfolding pairs_in pair_numbers body_rows
segment-spelt r s ss h e rest = go (eqb s.type 2) refl
  where
    pair : Pair
    pair = pair_of (dwell_fields s.body)

    dwell : s.type ≡ 2 → Spelt pair (pair_number s.body)
    dwell t = dwell-spelt s.body h (is-dwell r s.body (sym (ap (λ (n : ℕ). first_row (body_rows r n s.body)) t) ∙ e)).required

    go : (t : Bool) → eqb s.type 2 ≡ t
        → Forall₂ Spelt (cond t (pair ∷ pairs_in ss) (pairs_in ss)) (cond t (pair_number s.body ∷ pair_numbers ss) (pair_numbers ss))
    go true t = Forall₂.cons (dwell (eqb-true s.type 2 t)) rest
    go false t = rest

-- a body is bytes where the packet is
pub body_bytes : (l : List ℕ) → Bytes l → Bytes (body_at l)
unfolding body_at
body_bytes l h = drop-bytes 5 (take (size_at l) l) (take-bytes (size_at l) l h)

-- so with all that the walk finds: it stops before a segment to which a row applies
pub parse-spelt : (r : Reading) (k : ℕ) (l : List ℕ) → Bytes l → AllSpelt (parse r k l).segments
unfolding parse pairs_in pair_numbers
parse-spelt r zero l h = Forall₂.nil
parse-spelt r (suc k) [] h = Forall₂.nil
parse-spelt r (suc k) (x ∷ xs) h =
    go (first_row (segment_rows r (x ∷ xs))) refl (parse-spelt r k (drop (size_at (x ∷ xs)) (x ∷ xs)) (drop-bytes (size_at (x ∷ xs)) (x ∷ xs) h))
  where
    l : List ℕ
    l = x ∷ xs

    rest : Parsed
    rest = parse r k (drop (size_at l) l)

    go : (c : Check) → first_row (segment_rows r l) ≡ c → AllSpelt rest.segments → AllSpelt (onward c (segment_at l) rest).segments
    go Passed p i = segment-spelt r (segment_at l) rest.segments (body_bytes l h) (segment-passes r l p).body i
    go (Failed number field) p i = Forall₂.nil
