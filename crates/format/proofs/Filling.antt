-- The walk over the segments' records, to lay them out or to compare them: one segment's, behind those before it.
-- Assumes nothing.
use Prim.Native.Nat.{ℕ, ◌+◌, ◌-◌, ◌≤◌, ◌<◌}
use native.Mathlib.Omega.{arith}
use mathlib.Core.Path.{◌≡◌, sym, ap, ap₂, ◌∙◌}
use mathlib.Core.List.{List, [], ◌∷◌, ◌++◌}
use lib.ListN.{length, get_or, take, drop, length-drop}
use lib.Seq.{drop-drop}
use Rattle.format.specs.declared.Reading.{Reading}
use Rattle.format.specs.Check.{Passed}
use Rattle.format.specs.Packet.{type_at, size_at, body_at, segment_at}
use Rattle.format.specs.Sheet.{segment_records, packet_records, record_bytes}
use Rattle.format.specs.Rows.{first_row, body_rows, segment_rows}
use Rattle.format.specs.Reader.{Parsed, parse}
use Rattle.format.proofs.Rows.{segment-passes}
use Rattle.format.proofs.Segments.{length-body, body-part}
use Rattle.format.proofs.Lengths.{bytes-append}
use Rattle.format.proofs.Turns.{behind, parse-good, parse-passes, parse-end}

-- the bytes of the records that are left
abbrev pub left_over : Reading → ℕ → List ℕ → List ℕ
left_over r k l = record_bytes (packet_records r (parse r k l).segments)

-- the records of the segment at the front of l
abbrev pub first_bytes : Reading → List ℕ → List ℕ
first_bytes r l = record_bytes (segment_records r (segment_at l))

-- where the walk ends with the packet, a step finds a segment to which no row applies, and the rest
pub record Step (r : Reading) (k : ℕ) (s : List ℕ) (at : ℕ) : Type 0 where
  pub rows : first_row (segment_rows r (drop at s)) ≡ Passed
  pub ending : (parse r (k - 1) (drop (at + size_at (drop at s)) s)).ending ≡ Passed
  pub bytes-are : left_over r k (drop at s) ≡ first_bytes r (drop at s) ++ left_over r (k - 1) (drop (at + size_at (drop at s)) s)

-- by a step of the definition
pub step : (r : Reading) (k : ℕ) (s : List ℕ) (at : ℕ) → at < length s → 0 < k → (parse r k (drop at s)).ending ≡ Passed → Step r k s at
unfolding packet_records
step r k s at h f e =
    let l = drop at s in
    let some : 0 < length l = rw length-drop (omega arith) in
    let p = parse-passes r k l some f e in
    let g = parse-good r k l some f p in
    let d : drop (size_at l) l ≡ drop (at + size_at l) s = drop-drop (size_at l) at s in
    let m : behind r k l ≡ parse r (k - 1) (drop (at + size_at l) s) = ap (parse r (k - 1)) d in
    record {
      rows = p;
      ending = sym (ap (λ (q : Parsed). q.ending) (g ∙ ap (λ (q : Parsed). record { segments = segment_at l ∷ q.segments; ending = q.ending }) m)) ∙ e;
      bytes-are =
          ap (λ (q : Parsed). record_bytes (packet_records r q.segments)) g
          ∙ bytes-append (segment_records r (segment_at l)) (packet_records r (behind r k l).segments)
          ∙ ap (λ (q : Parsed). first_bytes r l ++ record_bytes (packet_records r q.segments)) m;
    }

-- at the end nothing is left
pub none_left : (r : Reading) (k : ℕ) (l : List ℕ) → length l ≡ 0 → left_over r k l ≡ []
unfolding packet_records record_bytes
none_left r k l h = ap (λ (q : Parsed). record_bytes (packet_records r q.segments)) (parse-end r k l h)

-- what is handed on of the segment at a place of s: t is the packet from there on, and the body is the part of it behind 5 bytes
module _ (r : Reading) (s t : List ℕ) (at size : ℕ) where
  abbrev pub handed_body : List ℕ
  handed_body = take (size - 5) (drop 5 t)

  pub record Handed : Type 0 where
    pub header : 5 ≤ size
    pub within : size ≤ length s - at
    pub size_is : size ≡ size_at (drop at s)
    pub rows : first_row (body_rows r (get_or t 0 0) handed_body) ≡ Passed
    pub short : length handed_body ≤ length s
    pub bytes-are : record_bytes (segment_records r (record { type = get_or t 0 0; body = handed_body })) ≡ first_bytes r (drop at s)

  -- where no row applies to the segment
  pub handed : t ≡ drop at s → size ≡ size_at t → first_row (segment_rows r (drop at s)) ≡ Passed → Handed
  unfolding type_at
  handed e z p =
      let g = segment-passes r (drop at s) p in
      let z' : size ≡ size_at (drop at s) = z ∙ ap size_at e in
      let b : handed_body ≡ body_at (drop at s) =
      ap (λ (x : List ℕ). take (size - 5) (drop 5 x)) e ∙ body-part (drop at s) size z' (omega (arith, g.header)) in
      let k : get_or t 0 0 ≡ type_at (drop at s) = ap (λ (x : List ℕ). get_or x 0 0) e in
      let w : length (drop at s) ≡ length s - at = length-drop at s in
      record {
        header = omega (arith, g.header);
        within = omega (arith, g.within);
        size_is = z';
        rows = ap₂ (λ (n : ℕ) (x : List ℕ). first_row (body_rows r n x)) k b ∙ g.body;
        short = omega (arith, ap length b, length-body (drop at s) g.within, g.within);
        bytes-are = ap₂ (λ (n : ℕ) (x : List ℕ). record_bytes (segment_records r (record { type = n; body = x }))) k b;
      }
