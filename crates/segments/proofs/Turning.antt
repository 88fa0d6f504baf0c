-- A turn of the loops that go over all segments once no row applies, to lay their records out, to compare them or to gather their pairs, in the
-- terms of the code: t is the packet from a place on, the segment's size is read there, and its body is the part of t behind 5 bytes.
-- Assumes nothing.
use Prim.Native.Nat.{ℕ, ◌+◌, ◌-◌, ◌≤◌, ◌<◌, zero-le}
use native.Mathlib.Omega.{arith}
use mathlib.Core.Path.{◌≡◌, sym, ap, ap₂, ◌∙◌}
use mathlib.Core.List.{List, [], ◌∷◌, ◌++◌}
use lib.ListN.{length, get_or, take, drop, length-drop, length-append}
use lib.Seq.{drop-drop}
use Rattle.octets.proofs.Parts.{tail-is}
use Rattle.format.specs.declared.Reading.{Reading}
use Rattle.format.specs.Check.{Passed}
use Rattle.format.specs.Packet.{Segment, size_at, segment_at}
use Rattle.format.specs.Rows.{first_row, segment_rows}
use Rattle.format.specs.Reader.{Parsed, parse}
use Rattle.format.proofs.Rows.{segment-passes}
use Rattle.format.proofs.Turns.{parse-good, parse-end}
use Rattle.format.proofs.Filling.{left_over, step, handed, none_left}
use Rattle.segments.specs.InnerWalk.{Checked, bytes_of, CheckedAll}
use Rattle.segments.proofs.Walking.{handed-checked}

-- what is known at a place of the packet; k bounds the segments that are left
pub record Left (r : Reading) (l : List ℕ) (at : ℕ) : Type 0 where
  pub k : ℕ
  pub within : at ≤ length l
  pub fuel : length l ≤ at + k
  pub ending : (parse r k (drop at l)).ending ≡ Passed

-- the segments that are left
abbrev pub segments_left : {r : Reading} {l : List ℕ} {at : ℕ} → Left r l at → List Segment
segments_left {r} {l} {at} i = (parse r i.k (drop at l)).segments

-- the bytes of their records
abbrev pub bytes_left : {r : Reading} {l : List ℕ} {at : ℕ} → Left r l at → List ℕ
bytes_left {r} {l} {at} i = left_over r i.k (drop at l)

-- at the front all are
abbrev pub all_left : (r : Reading) (l : List ℕ) → CheckedAll r l → Left r l 0
all_left r l c = record { k = length l; within = zero-le; fuel = omega arith; ending = c.ending }

-- what the code takes apart there
module _ (r : Reading) (l : List ℕ) (at : ℕ) where
  abbrev pub tail : List ℕ
  tail = take (length l - at) (drop at l)

  -- the bytes of the records of the segment that stands there with this size
  abbrev pub bytes_at : ℕ → List ℕ
  bytes_at size = bytes_of r (get_or tail 0 0) (take (size - 5) (drop 5 tail))

  -- the segment, and what is left behind it
  pub record Turn (i : Left r l at) (size : ℕ) : Type 0 where
    pub header : 5 ≤ size
    pub within : at + size ≤ length l
    pub part : size ≤ length tail
    pub rows : first_row (segment_rows r tail) ≡ Passed
    pub checked : Checked r (get_or tail 0 0) (take (size - 5) (drop 5 tail))
    pub next : Left r l (at + size)
    pub segments_are : segments_left i ≡ segment_at tail ∷ segments_left next
    pub bytes-are : bytes_left i ≡ bytes_at size ++ bytes_left next
    pub lengths-are : length (bytes_left i) ≡ length (bytes_at size) + length (bytes_left next)

  module _ (i : Left r l at) where
    -- a segment has its header
    pub headed : at < length l → 5 ≤ length tail
    headed h =
        let g = segment-passes r (drop at l) (step r i.k l at h (omega (arith, i.fuel)) i.ending).rows in
        rw (tail-is at l) (omega (arith, g.header, g.within))

    -- no row applies to it
    pub turn : length l ≤ 65536 → at < length l → (size : ℕ) → size ≡ size_at tail → Turn i size
    turn n h size z =
        let s = step r i.k l at h (omega (arith, i.fuel)) i.ending in
        let p = handed r l tail at size (tail-is at l) z s.rows in
        let behind : drop (at + size_at (drop at l)) l ≡ drop (at + size) l = ap (λ (m : ℕ). drop (at + m) l) (sym p.size_is) in
        let some : 0 < length (drop at l) = rw length-drop (omega arith) in
        let e : bytes_left i ≡ bytes_at size ++ left_over r (i.k - 1) (drop (at + size) l) =
        s.bytes-are ∙ ap (λ (x : List ℕ). x ++ left_over r (i.k - 1) (drop (at + size_at (drop at l)) l)) (sym p.bytes-are) ∙ ap (λ (x : List ℕ). bytes_at size ++ left_over r (i.k - 1) x) behind in
        record {
          header = p.header;
          within = omega (arith, p.within);
          part = rw (tail-is at l, length-drop) p.within;
          rows = rw (tail-is at l) s.rows;
          checked = handed-checked r l tail at size n p;
          next = record { k = i.k - 1; within = omega (arith, p.within); fuel = omega (arith, p.header, i.fuel); ending = sym (ap (λ (x : List ℕ). (parse r (i.k - 1) x).ending) behind) ∙ s.ending };
          segments_are =
              ap (λ (q : Parsed). q.segments) (parse-good r i.k (drop at l) some (omega (arith, i.fuel)) s.rows)
              ∙ ap₂ (λ (x y : List ℕ). segment_at x ∷ (parse r (i.k - 1) y).segments) (sym (tail-is at l)) (drop-drop (size_at (drop at l)) at l ∙ behind);
          bytes-are = e;
          lengths-are = ap length e ∙ length-append (bytes_at size) (left_over r (i.k - 1) (drop (at + size) l));
        }

    -- at the end nothing is left
    pub nothing_left : length l ≤ at → bytes_left i ≡ []
    nothing_left h = none_left r i.k (drop at l) (rw length-drop (omega arith))

    pub none-behind : length l ≤ at → segments_left i ≡ []
    none-behind h = ap (λ (q : Parsed). q.segments) (parse-end r i.k (drop at l) (rw length-drop (omega arith)))
