-- The first new thing in a packet, segment by segment as code goes over them.
-- Assumes nothing.
use Prim.Native.Nat.{ℕ, suc, ◌+◌, ◌-◌, ◌≤◌, ◌<◌}
use native.Mathlib.Omega.{arith}
use native.Mathlib.Numerals.{add-one}
use mathlib.Core.Path.{◌≡◌, refl, sym, ap, ap₂, ◌∙◌}
use mathlib.Core.Bool.{true, false, ◌&&◌}
use mathlib.Core.List.{List, [], ◌∷◌}
use borrow.Author.Tests.{ne_eqb}
use lib.Dec.{eqb}
use lib.ListN.{length, get_or, take, drop, length-drop}
use lib.Seq.{drop-drop}
use Rattle.octets.proofs.Parts.{tail-is}
use Rattle.mask.specs.Mask.{new_in_mask}
use Rattle.format.specs.declared.Settings.{Settings}
use Rattle.format.specs.declared.Reading.{Reading}
use Rattle.format.specs.Check.{Check, Passed, Failed}
use Rattle.format.specs.New.{New, Nothing, Found, new_rows, first_new}
use Rattle.format.specs.Packet.{Segment, type_at, size_at, body_at, J, segment_at}
use Rattle.format.specs.Dwell.{mask_of}
use Rattle.format.specs.Edition.{is_hrr, is_new_mode}
use Rattle.format.specs.Rows.{naming, first_row, body_rows}
use Rattle.format.specs.Reader.{Parsed, parse, parsed, reading_of}
use Rattle.format.proofs.Acceptance.{header-sized}
use Rattle.format.proofs.Bodies.{job-length}
use Rattle.format.proofs.ByType.{rows_as}
use Rattle.format.proofs.Dwells.{is-dwell}
use Rattle.format.proofs.Segments.{body-part}
use Rattle.format.proofs.Turns.{parse-good, parse-end, parse-passes}
use Rattle.segments.specs.InnerWalk.{Checked, CheckedPacket}
use Rattle.segments.proofs.Turning.{Left, Turn}

-- ---- one segment

-- with this type and body
abbrev pub segment_of : ℕ → List ℕ → Segment
segment_of t b = record { type = t; body = b }

-- the first of the new things in it, by its type
module _ (t : ℕ) (b : List ℕ) where
  pub new-type : t ≡ 3 → Failed 15 0 ≡ first_row (new_rows (segment_of t b))
  unfolding new_rows first_row
  new-type e = rw e

  pub new-dwell : {c : Check} → t ≡ 2 → c ≡ first_row (naming 15 (new_in_mask (mask_of b)) ∷ []) → c ≡ first_row (new_rows (segment_of t b))
  unfolding new_rows first_row
  new-dwell e h = h ∙ sym (ap (λ (k : ℕ). first_row (new_rows (segment_of k b))) e)

  pub new-mode : t ≡ 5 → is_new_mode (J 14 b) ≡ true → Failed 15 14 ≡ first_row (new_rows (segment_of t b))
  unfolding new_rows first_row
  new-mode e h = rw (e, h)

  pub nothing-new : (t ≡ 3 → ⊥) → (t ≡ 2 → ⊥) → (eqb t 5 && is_new_mode (J 14 b)) ≡ false → Passed ≡ first_row (new_rows (segment_of t b))
  unfolding new_rows first_row
  nothing-new h3 h2 h = rw (ne_eqb t 3 h3, ne_eqb t 2 h2, h)

-- a body to which no row applies has its mask, or its J14
pub looked-at : (r : Reading) (t : ℕ) (b : List ℕ) → Checked r t b → (t ≡ 2 → 8 ≤ length b) × (t ≡ 5 → 46 ≤ length b)
unfolding body_rows is_hrr
looked-at r t b c = (
  λ e. omega (arith, (is-dwell r b (rows_as r b t 2 e c.rows)).long),
  λ e. omega (arith, job-length r b (rows_as r b t 5 e c.rows)),
)

-- ---- the segments that are left at a place of the packet

abbrev pub segments_left : {r : Reading} {l : List ℕ} {at : ℕ} → Left r l at → List Segment
segments_left {r} {l} {at} i = (parse r i.k (drop at l)).segments

-- how far a walk is: so many segments, counted from 1, are passed, and the first new thing of those left is that of the packet
pub record Sought (settings : Settings) (l : List ℕ) (at segment : ℕ) : Type 0 where
  pub left : Left (reading_of settings l) l at
  pub few : segment ≤ at
  pub rest : first_new segment (segments_left left) ≡ first_new 1 (parsed settings l).segments

-- behind the header all are left
pub all-sought : (settings : Settings) (l : List ℕ) → CheckedPacket settings l → Sought settings l 32 1
unfolding parsed
all-sought settings l c =
    let long = (header-sized settings l c.header).long in
    record {
      left = record { k = length (drop 32 l); within = long; fuel = omega (arith, length-drop 32 l); ending = c.ending };
      few = omega arith;
      rest = refl;
    }

-- the segment of a turn, and those behind it
module _ (r : Reading) (l : List ℕ) (at : ℕ) (i : Left r l at) (size : ℕ) where
  -- the packet from the place on, and as the code hands it on
  abbrev from : List ℕ
  from = drop at l

  abbrev tail : List ℕ
  tail = take (length l - at) (drop at l)

  -- the segment, as the code takes it apart
  abbrev pub here : Segment
  here = segment_of (get_or tail 0 0) (take (size - 5) (drop 5 tail))

  here-is : size ≡ size_at from → 5 ≤ size → here ≡ segment_at from
  unfolding type_at
  here-is z h =
      let body : take (size - 5) (drop 5 tail) ≡ body_at from = ap (λ (x : List ℕ). take (size - 5) (drop 5 x)) (tail-is at l) ∙ body-part from size z h in
      ap₂ segment_of (ap (λ (x : List ℕ). get_or x 0 0) (tail-is at l)) body

  -- what the walk finds behind it
  abbrev rest : Parsed
  rest = parse r (i.k - 1) (drop (at + size) l)

  found : at < length l → size ≡ size_at from → parse r i.k from ≡ record { segments = segment_at from ∷ rest.segments; ending = rest.ending }
  found h z =
      let some : 0 < length from = rw length-drop (omega arith) in
      let fuel : 0 < i.k = omega (arith, i.fuel) in
      let next : drop (size_at from) from ≡ drop (at + size) l = drop-drop (size_at from) at l ∙ ap (λ (m : ℕ). drop (at + m) l) (sym z) in
      parse-good r i.k from some fuel (parse-passes r i.k from some fuel i.ending)
      ∙ ap (λ (x : List ℕ). record { segments = segment_at from ∷ (parse r (i.k - 1) x).segments; ending = (parse r (i.k - 1) x).ending }) next

  pub record Behind : Type 0 where
    pub next : Left r l (at + size)
    pub segments_are : segments_left i ≡ here ∷ segments_left next

  pub behind : at < length l → size ≡ size_at tail → Turn r l at i size → Behind
  behind h z t =
      let z' : size ≡ size_at from = z ∙ ap size_at (tail-is at l) in
      record {
        next = record { k = i.k - 1; within = t.within; fuel = omega (arith, t.header, i.fuel); ending = sym (ap (λ (p : Parsed). p.ending) (found h z')) ∙ i.ending };
        segments_are = ap (λ (p : Parsed). p.segments) (found h z') ∙ sym (ap (λ (x : Segment). x ∷ rest.segments) (here-is z' t.header));
      }

-- ---- a turn of the walk

-- the first new thing, by what the first segment holds
abbrev new_by : ℕ → List Segment → Check → New
new_by n ss c = elim c [ Passed ↦ first_new (suc n) ss | Failed number field ↦ Found n field ]

module _ {settings : Settings} {l : List ℕ} {at segment : ℕ} (w : Sought settings l at segment) where
  -- the segment holds something new
  pub found_here : {size number field : ℕ} → Behind (reading_of settings l) l at w.left size
      → first_row (new_rows (here (reading_of settings l) l at w.left size)) ≡ Failed number field
      → Found segment field ≡ first_new 1 (parsed settings l).segments
  unfolding first_new
  found_here b e = sym (ap (first_new segment) b.segments_are ∙ ap (new_by segment (segments_left b.next)) e) ∙ w.rest

  -- it does not
  pub sought-on : {size : ℕ} → (b : Behind (reading_of settings l) l at w.left size) → 5 ≤ size
      → first_row (new_rows (here (reading_of settings l) l at w.left size)) ≡ Passed
      → Sought settings l (at + size) (segment + 1)
  unfolding first_new
  sought-on b h e = record {
    left = b.next;
    few = omega (arith, w.few);
    rest = rw add-one (sym (ap (first_new segment) b.segments_are ∙ ap (new_by segment (segments_left b.next)) e) ∙ w.rest);
  }

  -- none is left
  pub none_found : length l ≤ at → Nothing ≡ first_new 1 (parsed settings l).segments
  unfolding first_new
  none_found h =
      let e : length (drop at l) ≡ 0 = length-drop at l ∙ omega arith in
      sym (ap (λ (p : Parsed). first_new segment p.segments) (parse-end (reading_of settings l) w.left.k (drop at l) e)) ∙ w.rest
