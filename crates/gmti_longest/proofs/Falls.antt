-- The packet of the program is accepted by both readings, and its sheet falls 542 bytes short of the formula.
-- Assumes nothing.
use Prim.Native.Nat.{ℕ, zero, suc, ◌+◌, ◌-◌, ◌*◌, ◌≤◌}
use native.Mathlib.Omega.{arith}
use mathlib.Core.Path.{◌≡◌, refl, ap, ap₂, ◌∙◌}
use mathlib.Core.Bool.{Bool, true, false, cond, ◌||◌, and-false}
use mathlib.Core.List.{List, [], ◌∷◌, ◌++◌, append-nil}
use borrow.Author.Tests.{le-ltb, eq-eqb}
use lib.Dec.{eqb}
use lib.IntN.{pos}
use lib.ListN.{length, drop, length-replicate}
use lib.Seq.{drop-nil}
use Rattle.octets.specs.Octets.{be, bytes, twos, signed}
use Rattle.octets.specs.Layout.{pad, total, value, signed_value}
use Rattle.octets.proofs.Laws.{be-bytes}
use Rattle.octets.proofs.Layouts.{pad-zeros}
use Rattle.distinct.specs.Distinct.{is_among, without_repeats}
use Rattle.mask.specs.Fields.{announced, announced_length, full_fields, target_widths, d32, taken, dwell_size}
use Rattle.mask.specs.Mask.{is_required, is_reserved, is_in, any_set, is_gap, is_gap_in, is_doubled, is_fault, first_from, lowest_fault, new_in_mask, is_placed}
use Rattle.position.specs.Position.{is_latitude}
use Rattle.format.specs.declared.Reading.{Reading}
use Rattle.format.specs.declared.Area.{Area}
use Rattle.format.specs.Check.{Check, Passed}
use Rattle.format.specs.Answer.{Accepted}
use Rattle.format.specs.Packet.{Segment, s2, is_known}
use Rattle.format.specs.Dwell.{mask_of, dwell_fields, D, target_count, targets_of, target_length, target_fields, area_of, latitude}
use Rattle.format.specs.Edition.{as_edition, is_older}
use Rattle.format.specs.Rows.{first_row, target_rows, targets_rows, dwell_rows, body_rows}
use Rattle.format.specs.Sheet.{packet_records, record_bytes}
use Rattle.format.specs.Lengths.{record_length}
use Rattle.format.specs.Reader.{Parsed, pairs_in, dwells_in, targets_in, reading_of, parsed, sheet, read}
use Rattle.format.specs.Samples.{zeros, version3, segment, d2to9, d24to27, delta_mask}
use Rattle.format.proofs.Acceptance.{accepted-when}
use Rattle.format.proofs.Rows.{row-passes, no_row, or_else, first-append}
use Rattle.format.proofs.Lengths.{length-segment, length-sheet}
use Rattle.format.proofs.Samples.{behind, version-is, length-packet, header-passes, length-spelt, spelt-passes, alone}
use Rattle.gmti_longest.specs.Longest.{delta_packet}
use Rattle.gmti_longest.specs.FallsShort.{AllFallShort}

-- zeros are what an absent field has
drop-zeros : (j m : ℕ) → drop j (zeros m) ≡ zeros (m - j)
drop-zeros zero m = let e : m - 0 ≡ m = omega arith in rw e
drop-zeros (suc j) zero = let e : 0 - suc j ≡ 0 = omega arith in rw e
drop-zeros (suc j) (suc m) = let e : suc m - suc j ≡ m - j = omega arith in rw e (drop-zeros j m)

pad-cond : (t : Bool) (w m : ℕ) → pad w (cond t (zeros m) []) ≡ pad w (cond t [] [])
pad-cond true w m = pad-zeros w m
pad-cond false w m = refl

full-zeros : (mask n : ℕ) (ws : List ℕ) (m : ℕ) → full_fields mask n ws (zeros m) ≡ full_fields mask n ws []
unfolding full_fields
full-zeros mask n [] m = refl
full-zeros mask n (w ∷ ws) m =
    let j = taken mask n w in
    ap₂ (λ (x y : List ℕ). x ++ full_fields mask (suc n) ws y) (pad-cond (announced mask n) w m) (drop-zeros j m)
    ∙ ap (λ (x : List ℕ). pad w (cond (announced mask n) [] []) ++ x) (full-zeros mask (suc n) ws (m - j))
    ∙ rw (drop-nil j)

-- the mask of its dwell
abbrev pub mask : ℕ
mask = delta_mask

-- D10, D11, D24 and D25 of the packet
abbrev area : Area
area = record { d10 = record { 0 = pos 0 }; d11 = record { 0 = 0 }; d24 = record { 0 = pos 0 }; d25 = record { 0 = 0 } }

-- the fields of a target of zeros
zero-fields : (m : ℕ) → target_fields mask (zeros m) ≡ target_fields mask []
unfolding target_fields
zero-fields m = full-zeros mask (d32 1) target_widths m

-- no row applies to such a target, which is as one with every field absent
zero-target : (m : ℕ) → target_rows mask area (zeros m) ≡ target_rows mask area []
unfolding target_rows
zero-target m = rw (zero-fields m)

absent-target : first_row (target_rows mask area []) ≡ Passed
unfolding first_row target_rows target_fields announced announced_length full_fields pad total value signed_value signed twos be is_latitude latitude
absent-target = refl

-- so to none of any number of such targets
targets-pass : (n m : ℕ) → first_row (targets_rows mask area n (zeros m)) ≡ Passed
unfolding targets_rows
targets-pass zero m = no_row
targets-pass (suc n) m =
    let t = drop (target_length mask) (zeros m) in
    first-append (target_rows mask area (zeros m)) (targets_rows mask area n t)
    ∙ ap (λ (c : Check). or_else c (first_row (targets_rows mask area n t))) (ap first_row (zero-target m) ∙ absent-target)
    ∙ ap (λ (l : List ℕ). first_row (targets_rows mask area n l)) (drop-zeros (target_length mask) m)
    ∙ targets-pass n (m - target_length mask)

-- the body of the packet's dwell
unfoldable pub body : ℕ → List ℕ
body k = bytes 8 mask ++ (d2to9 k ++ zeros 8 ++ d24to27 0 0 ++ zeros (4 * k))

module _ (k : ℕ) where
  packet-is : delta_packet k ≡ version3 (segment 2 (body k))
  unfolding delta_packet body
  packet-is = refl

  pub length-body : length (body k) ≡ 51 + 4 * k
  unfolding body bytes
  length-body = omega (arith, length-replicate {A = ℕ} (4 * k) 0)

  mask_is : mask_of (body k) ≡ mask
  unfolding mask_of body be bytes
  mask_is = refl

  d4-is : D 4 (dwell_fields (body k)) ≡ 0
  unfolding dwell_fields value total mask_of body be bytes announced full_fields pad
  d4-is = refl

  d5-is : k ≤ 65535 → target_count (body k) ≡ k
  unfolding target_count dwell_fields value total mask_of body be bytes announced full_fields pad
  d5-is h = be-bytes 2 k [] ∙ omega arith

  area-is : area_of (dwell_fields (body k)) ≡ area
  unfolding area_of dwell_fields value signed_value signed twos total mask_of body be bytes announced full_fields pad
  area-is = refl

  targets_are : targets_of (body k) ≡ zeros (4 * k)
  unfolding targets_of mask_of body be bytes announced announced_length
  targets_are = refl

-- the mask by itself: no field is at fault, none is new, targets have a position, and the size is this
mask-right : (lowest_fault 3 mask ≡ 0) × (new_in_mask mask ≡ 0) × (is_placed mask ≡ true)
unfolding announced is_required is_reserved is_in any_set is_gap is_gap_in is_doubled is_fault first_from lowest_fault new_in_mask is_placed
mask-right = (refl, refl, refl)

size-right : (k : ℕ) → dwell_size mask k ≡ 56 + 4 * k
unfolding dwell_size announced announced_length
size-right k = omega arith

-- nothing is new, whichever edition it is read as
not_new : (t : Bool) → cond t (new_in_mask mask) 0 ≡ 0
not_new true = mask-right.1
not_new false = refl

-- the packet's version, read as this edition
abbrev reading : ℕ → Reading
reading e = record { settings = as_edition e; version = 3 }

-- no row applies to the body
dwell-passes : (e k : ℕ) → k ≤ 16362 → first_row (dwell_rows (reading e) (body k)) ≡ Passed
unfolding dwell_rows
dwell-passes e k h =
    let b = body k in
    let long : length b ≡ 51 + 4 * k = length-body k in
    let five : target_count b ≡ k = d5-is k (omega arith) in
    rw (mask_is k, five, area-is k, targets_are k)
    (row-passes _ _ (le-ltb (s2 b) 13 (omega arith))
    (row-passes _ _ (rw mask-right.0)
    (row-passes _ _ (rw (not_new (is_older (reading e))))
    (row-passes _ _ (rw (le-ltb (s2 b) 48 (omega arith), eq-eqb (s2 b) (dwell_size mask k) (omega (arith, size-right k))))
    (row-passes _ _ (rw (d4-is k))
    (row-passes _ _ (rw (mask-right.2, and-false))
    (targets-pass k (4 * k))))))))

-- so the packet has one segment, the dwell
module _ (e k : ℕ) (h : k ≤ 16362) where
  found : parsed (as_edition e) (delta_packet k) ≡ record { segments = record { type = 2; body = body k } ∷ []; ending = Passed }
  unfolding parsed is_known is_in body_rows
  found =
      let s = segment 2 (body k) in
      let r = reading e in
      let long : s2 (body k) ≤ 65536 = omega (arith, length-body k) in
      rw (packet-is k, behind s, version-is s)
      (alone 2 (body k) r long (spelt-passes 2 (body k) r long refl refl (dwell-passes e k h)))

  counted : (ss : List Segment) (n : ℕ) → ss ≡ record { type = 2; body = body k } ∷ []
      → Accepted (length ss) (dwells_in ss) (targets_in ss) n ≡ Accepted 1 1 k n
  unfolding dwells_in pairs_in targets_in without_repeats is_among
  counted ss n one =
      let targets : target_count (body k) + 0 ≡ k = omega (arith, d5-is k (omega arith)) in
      rw (one, targets)

  -- the length of its sheet
  length_is : length (sheet (as_edition e) (delta_packet k)) ≡ record_length 1 + record_length 3 + k * record_length 4
  unfolding packet_records
  length_is =
      let r = reading_of (as_edition e) (delta_packet k) in
      let one : length (record_bytes (packet_records r (parsed (as_edition e) (delta_packet k)).segments)) ≡ record_length 3 + target_count (body k) * record_length 4 =
      rw (found, append-nil) (length-segment r 2 (body k)) in
      omega (arith, length-sheet (as_edition e) (delta_packet k), d5-is k (omega arith))

  -- and its answer, where the sheet has room
  answered : (lent : List ℕ) → (eqb e 1 || eqb e 3) ≡ true → length (sheet (as_edition e) (delta_packet k)) ≤ length lent
      → (read (as_edition e) (delta_packet k) lent).answer ≡ Accepted 1 1 k (length (sheet (as_edition e) (delta_packet k)))
  unfolding read
  answered lent known room =
      accepted-when (as_edition e) (delta_packet k) (length lent)
      (record {
        header = rw (packet-is k) (header-passes (segment 2 (body k)) e known (omega (arith, length-spelt 2 (body k), length-body k)));
        ending = ap (λ (p : Parsed). p.ending) found;
        fits = room;
      })
      ∙ counted _ _ (ap (λ (p : Parsed). p.segments) found)

-- the packet's length
pub length-delta : (k : ℕ) → length (delta_packet k) ≡ 88 + 4 * k
length-delta k = omega (arith, ap length (packet-is k), length-packet (segment 2 (body k)), length-spelt 2 (body k), length-body k)

-- "Its sheet falls exactly 542 bytes short of that formula"
pub all-fall-short : AllFallShort
all-fall-short e k known least most =
    record {
      long = length-delta k;
      accepted = λ lent room. answered e k most lent known room;
      short = omega (arith, length-delta k, length_is e k most);
    }
