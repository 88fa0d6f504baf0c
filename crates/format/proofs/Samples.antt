-- Packets that are spelt by the parts of specs/Samples.antt: no row applies to their header, none to a segment where none applies to its body,
-- and a walk over one segment finds it.
-- Assumes nothing.
use Prim.Native.Nat.{ℕ, ◌+◌, ◌-◌, ◌≤◌}
use native.Mathlib.Omega.{arith}
use mathlib.Core.Path.{◌≡◌, refl, ap, ◌∙◌}
use mathlib.Core.Bool.{true, false, ◌||◌, and-false}
use mathlib.Core.List.{List, [], ◌∷◌}
use borrow.Author.Tests.{le-ltb, eq-eqb}
use lib.Dec.{eqb}
use lib.ListN.{length, take, drop, drop_of_length-le}
use lib.Seq.{take_all}
use Rattle.octets.specs.Octets.{be, bytes}
use Rattle.octets.specs.Layout.{total, field, value}
use Rattle.octets.proofs.Laws.{be-bytes}
use Rattle.text.specs.Text.{is_line_byte, is_text_byte, all, text_fault}
use Rattle.format.specs.declared.Reading.{Reading}
use Rattle.format.specs.Check.{Passed}
use Rattle.format.specs.Packet.{header_widths, header_texts, P, is_p1, version, type_at, size_at, body_at, segment_at, s2, segment_bytes, is_known}
use Rattle.format.specs.Edition.{as_edition}
use Rattle.format.specs.Rows.{first_row, header_rows, body_rows, segment_rows}
use Rattle.format.specs.Reader.{Parsed, parse}
use Rattle.format.specs.Samples.{packet, version3, segment}
use Rattle.format.proofs.Rows.{row-passes, no_row}
use Rattle.format.proofs.Turns.{parse-good, parse-end}

-- a version 3 packet with these segments, whatever they are
module _ (s : List ℕ) where
  pub behind : drop 32 (version3 s) ≡ s
  unfolding packet bytes
  behind = refl

  pub version-is : version (version3 s) ≡ 3
  unfolding version packet
  version-is = refl

  pub length-packet : length (version3 s) ≡ 32 + length s
  unfolding packet bytes
  length-packet = omega arith

  p2-is : length s ≤ 65504 → P 2 (version3 s) ≡ 32 + length s
  unfolding value total packet be bytes
  p2-is h = be-bytes 4 (32 + length s) [] ∙ omega arith

  p1-is : is_p1 (version3 s) ≡ true
  unfolding is_p1 packet
  p1-is = refl

  text-is : text_fault header_widths header_texts (version3 s) ≡ 0
  unfolding text_fault all is_text_byte is_line_byte field total packet bytes
  text-is = refl

  -- no row applies to its header
  pub header-passes : (e : ℕ) → (eqb e 1 || eqb e 3) ≡ true → length s ≤ 65504 → first_row (header_rows (as_edition e) (version3 s)) ≡ Passed
  unfolding header_rows
  header-passes e h l =
      let n = length (version3 s) in
      row-passes _ _ (rw h)
      (row-passes _ _ (rw (le-ltb n 32 (omega (arith, length-packet)), le-ltb 65536 n (omega (arith, length-packet))))
      (row-passes _ _ (rw p1-is)
      (row-passes _ _ (rw (eq-eqb (P 2 (version3 s)) n (omega (arith, length-packet, p2-is l))))
      (row-passes _ _ (rw text-is) no_row))))

-- a segment by itself, whatever its type and its body are
module _ (type : ℕ) (b : List ℕ) where
  pub length-spelt : length (segment type b) ≡ s2 b
  unfolding segment_bytes bytes
  length-spelt = omega arith

  type-is : type_at (segment type b) ≡ type
  unfolding type_at segment_bytes
  type-is = refl

  size_is : s2 b ≤ 65536 → size_at (segment type b) ≡ s2 b
  unfolding size_at segment_bytes be bytes
  size_is h = be-bytes 4 (s2 b) [] ∙ omega arith

  behind-size : drop 5 (segment type b) ≡ b
  unfolding segment_bytes bytes
  behind-size = refl

  body_is : s2 b ≤ 65536 → body_at (segment type b) ≡ b
  unfolding body_at
  body_is h =
      ap (λ (n : ℕ). drop 5 (take n (segment type b))) (size_is h)
      ∙ ap (drop 5) (take_all (s2 b) (segment type b) (omega (arith, length-spelt)))
      ∙ behind-size

  -- no row applies to it where none applies to its body
  pub spelt-passes : (r : Reading) → s2 b ≤ 65536 → is_known type ≡ true → eqb type 3 ≡ false → first_row (body_rows r type b) ≡ Passed
      → first_row (segment_rows r (segment type b)) ≡ Passed
  unfolding segment_rows
  spelt-passes r h known other rows =
      let l = segment type b in
      row-passes _ _ (le-ltb (length l) 5 (omega (arith, length-spelt)))
      (row-passes _ _ (rw (type-is, known))
      (row-passes _ _ (rw (le-ltb (size_at l) 5 (omega (arith, size_is h)), le-ltb (length l) (size_at l) (omega (arith, length-spelt, size_is h))))
      (row-passes _ _ (rw (type-is, other, and-false))
      (rw (type-is, body_is h) rows))))

  -- a walk over it alone
  pub alone : (r : Reading) → s2 b ≤ 65536 → first_row (segment_rows r (segment type b)) ≡ Passed
      → parse r (length (segment type b)) (segment type b) ≡ record { segments = record { type = type; body = b } ∷ []; ending = Passed }
  alone r h rows =
      let l = segment type b in
      let k = length l in
      let none : drop (size_at l) l ≡ [] = drop_of_length-le l {i = size_at l} (omega (arith, length-spelt, size_is h)) in
      parse-good r k l (omega (arith, length-spelt)) (omega (arith, length-spelt)) rows
      ∙ ap (λ (p : Parsed). record { segments = segment_at l ∷ p.segments; ending = p.ending }) (parse-end r (k - 1) (drop (size_at l) l) (rw none))
      ∙ rw (type-is, body_is h)
