-- A packet: its header, its segments, and the fields of their bodies (document 01, 'Packet and segments').
-- The capital letters P, M, J are the document's: P n is the number in the header's field Pn, and so on.
-- Assumes nothing.
use Rattle.std.specs.Prelude.{ℕ, ◌+◌, ◌-◌, Bool, ◌&&◌, ◌||◌, List, [], ◌∷◌, ◌++◌, eqb, length, get_or, take, drop}
use Rattle.octets.specs.Octets.{be, bytes, between}
use Rattle.octets.specs.Layout.{value}
use Rattle.text.specs.Text.{TextField, one_line, any_text}
use Rattle.mask.specs.Mask.{is_in}

-- "Header fields, with widths in bytes: P1 version 2, P2 packet size 4, P3 nationality 2, P4 classification 1, P5 system 2,
-- P6 code 2, P7 exercise 1, P8 platform 10, P9 mission 4, P10 job 4"
abbrev pub header_widths : List ℕ
header_widths = 2 ∷ 4 ∷ 2 ∷ 1 ∷ 2 ∷ 2 ∷ 1 ∷ 10 ∷ 4 ∷ 4 ∷ []

-- "Text (P3, P5, P8 ..)", each on one line (request A3)
abbrev pub header_texts : List TextField
header_texts = one_line 3 ∷ one_line 5 ∷ one_line 8 ∷ []

-- the number in a header's field
abbrev pub P : ℕ → List ℕ → ℕ
P n l = value 1 header_widths n l

-- "P1 is the character 1 or 3, its version, and a digit."
unfoldable pub is_p1 : List ℕ → Bool
is_p1 l = (eqb (get_or l 0 0) 0x31 || eqb (get_or l 0 0) 0x33) && between 0x30 0x39 (get_or l 1 0)

-- 1 or 3, where P1 is right
unfoldable pub version : List ℕ → ℕ
version l = get_or l 0 0 - 0x30

-- "Each has a type (1), a size S2 (4) that counts its own 5 header bytes, and a body": the type of the
-- segment at the front of l
unfoldable pub type_at : List ℕ → ℕ
type_at l = get_or l 0 0

-- "a size S2 (4)"
unfoldable pub size_at : List ℕ → ℕ
size_at l = be 4 (drop 1 l)

-- "and a body": what S2 counts behind the 5 header bytes
unfoldable pub body_at : List ℕ → List ℕ
body_at l = drop 5 (take (size_at l) l)

-- a segment by itself
pub record Segment : Type 0 where
  pub type : ℕ
  pub body : List ℕ

-- the one at the front of l
abbrev pub segment_at : List ℕ → Segment
segment_at l = record { type = type_at l; body = body_at l }

-- the size S2 of a segment with this body
abbrev pub s2 : List ℕ → ℕ
s2 body = 5 + length body

-- type, S2 and body ("each segment with S2 worked out")
unfoldable pub segment_bytes : Segment → List ℕ
segment_bytes s = s.type ∷ (bytes 4 (s2 s.body) ++ s.body)

-- "Types 3 (HRR, high range resolution), 4, 7, 8, 9, 11, 12, 101, 102: opaque, any body. No other type is known." Type 3 is opaque in
-- version 1 alone (request A4)
abbrev pub opaque_types : List ℕ
opaque_types = 3 ∷ 4 ∷ 7 ∷ 8 ∷ 9 ∷ 11 ∷ 12 ∷ 101 ∷ 102 ∷ []

-- "No other type is known" than 1, 2, 5, 6, 10, 13 and these
unfoldable pub is_known : ℕ → Bool
is_known t = is_in t (1 ∷ 2 ∷ 5 ∷ 6 ∷ 10 ∷ 13 ∷ opaque_types)

-- "Type 1 mission, body 39: M1 12 text, M2 12 text, M3 1, M4 10 text, M5 2, M6 month 1, M7 day 1."
abbrev pub mission_widths : List ℕ
mission_widths = 12 ∷ 12 ∷ 1 ∷ 10 ∷ 2 ∷ 1 ∷ 1 ∷ []

-- "M1 12 text, M2 12 text, .. M4 10 text", each on one line
abbrev pub mission_texts : List TextField
mission_texts = one_line 1 ∷ one_line 2 ∷ one_line 4 ∷ []

-- the number in a mission's field
abbrev pub M : ℕ → List ℕ → ℕ
M n body = value 1 mission_widths n body

-- "Type 5 job definition, body 68: J1 4, J2 1, J3 6 text, J4 1, J5 1, J6 to J13 4 each, J14 radar mode 1, J15 to J18 2 each,
-- J19 1, J20 to J23 2 each, J24 to J28 1 each."
abbrev pub job_widths : List ℕ
job_widths =
    4 ∷ 1 ∷ 6 ∷ 1 ∷ 1 ∷ 4 ∷ 4 ∷ 4 ∷ 4 ∷ 4 ∷ 4 ∷ 4 ∷ 4 ∷ 1 ∷ 2 ∷ 2 ∷ 2 ∷ 2 ∷ 1 ∷ 2 ∷ 2 ∷ 2 ∷ 2 ∷ 1 ∷ 1 ∷ 1 ∷ 1 ∷ 1 ∷ []

-- "J3 6 text", on one line
abbrev pub job_texts : List TextField
job_texts = one_line 3 ∷ []

-- the number in a job definition's field
abbrev pub J : ℕ → List ℕ → ℕ
J n body = value 1 job_widths n body

-- "Type 6 free text: F1 10, F2 10, F3 the rest, possibly empty; all text."
abbrev pub free_text_widths : List ℕ → List ℕ
free_text_widths body = 10 ∷ 10 ∷ (length body - 20) ∷ []

-- F1, F2, F3: "all text"; F1 and F2 on one line each, and "F3 keeps the wider set" (request A3)
abbrev pub free_text_texts : List TextField
free_text_texts = one_line 1 ∷ one_line 2 ∷ any_text 3 ∷ []
