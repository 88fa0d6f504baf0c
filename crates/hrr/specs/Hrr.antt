-- The HRR segment of Edition 3, high range resolution (document 02, A4; document 003, section 2.5 with tables 2-5 and 2-5.1).
-- A field has the number n for Hn, 31 + j for H32.j, and 36 to 41 for the six bits that announce nothing. docs/DECISIONS.md has the
-- judgements on what is printed unclearly.
-- Assumes nothing.
use Rattle.std.specs.Prelude.{ℕ, ◌+◌, ◌-◌, ◌*◌, ◌^◌, Bool, true, not, ◌&&◌, cond, List, [], ◌∷◌, ◌++◌, ltb, eqb, take, drop}
use Rattle.octets.specs.Octets.{be, between}
use Rattle.octets.specs.Layout.{pad, total, value}
use Rattle.mask.specs.Fields.{announced, taken, announced_length, full_fields, d32}
use Rattle.mask.specs.Mask.{any_set}

-- ---- H1, the mask

-- "Existence Mask", 5 bytes, of which the highest bit announces H2, and so on down. Shifted up by 24 bits, it numbers its fields as the
-- 8 bytes of a dwell's mask do, D2 as H2 and D32.1 as H32.1, so that `announced` and what rests on it serve both
unfoldable pub hrr_mask : List ℕ → ℕ
hrr_mask body = be 5 body * 2 ^ 24

-- the fields that "document 003's table marks mandatory": H2 to H4, H8, H10 to H14, H16 to H19, H23 to H26; and "the magnitude", H32.1
abbrev pub mandatory : List ℕ
mandatory = 2 ∷ 3 ∷ 4 ∷ 8 ∷ 10 ∷ 11 ∷ 12 ∷ 13 ∷ 14 ∷ 16 ∷ 17 ∷ 18 ∷ 19 ∷ 23 ∷ 24 ∷ 25 ∷ 26 ∷ d32 1 ∷ []

-- "Spare": what the mask's last six bits would announce
abbrev pub spare : List ℕ
spare = 36 ∷ 37 ∷ 38 ∷ 39 ∷ 40 ∷ 41 ∷ []

-- every field of the list is set
unfoldable pub all_set : ℕ → List ℕ → Bool
all_set mask [] = true
all_set mask (n ∷ ns) = announced mask n && all_set mask ns

-- what row 21 asks of a mask: it lacks neither "the magnitude" nor a mandatory field, nor does it set "a bit that announces no field
-- (any other bit is free)"
unfoldable pub is_hrr_mask : ℕ → Bool
is_hrr_mask mask = all_set mask mandatory && not (any_set mask spare)

-- ---- H2 to H31, the fields before the scatterers

-- their widths
abbrev pub hrr_widths : List ℕ
hrr_widths =
    2 ∷ 2 ∷ 1 ∷ 2 ∷ 2 ∷ 2 ∷ 2 ∷ 1 ∷ 1 ∷ 2 ∷ 2 ∷ 4 ∷ 4 ∷ 4 ∷ 1 ∷ 1 ∷ 1 ∷ 2 ∷ 1 ∷ 2 ∷ 4 ∷ 1 ∷ 1 ∷ 1 ∷ 1 ∷ 1 ∷ 4 ∷ 1 ∷ 4 ∷ 4 ∷ []

-- the fields of a body, "in order, at full widths", where "Absent fields .. are stored as zero"
unfoldable pub hrr_fields : List ℕ → List ℕ
hrr_fields body = full_fields (hrr_mask body) 2 hrr_widths (drop 5 body)

-- the number in Hn, of H2 to H31 at full widths
abbrev pub H : ℕ → List ℕ → ℕ
H n fields = value 2 hrr_widths n fields

-- the same, where "Absent fields count .. as zero", whatever stands in their place
abbrev pub counted : ℕ → ℕ → List ℕ → ℕ
counted mask n fields = cond (announced mask n) (H n fields) 0

-- "There are as many scatterers as the number of target scatterers says where announced, else range samples times Doppler samples": H6,
-- H7 and H8
unfoldable pub scatterer_count : ℕ → List ℕ → ℕ
scatterer_count mask fields = cond (announced mask 6) (H 6 fields) (counted mask 7 fields * counted mask 8 fields)

-- ---- H32.1 to H32.4, a scatterer

-- the column 'Bytes' of table 2-5.1 has 1 for the range index and for the Doppler index
abbrev pub index_width : ℕ
index_width = 1

-- the bytes that a scatterer's magnitude, phase, range index and Doppler index take: H25, H26 and those, where they are announced
unfoldable pub scatterer_widths : ℕ → List ℕ → List ℕ
scatterer_widths mask fields =
    taken mask (d32 1) (H 25 fields)
    ∷ taken mask (d32 2) (H 26 fields)
    ∷ taken mask (d32 3) index_width
    ∷ taken mask (d32 4) index_width
    ∷ []

-- "2 bytes each, a one-byte value behind a zero byte", absent ones zero: the numbers of these widths from the front of b on
unfoldable pub widened : List ℕ → List ℕ → List ℕ
widened [] b = []
widened (w ∷ ws) b = (pad (2 - w) [] ++ pad w b) ++ widened ws (drop w b)

-- the way back, from numbers of 2 bytes: the last bytes of each
unfoldable pub narrowed : List ℕ → List ℕ → List ℕ
narrowed [] s = []
narrowed (w ∷ ws) s = drop (2 - w) (take 2 s) ++ narrowed ws (drop 2 s)

-- ---- the size S2

-- what "mask, widths and counts give": 5 header bytes, 5 of the mask, the announced fields, and the scatterers
unfoldable pub hrr_size : ℕ → List ℕ → ℕ
hrr_size mask fields =
    5 + 5 + announced_length mask 2 hrr_widths + scatterer_count mask fields * total (scatterer_widths mask fields)

-- what row 22 asks of a segment of this size: "the field for magnitude bytes" is 1 or 2, "that for phase bytes" is not "above 2 (even
-- with no phase announced)", and the size is what these give
unfoldable pub is_hrr_size : ℕ → List ℕ → ℕ → Bool
is_hrr_size mask fields size = between 1 2 (H 25 fields) && not (ltb 2 (H 26 fields)) && eqb size (hrr_size mask fields)
