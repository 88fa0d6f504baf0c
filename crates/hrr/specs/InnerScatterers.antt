-- The scatterers of a segment as the code has them. Inner contracts alone speak of it.
-- Assumes nothing.
use Rattle.std.specs.Prelude.{ℕ, ◌+◌, ◌-◌, ◌/◌, ◌%◌, ◌≤◌, min, ◌≡◌, true, cond, List, [], ◌∷◌, length, take, drop}
use Rattle.octets.specs.Octets.{be}
use Rattle.octets.specs.Layout.{total}
use Rattle.mask.specs.Fields.{announced, taken, announced_length, d32}
use Rattle.hrr.specs.Hrr.{hrr_mask, is_hrr_mask, hrr_widths, H, scatterer_count, index_width}
use Rattle.hrr.specs.declared.Scatterers.{Scatterers}

-- the widths of the fields from the first to the last of these numbers
abbrev pub widths : ℕ → ℕ → List ℕ
widths first last = take (last + 1 - first) (drop (first - 2) hrr_widths)

-- a body that begins with this mask, which row 21 lets pass, and that has the announced fields
abbrev pub Headed : ℕ → List ℕ → Type 0
Headed mask b = (mask ≡ hrr_mask b) × (is_hrr_mask mask ≡ true) × (5 + announced_length mask 2 hrr_widths ≤ length b)

-- as long as H2 to H31 at full widths
abbrev pub Wide : List ℕ → Type 0
Wide f = total hrr_widths ≤ length f

-- by the mask, H25, H26 and how many they are
abbrev pub with_widths : ℕ → ℕ → ℕ → ℕ → Scatterers
with_widths mask h25 h26 count =
    record {
      magnitude = taken mask (d32 1) h25;
      phase = taken mask (d32 2) h26;
      range = taken mask (d32 3) index_width;
      doppler = taken mask (d32 4) index_width;
      count = count;
    }

-- by the mask, and by H2 to H31 at full widths
abbrev pub scatterers_of : ℕ → List ℕ → Scatterers
scatterers_of mask f = with_widths mask (H 25 f) (H 26 f) (scatterer_count mask f)

-- the bytes that the four numbers of each take
abbrev pub widths_of : Scatterers → List ℕ
widths_of s = s.magnitude ∷ s.phase ∷ s.range ∷ s.doppler ∷ []

-- each width fits a byte
abbrev pub Fitting : Scatterers → Type 0
Fitting s = (s.magnitude ≤ 255) × (s.phase ≤ 255) × (s.range ≤ 255) × (s.doppler ≤ 255)

-- and there are at most 65,535 times 65,535
abbrev pub Bounded : Scatterers → Type 0
Bounded s = (s.magnitude ≤ 255) × (s.phase ≤ 255) × (s.range ≤ 255) × (s.doppler ≤ 255) × (s.count ≤ 4294836225)

-- at most two bytes each, as row 22 leaves them and as they have on the sheet, and those of an index
abbrev pub Narrow : Scatterers → Type 0
Narrow s = (s.magnitude ≤ 2) × (s.phase ≤ 2) × (s.range ≤ index_width) × (s.doppler ≤ index_width)

-- four widths that are the digits of a number, and that they are such
abbrev pub digits : ℕ → List ℕ
digits n = n / 1000 ∷ n / 100 % 10 ∷ n / 10 % 10 ∷ n % 10 ∷ []

abbrev pub NarrowDigits : ℕ → Type 0
NarrowDigits n = (n / 1000 ≤ 2) × (n / 100 % 10 ≤ 2) × (n / 10 % 10 ≤ index_width) × (n % 10 ≤ index_width)

-- the number in two bytes at a place of b where field n is announced, and 0 where it is not
abbrev pub number_if : ℕ → ℕ → ℕ → List ℕ → ℕ
number_if mask n at b = cond (announced mask n) (be 2 (drop at b)) 0

-- the same with the bytes that each number takes when it is spelt from the two that it has on the sheet
abbrev pub spelt_of : Scatterers → Scatterers
spelt_of s =
    record {
      magnitude = min 2 s.magnitude;
      phase = min 2 s.phase;
      range = min 2 s.range;
      doppler = min 2 s.doppler;
      count = s.count;
    }
