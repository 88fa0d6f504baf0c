-- The body of a dwell: its mask, D2 to D31, and its targets with their positions (document 01, 'Dwell and mask' and 'Positions').
-- Fields are read off their full widths, where an absent one is zero. D n is the number in Dn, D32 j that in D32.j; the names
-- with ± read a two's complement number.
-- Assumes nothing.
use Rattle.std.specs.Prelude.{ℕ, ◌+◌, Bool, ◌&&◌, cond, List, eqb, ℤ, drop}
use Rattle.octets.specs.Octets.{be}
use Rattle.octets.specs.Layout.{value, signed_value}
use Rattle.mask.specs.Fields.{announced, announced_length, full_fields, dwell_widths, target_widths, d32}
use Rattle.position.specs.Position.{latitude_sum, longitude_sum}
use Rattle.format.specs.declared.Area.{Area}

-- "D1 is the 8-byte mask."
unfoldable pub mask_of : List ℕ → ℕ
mask_of body = be 8 body

-- D2 to D31 at full widths
unfoldable pub dwell_fields : List ℕ → List ℕ
dwell_fields body = full_fields (mask_of body) 2 dwell_widths (drop 8 body)

-- the number in Dn, of D2 to D31 at full widths
abbrev pub D : ℕ → List ℕ → ℕ
D n fields = value 2 dwell_widths n fields

-- the signed number in Dn ("D10 and D24 are SA32")
abbrev pub D± : ℕ → List ℕ → ℤ
D± n fields = signed_value 2 dwell_widths n fields

-- "D5 target count"
unfoldable pub target_count : List ℕ → ℕ
target_count body = D 5 (dwell_fields body)

-- "pairs of D2 and D3" (request A1): what tells a dwell from another one
pub record Pair : Type 0 where
  pub d2 : ℕ
  pub d3 : ℕ

-- that of a dwell with these fields, D2 to D31 at full widths; row 11 asks for both
abbrev pub pair_of : List ℕ → Pair
pair_of fields = record { d2 = D 2 fields; d3 = D 3 fields }

-- D2 is the same, and D3 is
unfoldable pub is_same_pair : Pair → Pair → Bool
is_same_pair p q = eqb p.d2 q.d2 && eqb p.d3 q.d3

-- "then D5 targets": the body from its first target on
unfoldable pub targets_of : List ℕ → List ℕ
targets_of body = drop (8 + announced_length (mask_of body) 2 dwell_widths) body

-- how many bytes each target takes: its announced fields
abbrev pub target_length : ℕ → ℕ
target_length mask = announced_length mask (d32 1) target_widths

-- D32.1 to D32.18 at full widths, of the target at the front of t
unfoldable pub target_fields : ℕ → List ℕ → List ℕ
target_fields mask t = full_fields mask (d32 1) target_widths t

-- the number in D32.j, of D32.1 to D32.18 at full widths
abbrev pub D32 : ℕ → List ℕ → ℕ
D32 j target = value (d32 1) target_widths (d32 j) target

-- the signed number in D32.j ("D32.4 and D32.5 signed 16-bit")
abbrev pub D32± : ℕ → List ℕ → ℤ
D32± j target = signed_value (d32 1) target_widths (d32 j) target

-- "D10 and D24 are SA32, D11 and D25 BA32": what the targets' positions take from their dwell, of D2 to D31 at full widths
unfoldable pub area_of : List ℕ → Area
area_of dwell =
    record {
      d10 = record { 0 = D± 10 dwell };
      d11 = record { 0 = D 11 dwell };
      d24 = record { 0 = D± 24 dwell };
      d25 = record { 0 = D 25 dwell };
    }

-- "D32.4 and D32.5 signed 16-bit. Latitude is D32.2, else D32.4 × D10 + D24"
unfoldable pub latitude : ℕ → Area → List ℕ → ℤ
latitude mask area target =
    cond (announced mask (d32 2)) (D32± 2 target) (latitude_sum (D32± 4 target) area.d10.0 area.d24.0)

-- "Longitude is D32.3, else D32.5 × D11 + D25"
unfoldable pub longitude : ℕ → Area → List ℕ → ℕ
longitude mask area target =
    cond (announced mask (d32 3)) (D32 3 target) (longitude_sum (D32± 5 target) area.d11.0 area.d25.0)
