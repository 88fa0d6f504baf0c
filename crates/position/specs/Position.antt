-- Positions: steps of an angle, their sums, and microdegrees (document 01, 'Positions').
-- "Latitudes (form SA32, signed two's complement) count steps of 180/2^32 degrees; longitudes (BA32, unsigned) steps of 360/2^32."
-- A latitude's steps are an integer ℤ, a longitude's a natural number ℕ: "A latitude step and a longitude step are never added together."
-- Assumes nothing.
use Rattle.std.specs.Prelude.{ℕ, suc, ◌+◌, ◌-◌, ◌*◌, ◌/◌, ◌%◌, ◌^◌, Bool, cond, leb, eqb, ℤ, pos, negsuc, neg_ℤ, nat_abs, ◌+ℤ◌, ◌*ℤ◌}

-- "D32.4 × D10 + D24"
abbrev pub latitude_sum : ℤ → ℤ → ℤ → ℤ
latitude_sum delta scale from = delta *ℤ scale +ℤ from

-- "which must lie from −2^31 to 2^31"
unfoldable pub is_latitude : ℤ → Bool
is_latitude z = leb (nat_abs z) (2 ^ 31)

-- the number from 0 to m - 1 that differs from z by a multiple of m
unfoldable pub reduced : ℤ → ℕ → ℕ
reduced (pos a) m = a % m
reduced (negsuc a) m = m - suc (a % m)

-- "D32.5 × D11 + D25, reduced to 0 to 2^32−1"
unfoldable pub longitude_sum : ℤ → ℕ → ℕ → ℕ
longitude_sum delta scale from = reduced (delta *ℤ pos scale +ℤ pos from) (2 ^ 32)

-- a / d, "rounded to the nearest", a half up
unfoldable pub nearest : ℕ → ℕ → ℕ
nearest a d = (2 * a + d) / (2 * d)

-- z / d, "rounded to the nearest, a half away from zero"
unfoldable pub rounded : ℤ → ℕ → ℤ
rounded (pos a) d = pos (nearest a d)
rounded (negsuc a) d = neg_ℤ (pos (nearest (suc a) d))

-- "Microdegrees: latitude × 703125 / 2^24"
unfoldable pub latitude_micro : ℤ → ℤ
latitude_micro z = rounded (z *ℤ pos 703125) (2 ^ 24)

-- "a longitude of 360000000 becomes 0"
unfoldable pub full_circle : ℕ → ℕ
full_circle m = cond (eqb m 360000000) 0 m

-- "longitude × 703125 / 2^23"
unfoldable pub longitude_micro : ℕ → ℕ
longitude_micro n = full_circle (nearest (n * 703125) (2 ^ 23))
