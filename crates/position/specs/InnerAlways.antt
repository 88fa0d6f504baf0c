-- Stated for the check of a dwell's targets alone: a D10 and a D24 with which no D32.4 gives a latitude out of the range.
-- Assumes nothing.
use Rattle.std.specs.Prelude.{◌+◌, ◌*◌, ◌^◌, Bool, leb, ℤ, nat_abs}

-- the greatest size of D32.4, a signed number of 16 bits, is 2^15
unfoldable pub is_always_latitude : ℤ → ℤ → Bool
is_always_latitude scale from = leb (nat_abs scale * 2 ^ 15 + nat_abs from) (2 ^ 31)
