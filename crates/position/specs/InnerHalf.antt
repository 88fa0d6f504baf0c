-- Stated for the proof of `latitude_micro` alone: what is added before a division toward zero, so that it rounds a half away from zero.
-- Assumes nothing.
use Rattle.std.specs.Prelude.{ℤ, pos, negsuc}

-- half of 2^24, with the sign of z
unfoldable pub half_away : ℤ → ℤ
half_away (pos a) = pos 8388608
half_away (negsuc a) = negsuc 8388607
