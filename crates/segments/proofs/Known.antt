-- The known types of segments.
-- Assumes nothing.
use Prim.Native.Nat.{ℕ, ◌<◌, zero-le}
use mathlib.Core.Path.{◌≡◌}
use mathlib.Core.Bool.{◌||◌, beq}
use Rattle.octets.specs.Octets.{between}
use Rattle.mask.specs.Mask.{is_in}
use Rattle.octets.proofs.Computed.{from_all, beq-eq}
use Rattle.format.specs.Packet.{is_known}

-- the known types are 1 to 13, 101 and 102: computed for every byte
pub known_is : (k : ℕ) → k < 256 → is_known k ≡ (between 1 13 k || between 101 102 k)
unfolding is_known is_in
known_is k h =
    beq-eq _ _ (from_all (λ n. beq (is_known n) (between 1 13 n || between 101 102 n)) 256 0 tt k zero-le h)
