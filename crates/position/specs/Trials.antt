-- Trials of positions.
-- Assumes nothing.
use Rattle.std.specs.Prelude.{true, false, ◌≡◌, List, [], ◌∷◌, pos, negsuc}
use Rattle.octets.specs.Octets.{twos}
use Rattle.position.specs.Position.{latitude_sum, is_latitude, latitude_micro, longitude_sum, longitude_micro}

-- Those that document 01 marks P. Latitudes are given by their 4 bytes, and `negsuc n` is -(n + 1).
unfoldable pub marked : List (Type 0)
marked =
    -- "latitude 0x40000000 is 45000000; 0x80000000 is −90000000; 0x7FFFFFFF is 90000000; 0x00800000 is 351563; 0xFF800000 is −351563"
    (latitude_micro (twos 4 0x40000000) ≡ pos 45000000)
    ∷ (latitude_micro (twos 4 0x80000000) ≡ negsuc 89999999)
    ∷ (latitude_micro (twos 4 0x7FFFFFFF) ≡ pos 90000000)
    ∷ (latitude_micro (twos 4 0x00800000) ≡ pos 351563)
    ∷ (latitude_micro (twos 4 0xFF800000) ≡ negsuc 351562)
    -- "longitude 0xFFFFFFFA is 359999999; 0xFFFFFFFB is 0; 0x00400000 is 351563"
    ∷ (longitude_micro 0xFFFFFFFA ≡ 359999999)
    ∷ (longitude_micro 0xFFFFFFFB ≡ 0)
    ∷ (longitude_micro 0x00400000 ≡ 351563)
    -- "D24 0x7FFFFFFF, D10 1: D32.4 1 is 90000000, 2 gives 14"
    ∷ (is_latitude (latitude_sum (pos 1) (pos 1) (twos 4 0x7FFFFFFF)) ≡ true)
    ∷ (latitude_micro (latitude_sum (pos 1) (pos 1) (twos 4 0x7FFFFFFF)) ≡ pos 90000000)
    ∷ (is_latitude (latitude_sum (pos 2) (pos 1) (twos 4 0x7FFFFFFF)) ≡ false)
    ∷ []

-- D32.4 and D32.5 are signed and multiply D10 and D11, not D24 and D25
unfoldable pub signed_delta : List (Type 0)
signed_delta =
    -- the printed trial: D10 and D11 65536, D24 and D25 0, D32.4 -128, D32.5 -64
    (latitude_sum (twos 2 0xFF80) (pos 65536) (pos 0) ≡ negsuc 8388607)
    ∷ (longitude_sum (twos 2 0xFFC0) 65536 0 ≡ 0xFFC00000)
    -- D25 0, D11 1, D32.5 -1: one step short of the full circle, which is 0; taken as unsigned, it would be 5493
    ∷ (longitude_sum (twos 2 0xFFFF) 1 0 ≡ 0xFFFFFFFF)
    ∷ (longitude_micro (longitude_sum (twos 2 0xFFFF) 1 0) ≡ 0)
    ∷ []
