-- Numbers in bytes: "Bytes are 8 bits, numbers are stored highest byte first" (document 01, first paragraph), at every width.
-- Assumes nothing.
use Rattle.std.specs.Prelude.{ℕ, zero, suc, ◌+◌, ◌-◌, ◌*◌, ◌/◌, ◌%◌, ◌^◌, ◌<◌, Bool, ◌&&◌, cond, List, [], ◌∷◌, ◌++◌, ltb, leb, ℤ, pos, negsuc, get_or}

-- the number that the first k bytes of s spell (big-endian)
unfoldable pub be : ℕ → List ℕ → ℕ
be zero s = 0
be (suc k) s = be k s * 256 + get_or s k 0

-- the k bytes that spell n
unfoldable pub bytes : ℕ → ℕ → List ℕ
bytes zero n = []
bytes (suc k) n = bytes k (n / 256) ++ (n % 256 ∷ [])

-- n, a number of k bytes, read as two's complement: the upper half counts down from -1. (`negsuc m` is -(m + 1).)
unfoldable pub twos : ℕ → ℕ → ℤ
twos k n = cond (ltb n (256 ^ k / 2)) (pos n) (negsuc (256 ^ k - suc n))

-- the signed number that the first k bytes of s spell
unfoldable pub signed : ℕ → List ℕ → ℤ
signed k s = twos k (be k s)

-- the k bytes that spell a signed number
unfoldable pub signed_bytes : ℕ → ℤ → List ℕ
signed_bytes k (pos n) = bytes k n
signed_bytes k (negsuc n) = bytes k (256 ^ k - suc n)

-- every element of a list is a byte: what is known of each packet and sheet handed in
abbrev pub Bytes : List ℕ → Type 0
Bytes s = (i : ℕ) → get_or s i 0 < 256

-- n is one of a to b
abbrev pub between : ℕ → ℕ → ℕ → Bool
between a b n = leb a n && leb n b
