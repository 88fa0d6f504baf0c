-- Numbers in bytes, the lowest byte first. Inner contracts alone speak of it: the document's numbers are stored highest byte first.
-- Assumes nothing.
use Rattle.std.specs.Prelude.{ℕ, zero, suc, ◌/◌, ◌%◌, ◌^◌, ◌<◌, ◌≡◌, List, [], ◌∷◌}

-- the k lowest bytes of n
unfoldable pub low : ℕ → ℕ → List ℕ
low zero n = []
low (suc k) n = n % 256 ∷ low k (n / 256)

-- n is the number of k bytes, which are these
abbrev pub Spells : ℕ → ℕ → List ℕ → Type 0
Spells k n s = (n < 256 ^ k) × (low k n ≡ s)
