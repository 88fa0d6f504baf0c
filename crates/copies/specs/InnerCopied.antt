-- What every copy asks and leaves. Contracts of inner functions cite these.
-- Assumes nothing.
use Rattle.std.specs.Prelude.{ℕ, ◌+◌, ◌≤◌, List, [], length, take, drop}
use Rattle.std.proofs.lemmas.List.Edits.{sets}
use Rattle.octets.specs.Layout.{pad}

-- s has n bytes from p on, and l has room for them from q on
abbrev pub Room : ℕ → List ℕ → ℕ → List ℕ → ℕ → Type 0
Room n s p l q = (p + n ≤ length s) × (q + n ≤ length l)

-- l with the n bytes of s from p on stored from q on
abbrev pub copied : ℕ → List ℕ → ℕ → List ℕ → ℕ → List ℕ
copied n s p l q = sets l q (take n (drop p s))

-- l with n zeros stored from q on
abbrev pub cleared : ℕ → List ℕ → ℕ → List ℕ
cleared n l q = sets l q (pad n [])
