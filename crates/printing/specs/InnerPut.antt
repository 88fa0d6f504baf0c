-- Text put into an array, as inner contracts say it.
-- Assumes nothing.
use Rattle.std.specs.Prelude.{ℕ, ◌+◌, ◌≤◌, ◌≡◌, List, length}
use Rattle.std.proofs.lemmas.List.Edits.{sets}

-- l with the bytes vs stored from a place on is a; p is the place behind them, within so many bytes of the first
pub record Put (most : ℕ) (l : List ℕ) (at : ℕ) (vs : List ℕ) (p : ℕ) (a : List ℕ) : Type 0 where
  pub next : p ≡ at + length vs
  pub room : p ≤ at + most
  pub stored : a ≡ sets l at vs
