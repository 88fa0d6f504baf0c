-- The window that records are laid out in to be compared. Proofs alone speak of it.
-- Assumes nothing.
use Rattle.std.specs.Prelude.{ℕ}

-- how many bytes it has: the code's WINDOW
abbrev pub window_length : ℕ
window_length = 576
