-- The code's tables, as an inner contract and the proofs speak of them.
-- Assumes nothing.
use Rattle.std.specs.Prelude.{ℕ, zero, suc, Bool, true, ◌&&◌, List, eqb, get_or}
use Rattle.modes.specs.Modes.{Run, system_number}

-- a test passes at each value below n
unfoldable pub every : (ℕ → Bool) → ℕ → Bool
every test zero = true
every test (suc n) = test n && every test n

-- each of these 256 entries is the number that the table gives the mode
unfoldable pub are_entries : List Run → List ℕ → Bool
are_entries table entries = every (λ mode. eqb (get_or entries mode 0) (system_number table mode)) 256
