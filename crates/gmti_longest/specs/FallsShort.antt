-- What is proved of the packet that the program writes: "Its sheet falls exactly 542 bytes short of that formula" (document 02, A2).
-- Assumes nothing.
use Rattle.std.specs.Prelude.{ℕ, ◌+◌, ◌*◌, ◌≤◌, ◌≡◌, true, ◌||◌, List, eqb, length}
use Rattle.format.specs.Edition.{as_edition}
use Rattle.format.specs.Answer.{Accepted}
use Rattle.format.specs.Reader.{sheet, read}
use Rattle.format.specs.Bound.{formula}
use Rattle.gmti_longest.specs.Longest.{delta_packet}

-- of the packet with k targets, read as this edition: its length, that it is accepted where its sheet has room, and how short that falls
pub record FallsShort (edition k : ℕ) : Type 0 where
  pub long : length (delta_packet k) ≡ 88 + 4 * k
  pub accepted : (lent : List ℕ) → length (sheet (as_edition edition) (delta_packet k)) ≤ length lent
      → (read (as_edition edition) (delta_packet k) lent).answer ≡ Accepted 1 1 k (length (sheet (as_edition edition) (delta_packet k)))
  pub short : length (sheet (as_edition edition) (delta_packet k)) + 542 ≡ formula (length (delta_packet k))

-- for both readings, and "a k from 1 to 16,362"
abbrev pub AllFallShort : Type 0
AllFallShort = (edition k : ℕ) → (eqb edition 1 || eqb edition 3) ≡ true → 1 ≤ k → k ≤ 16362 → FallsShort edition k
