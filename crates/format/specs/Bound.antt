-- How long a sheet can get (document 02, A2).
-- Assumes nothing.
use Rattle.std.specs.Prelude.{ℕ, ◌+◌, ◌-◌, ◌*◌, ◌/◌, ◌≤◌, ◌≡◌, cond, List, length}
use Rattle.octets.specs.Octets.{between}
use Rattle.format.specs.declared.Settings.{Settings}
use Rattle.format.specs.Answer.{Refused}
use Rattle.format.specs.Lengths.{record_length}
use Rattle.format.specs.Reader.{read}

-- "For every accepted packet of n bytes, the sheet length is at most 33 + 45 × (n − 32) / 4, rounded down": the header's record, and a
-- target's for each 4 bytes behind the header, since nothing grows more. The whole product is divided.
abbrev pub formula : ℕ → ℕ
formula n = record_length 1 + record_length 4 * (n - 32) / 4

-- no sheet has more bytes than this: "A packet has 32 to 65,536 bytes."
abbrev pub longest_sheet : ℕ
longest_sheet = formula 65536

-- "Groups want to set aside sheet space before reading": what is to be set aside for a packet of n bytes, and nothing where no packet has so
-- many
unfoldable pub sheet_bound : ℕ → ℕ
sheet_bound n = cond (between 32 65536 n) (formula n) 0

-- so much room is enough for each run of n bytes, read as any edition: it is never refused with 16, "sheet too short"
abbrev pub EnoughFor : ℕ → ℕ → Type 0
EnoughFor n room =
    (settings : Settings) (l lent : List ℕ) (segment field : ℕ) → length l ≡ n → room ≤ length lent
    → (read settings l lent).answer ≡ Refused 16 segment field → ⊥
