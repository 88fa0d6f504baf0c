-- Lengths of whole records: inner contracts say by them how much room there is, and Bound.antt how long a sheet gets.
-- Assumes nothing.
use Rattle.std.specs.Prelude.{ℕ, ◌+◌, get_or}
use Rattle.format.specs.Sheet.{body_lengths}

-- the bytes of a whole record of the kind: its own and those of its body, by the table itself, so that it computes in a contract
abbrev pub record_length : ℕ → ℕ
record_length kind = 1 + get_or body_lengths kind 0
