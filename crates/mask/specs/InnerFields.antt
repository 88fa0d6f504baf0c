-- Parts of the table of fields, and of a mask without fault, of which inner contracts speak.
-- Assumes nothing.
use Rattle.std.specs.Prelude.{ℕ, ◌+◌, ◌-◌, ◌≡◌, true, List, ◌++◌, take, drop}
use Rattle.mask.specs.Fields.{announced, dwell_widths, target_widths}
use Rattle.mask.specs.Mask.{is_required}

-- the widths of the fields from the first to the last of these numbers
abbrev pub widths : ℕ → ℕ → List ℕ
widths first last = take (last + 1 - first) (drop (first - 2) (dwell_widths ++ target_widths))

-- every required field is announced
abbrev pub Required : ℕ → Type 0
Required mask = (n : ℕ) → is_required n ≡ true → announced mask n ≡ true
