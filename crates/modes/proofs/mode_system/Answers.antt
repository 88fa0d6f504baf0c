-- `modes::mode_system` meets its contract. Edition 1, Edition 3, and any other. All entries of a table are computed, and held to that of the
-- definitions.
-- Assumes nothing.
use borrow.Author.Rules.{rules}
use mathlib.Core.Path.{refl}
use native.Mathlib.Omega.{arith}
use Rattle.modes.specs.Modes.{edition1, edition3, system_in, place_from, system_number}
use Rattle.modes.specs.InnerEntries.{every, are_entries}
use Rattle.modes.proofs.Lookups.{found-1, found-3, found_none}
use Rattle.modes.proofs.mode_system.Goals as goal

pub returns-in-1 : goal.returns-in-1
unfolding every are_entries system_in place_from system_number
returns-in-1 c = found-1 c.args.edition c.args.mode c.in-1.is (search rules) (c.entry.ensures edition1 refl)

pub returns-in-3 : goal.returns-in-3
unfolding every are_entries system_in place_from system_number
returns-in-3 c = found-3 c.args.edition c.args.mode c.in-3.is (search rules) (c.entry-in-3.ensures edition3 refl)

pub returns-in_default : goal.returns-in_default
returns-in_default c = (found_none c.args.edition c.args.mode (omega (arith, c.in_default)) (omega (arith, c.in_default)), search rules)
