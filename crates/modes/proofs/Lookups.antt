-- The entries of a table that the test has passed, and the cases of a lookup.
-- Assumes nothing.
use Prim.Native.Nat.{ℕ, ◌≤◌, ◌<◌}
use native.Mathlib.Omega.{arith}
use mathlib.Core.Path.{◌≡◌}
use mathlib.Core.Bool.{true}
use mathlib.Core.List.{List}
use borrow.Author.Tests.{ne_eqb}
use lib.ListN.{get_or}
use Rattle.std.specs.Prelude.{Ok}
use Rattle.modes.specs.Modes.{Run, edition1, edition3, system_number, no_edition, lookup}
use Rattle.modes.specs.InnerEntries.{are_entries}
use Rattle.modes.proofs.Every.{each-equal}
use Rattle.modes.proofs.Tables.{mode-tables}

-- an entry that the test has passed is the number that the table gives the mode
pub entry-is : (table : List Run) (entries : List ℕ) (mode : ℕ) → mode < 256 → are_entries table entries ≡ true → get_or entries mode 0 ≡ system_number table mode
unfolding are_entries
entry-is table entries mode l h = each-equal 256 (λ k. get_or entries k 0) (system_number table) h mode l

-- what is found in each table, and that there is no other
module _ (edition mode : ℕ) where
  pub found-1 : {r : ℕ} → edition ≡ 1 → mode < 256 → r ≡ system_number edition1 mode → (Ok r ≡ lookup edition mode) × (r ≤ 12)
  unfolding lookup
  found-1 e l h = (rw (e, h), omega (arith, h, mode-tables.of_edition1.within mode l))

  pub found-3 : {r : ℕ} → edition ≡ 3 → mode < 256 → r ≡ system_number edition3 mode → (Ok r ≡ lookup edition mode) × (r ≤ 12)
  unfolding lookup
  found-3 e l h = (rw (e, h), omega (arith, h, mode-tables.of_edition3.within mode l))

  pub found_none : (edition ≡ 1 → ⊥) → (edition ≡ 3 → ⊥) → no_edition ≡ lookup edition mode
  unfolding lookup
  found_none a b = rw (ne_eqb edition 1 a, ne_eqb edition 3 b)
