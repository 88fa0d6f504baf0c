-- What is proved of the tables of radar modes (document 02, A6).
-- Assumes nothing.
use Rattle.std.specs.Prelude.{ℕ, ◌+◌, ◌≤◌, ◌<◌, ◌≡◌, false, not, cond, List, [], ◌∷◌, ◌++◌, eqb, get_or}
use Prim.Native.String.{String}
use lib.Text.{eqt}
use Rattle.octets.specs.Octets.{between}
use Rattle.distinct.specs.Distinct.{is_among}
use Rattle.format.specs.Edition.{is_new_mode}
use Rattle.modes.specs.Modes.{Run, edition1, edition3, system_in, systems, system_number}

-- how many runs of a table have this value
unfoldable pub runs_with : List Run → ℕ → ℕ
runs_with [] mode = 0
runs_with (r ∷ rs) mode = cond (between r.first r.last mode) 1 0 + runs_with rs mode

-- the systems of a table in the order in which they first occur, behind those met before
unfoldable pub met_in : List String → List Run → List String
met_in met [] = met
met_in met (r ∷ rs) = met_in (cond (is_among eqt r.system ("Reserved" ∷ met)) met (met ++ (r.system ∷ []))) rs

-- the name of the system with this number, as the tables spell it; "Reserved" is what they have where there is none
unfoldable pub name_of : ℕ → String
name_of n = get_or ("Reserved" ∷ systems) n "Reserved"

-- of one table: each mode stands in one run of it, has no higher number than this, and is given to the system with its number
pub record Table (table : List Run) (highest : ℕ) : Type 0 where
  pub one_run : (mode : ℕ) → mode < 256 → runs_with table mode ≡ 1
  pub within : (mode : ℕ) → mode < 256 → system_number table mode ≤ highest
  pub named : (mode : ℕ) → mode < 256 → name_of (system_number table mode) ≡ system_in table mode

pub record ModeTables : Type 0 where
  pub of_edition1 : Table edition1 9
  pub of_edition3 : Table edition3 12
  -- "from 1 in the order in which systems first occur in Edition 3's table and then in Edition 1's"
  pub in_order : met_in (met_in [] edition3) edition1 ≡ systems
  -- "every mode outside it has the same system number in both tables"
  pub same_outside : (mode : ℕ) → mode < 256 → is_new_mode mode ≡ false → system_number edition1 mode ≡ system_number edition3 mode
  -- and no mode in it has: a mode is in the list exactly where the two numbers differ
  pub new_where_different : (mode : ℕ) → mode < 256 → is_new_mode mode ≡ not (eqb (system_number edition1 mode) (system_number edition3 mode))
