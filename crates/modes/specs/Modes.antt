-- Which system a radar mode belongs to (document 02, A6): table 2-7.2 of documents 000 and 003, as they print it, and the lookup.
-- Assumes nothing.
use Rattle.std.specs.Prelude.{ℕ, suc, cond, List, [], ◌∷◌, Result, Ok, Err, eqb}
use Prim.Native.String.{String}
use lib.Text.{eqt}
use Rattle.octets.specs.Octets.{between}
use Rattle.modes.specs.declared.NoEdition.{NoEdition}

-- lines of the table, one behind another, that have the same entry under SYSTEM: the values from the first to the last
pub record Run : Type 0 where
  pub first : ℕ
  pub last : ℕ
  pub system : String

abbrev pub run : ℕ → ℕ → String → Run
run first last system = record { first = first; last = last; system = system }

-- document 003, table 2-7.2. 81 to 83 and 100 have a mode's name, but "Reserved" under SYSTEM.
abbrev pub edition3 : List Run
edition3 =
    run 0 5 "Generic"
    ∷ run 6 10 "Reserved"
    ∷ run 11 21 "Joint STARS"
    ∷ run 22 30 "Reserved"
    ∷ run 31 38 "ASARS-AIP"
    ∷ run 39 50 "Reserved"
    ∷ run 51 55 "ASARS-2"
    ∷ run 56 60 "Reserved"
    ∷ run 61 62 "TUAV"
    ∷ run 63 65 "ARL-M"
    ∷ run 66 80 "Reserved"
    ∷ run 81 83 "Reserved"
    ∷ run 84 86 "HORIZON"
    ∷ run 87 88 "CRESO"
    ∷ run 89 93 "Reserved"
    ∷ run 94 97 "ASTOR"
    ∷ run 98 99 "Reserved"
    ∷ run 100 100 "Reserved"
    ∷ run 101 104 "Lynx I/II"
    ∷ run 105 110 "Reserved"
    ∷ run 111 113 "Global Hawk"
    ∷ run 114 119 "Reserved"
    ∷ run 120 123 "VADER"
    ∷ run 124 255 "Reserved"
    ∷ []

-- document 000, tableau 2-7.2, where "Générique" stands for "Generic" and "Réservé" for "Reserved"
abbrev pub edition1 : List Run
edition1 =
    run 0 5 "Generic"
    ∷ run 6 10 "Reserved"
    ∷ run 11 21 "Joint STARS"
    ∷ run 22 30 "Reserved"
    ∷ run 31 38 "ASARS-AIP"
    ∷ run 39 50 "Reserved"
    ∷ run 51 55 "ASARS-2"
    ∷ run 56 60 "Reserved"
    ∷ run 61 62 "TUAV"
    ∷ run 63 65 "ARL-M"
    ∷ run 66 80 "Reserved"
    ∷ run 81 83 "Reserved"
    ∷ run 84 86 "HORIZON"
    ∷ run 87 88 "CRESO"
    ∷ run 89 90 "Reserved"
    ∷ run 91 95 "ASTOR"
    ∷ run 96 99 "Reserved"
    ∷ run 100 100 "Reserved"
    ∷ run 101 255 "Reserved"
    ∷ []

-- what a table has under SYSTEM for a mode; "Reserved" too for a value that no line has
unfoldable pub system_in : List Run → ℕ → String
system_in [] mode = "Reserved"
system_in (r ∷ rs) mode = cond (between r.first r.last mode) r.system (system_in rs mode)

-- the systems of both tables "in the order in which systems first occur in Edition 3's table and then in Edition 1's". Reserved is none.
abbrev pub systems : List String
systems =
    "Generic"
    ∷ "Joint STARS"
    ∷ "ASARS-AIP"
    ∷ "ASARS-2"
    ∷ "TUAV"
    ∷ "ARL-M"
    ∷ "HORIZON"
    ∷ "CRESO"
    ∷ "ASTOR"
    ∷ "Lynx I/II"
    ∷ "Global Hawk"
    ∷ "VADER"
    ∷ []

-- the place of a name in a list whose first is counted as k; 0 for a name that is not there
unfoldable pub place_from : ℕ → List String → String → ℕ
place_from k [] name = 0
place_from k (x ∷ xs) name = cond (eqt x name) k (place_from (suc k) xs name)

-- "0 for a value given to no system, otherwise a number per system, from 1"
unfoldable pub system_number : List Run → ℕ → ℕ
system_number table mode = place_from 1 systems (system_in table mode)

-- the refusal
abbrev pub no_edition : Result ℕ NoEdition
no_edition = Err (record {})

-- "A lookup takes edition and mode." "when the edition asked for is neither 1 nor 3, as the lookup's only refusal"
unfoldable pub lookup : ℕ → ℕ → Result ℕ NoEdition
lookup edition mode =
    cond (eqb edition 1) (Ok (system_number edition1 mode))
    (cond (eqb edition 3) (Ok (system_number edition3 mode)) no_edition)

-- the number of each answer and its system: "23, with system 0"
abbrev pub number_of : Result ℕ NoEdition → ℕ
number_of (Ok system) = 0
number_of (Err refusal) = 23

abbrev pub system_of : Result ℕ NoEdition → ℕ
system_of (Ok system) = system
system_of (Err refusal) = 0
