-- Trials of the lookup.
-- Assumes nothing.
use Rattle.std.specs.Prelude.{◌≡◌, List, [], ◌∷◌, Ok}
use Rattle.modes.specs.Modes.{no_edition, lookup, number_of, system_of}

unfoldable pub lookups : List (Type 0)
lookups =
    -- "Spot" of ASTOR, withdrawn in Edition 3; "MTI EXO" of ASTOR, with another name there; "MTI Spot Scan" of Lynx I/II, new there
    (lookup 1 91 ≡ Ok 9)
    ∷ (lookup 3 91 ≡ Ok 0)
    ∷ (lookup 1 94 ≡ Ok 9)
    ∷ (lookup 3 94 ≡ Ok 9)
    ∷ (lookup 1 101 ≡ Ok 0)
    ∷ (lookup 3 101 ≡ Ok 10)
    -- the first mode and the last
    ∷ (lookup 1 0 ≡ Ok 1)
    ∷ (lookup 3 255 ≡ Ok 0)
    -- Edition 2
    ∷ (lookup 2 101 ≡ no_edition)
    ∷ (number_of (lookup 2 101) ≡ 23)
    ∷ (system_of (lookup 2 101) ≡ 0)
    ∷ (number_of (lookup 3 101) ≡ 0)
    ∷ []
