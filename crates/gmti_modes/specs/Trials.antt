-- Trials of the line that answers a line.
-- Assumes nothing.
use Rattle.std.specs.Prelude.{◌≡◌, List, [], ◌∷◌}
use Rattle.gmti_modes.specs.Line.{ascii, answer_of}

unfoldable pub answers : List (Type 0)
answers =
    -- a mode of the same system in both tables, one that was withdrawn, one that is new; a mode's name with no system; the last one
    (answer_of (ascii "11") ≡ ascii "11: Edition 1 Joint STARS (2), Edition 3 Joint STARS (2), not new\n")
    ∷ (answer_of (ascii "91") ≡ ascii "91: Edition 1 ASTOR (9), Edition 3 Reserved (0), new\n")
    ∷ (answer_of (ascii "101") ≡ ascii "101: Edition 1 Reserved (0), Edition 3 Lynx I/II (10), new\n")
    ∷ (answer_of (ascii "83") ≡ ascii "83: Edition 1 Reserved (0), Edition 3 Reserved (0), not new\n")
    ∷ (answer_of (ascii "255") ≡ ascii "255: Edition 1 Reserved (0), Edition 3 Reserved (0), not new\n")
    -- zeros in front are allowed
    ∷ (answer_of (ascii "000") ≡ ascii "000: Edition 1 Generic (1), Edition 3 Generic (1), not new\n")
    -- no mode's number
    ∷ (answer_of (ascii "256") ≡ ascii "256: unread number\n")
    ∷ (answer_of (ascii "99999999999") ≡ ascii "99999999999: unread number\n")
    ∷ (answer_of (ascii "") ≡ ascii ": unread number\n")
    ∷ (answer_of (ascii " 11") ≡ ascii " 11: unread number\n")
    ∷ []
