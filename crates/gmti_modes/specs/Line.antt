-- The line that answers a line with the number of a radar mode.
-- Assumes nothing.
use Rattle.std.specs.Prelude.{ℕ, Bool, true, false, ◌&&◌, cond, List, [], ◌∷◌, ◌++◌, leb, Err}
use Prim.Native.Char.{code}
use Prim.Native.String.{String, [] as []ˢ, ◌∷◌ as ◌∷ˢ◌}
use Rattle.format.specs.Edition.{is_new_mode}
use Rattle.modes.specs.Modes.{lookup, system_of}
use Rattle.modes.specs.Tables.{name_of}
use Rattle.printing.specs.Printing.{decimal}
use Rattle.vectors.specs.declared.Fault.TheVariants.{Number}
use Rattle.vectors.specs.Vectors.{is_number, spelt, unread_line}

-- the bytes of a text of ASCII characters
unfoldable pub ascii : String → List ℕ
ascii []ˢ = []
ascii (c ∷ˢ s) = code c ∷ ascii s

-- a mode's number: digits, one at least, that spell 0 to 255
unfoldable pub is_mode : List ℕ → Bool
is_mode line = is_number line && leb (spelt line 0) 255

-- a system: its name, and its number in parentheses
unfoldable pub system_text : ℕ → List ℕ
system_text system = ascii (name_of system) ++ ascii " (" ++ decimal system ++ ascii ")"

-- whether the mode is one of those that document 01 lists as new in Edition 3
unfoldable pub new_text : Bool → List ℕ
new_text true = ascii ", new"
new_text false = ascii ", not new"

-- what is said of a mode: its system in each edition's table, and whether it is new
unfoldable pub mode_text : ℕ → List ℕ
mode_text mode =
    ascii "Edition 1 " ++ system_text (system_of (lookup 1 mode))
    ++ (ascii ", Edition 3 " ++ system_text (system_of (lookup 3 mode)))
    ++ new_text (is_new_mode mode)

-- the line that answers a line: the line, a colon, a space, and what is said of its mode; or that it is no mode's number
unfoldable pub answer_of : List ℕ → List ℕ
answer_of line = cond (is_mode line) (line ++ ascii ": " ++ mode_text (spelt line 0) ++ ascii "\n") (unread_line line (Err Number))
