-- Trials: a list of statements about the definitions, proved together.
-- Assumes nothing.
use Rattle.std.specs.Prelude.{List, [], ◌∷◌}

-- each statement of a list holds
abbrev pub Holds : List (Type 0) → Type 0
Holds [] = Unit {0}
Holds (t ∷ ts) = t × Holds ts
