-- Fields that a mask announces together, of which the laws of blocks speak.
-- Assumes nothing.
use Prim.Native.Nat.{ℕ, suc}
use mathlib.Core.Bool.{Bool, true, not, ◌&&◌}
use mathlib.Core.List.{List, [], ◌∷◌}
use Rattle.mask.specs.Fields.{announced}

-- the mask announces each of the fields n, n + 1, .. that ws has widths for
abbrev pub all_set : ℕ → ℕ → List ℕ → Bool
all_set mask n [] = true
all_set mask n (w ∷ ws) = announced mask n && all_set mask (suc n) ws

-- it announces none of them
abbrev pub none_set : ℕ → ℕ → List ℕ → Bool
none_set mask n [] = true
none_set mask n (w ∷ ws) = not (announced mask n) && none_set mask (suc n) ws
