-- A list with repeats left out, by any test that tells whether two of its members are the same.
-- Assumes nothing.
use Rattle.std.specs.Prelude.{Bool, false, ◌||◌, cond, List, [], ◌∷◌}

-- x is one of the list
unfoldable pub is_among : {A : Type 0} → (A → A → Bool) → A → List A → Bool
is_among same x [] = false
is_among same x (y ∷ ys) = same x y || is_among same x ys

-- the list with repeats left out: of members that are the same, the last stays
unfoldable pub without_repeats : {A : Type 0} → (A → A → Bool) → List A → List A
without_repeats same [] = []
without_repeats same (x ∷ xs) = cond (is_among same x xs) (without_repeats same xs) (x ∷ without_repeats same xs)

-- some member is among those behind it
unfoldable pub has_repeats : {A : Type 0} → (A → A → Bool) → List A → Bool
has_repeats same [] = false
has_repeats same (x ∷ xs) = is_among same x xs || has_repeats same xs
