-- Trials of what the input asks for, and of what is then written; above each statement stands the text that its bytes spell.
-- Assumes nothing.
use Rattle.std.specs.Prelude.{ℕ, ◌≡◌, List, [], ◌∷◌, length}
use Rattle.gmti_longest.specs.Longest.{asked, written}

unfoldable pub inputs : List (Type 0)
inputs =
    -- "", a line feed, "0", "05", "+5", " 5"
    (asked [] ≡ 0)
    ∷ (asked (10 ∷ []) ≡ 0)
    ∷ (asked (48 ∷ []) ≡ 0)
    ∷ (asked (48 ∷ 53 ∷ []) ≡ 0)
    ∷ (asked (43 ∷ 53 ∷ []) ≡ 0)
    ∷ (asked (32 ∷ 53 ∷ []) ≡ 0)
    -- "5", and then a line feed, CR LF, two line feeds
    ∷ (asked (53 ∷ []) ≡ 5)
    ∷ (asked (53 ∷ 10 ∷ []) ≡ 5)
    ∷ (asked (53 ∷ 13 ∷ 10 ∷ []) ≡ 0)
    ∷ (asked (53 ∷ 10 ∷ 10 ∷ []) ≡ 0)
    -- "16362", with a line feed, "16363", "99999999999"
    ∷ (asked (49 ∷ 54 ∷ 51 ∷ 54 ∷ 50 ∷ []) ≡ 16362)
    ∷ (asked (49 ∷ 54 ∷ 51 ∷ 54 ∷ 50 ∷ 10 ∷ []) ≡ 16362)
    ∷ (asked (49 ∷ 54 ∷ 51 ∷ 54 ∷ 51 ∷ []) ≡ 0)
    ∷ (asked (57 ∷ 57 ∷ 57 ∷ 57 ∷ 57 ∷ 57 ∷ 57 ∷ 57 ∷ 57 ∷ 57 ∷ 57 ∷ []) ≡ 0)
    -- "05", "1"
    ∷ (◌≡◌ {A = List ℕ} (written (48 ∷ 53 ∷ [])) [])
    ∷ (length (written (49 ∷ [])) ≡ 92)
    ∷ []
