-- What is proved of the input: which bytes of it decide, and what asks for each packet.
-- Assumes nothing.
use Rattle.std.specs.Prelude.{ℕ, ◌≤◌, ◌≡◌, ◌⊎◌, List, [], ◌∷◌, ◌++◌, take}
use Rattle.printing.specs.Printing.{decimal}
use Rattle.gmti_longest.specs.Longest.{asked, written}

-- the first 7 bytes decide, so the program reads no more of them
abbrev pub FrontDecides : Type 0
FrontDecides = (input : List ℕ) → written (take 7 input) ≡ written input

-- "a k from 1 to 16,362, in digits with no leading zero and at most one line feed after them"
abbrev pub DigitsAsk : Type 0
DigitsAsk = (k : ℕ) → 1 ≤ k → k ≤ 16362 → (asked (decimal k) ≡ k) × (asked (decimal k ++ 10 ∷ []) ≡ k)

-- and nothing else asks for one: "(else it writes nothing)"
abbrev pub OnlyDigitsAsk : Type 0
OnlyDigitsAsk =
    (input : List ℕ) → 1 ≤ asked input
    → (asked input ≤ 16362) × ((input ≡ decimal (asked input)) ⊎ (input ≡ decimal (asked input) ++ 10 ∷ []))
