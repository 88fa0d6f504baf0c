-- Where a line ends, and the places that a step of reading lines may name. Of the bytes read nothing can be said: they are the system's.
-- Assumes nothing.
use Rattle.std.specs.Prelude.{ℕ, suc, ◌≤◌, cond, List, [], ◌∷◌, eqb, length}
use Rattle.lines.specs.declared.Lines.{Lines}
use Rattle.lines.specs.declared.Line.{Line}
use Rattle.lines.specs.declared.Line.TheVariants.{Whole, Cut}
use Rattle.lines.specs.declared.Next.{Next}
use Rattle.lines.specs.declared.Next.TheVariants.{Whole as NextWhole, Cut as NextCut}

-- how many bytes stand before the first byte b: all, where there is none
unfoldable pub before : ℕ → List ℕ → ℕ
before b [] = 0
before b (x ∷ s) = cond (eqb x b) 0 (suc (before b s))

-- what is held lies within so many bytes
abbrev pub HeldWithin : ℕ → Lines → Type 0
HeldWithin n h = (h.from ≤ h.end) × (h.end ≤ n)

-- and so does a line
abbrev pub NextWithin : ℕ → Next → Type 0
NextWithin n (NextWhole from to) = (from ≤ to) × (to ≤ n)
NextWithin n NextCut = Unit {0}

-- how many bytes of a line are handed on
abbrev pub length_of : Line → ℕ
length_of (Whole s) = length s.now
length_of (Cut s) = length s.now
