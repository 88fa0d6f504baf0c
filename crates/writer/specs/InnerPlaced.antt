-- What is left in a lent packet buffer once a sheet has been spelt and looked at. The contracts of this crate's own functions cite
-- it; those of the writer cite `check` and `write` of format alone.
-- Assumes nothing.
use Rattle.std.specs.Prelude.{ℕ, ◌≡◌, ◌&&◌, cond, List, leb, length}
use Rattle.octets.specs.Layout.{over}
use Rattle.format.specs.Answer.{Answer}
use Rattle.format.specs.Writer.{is_accepted, spell, sheet_answer}
use Rattle.sheet_walk.specs.InnerShape.{Shaped}

-- the packet, where the answer accepts it and the buffer has room for it, and what was lent otherwise
unfoldable pub placed : Answer → List ℕ → List ℕ → List ℕ
placed a packet lent = cond (is_accepted a && leb (length packet) (length lent)) (over packet lent) lent

-- rows 17 to 19 of the sheet x are settled: the answer, and what is left in the buffer
abbrev pub Settled : List ℕ → List ℕ → Answer → List ℕ → Type 0
Settled x lent a left = (a ≡ sheet_answer x) × (left ≡ placed (sheet_answer x) (spell x) lent)

-- a sheet that rows 17 and 18 let pass and that spells n bytes
pub record Spells (x : List ℕ) (n : ℕ) : Type 0 where
  pub shaped : Shaped x
  pub length_is : n ≡ length (spell x)
