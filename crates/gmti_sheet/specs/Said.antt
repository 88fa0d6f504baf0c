-- What the program writes for a reading's outcome.
-- Assumes nothing.
use Rattle.std.specs.Prelude.{ℕ, List, take}
use Rattle.format.specs.Answer.{Answer, Accepted, Refused, Outcome}
use Rattle.printing.specs.Printing.{answer_line}

-- the sheet, which has the answer's length, or the line of the refusal
unfoldable pub said : Answer → List ℕ → List ℕ
said (Accepted segments dwells targets n) lent = take n lent
said (Refused number segment field) lent = answer_line (Refused number segment field)

-- by what the reading answers and leaves
abbrev pub said_of : Outcome → List ℕ
said_of o = said o.answer o.left
