-- What the program prints of a reading's outcome.
-- Assumes nothing.
use Rattle.std.specs.Prelude.{ℕ, List}
use Rattle.format.specs.Answer.{Outcome}
use Rattle.printing.specs.Printing.{printed}

-- the answer and, where it accepts, the targets of the sheet
abbrev pub printed_of : Outcome → List ℕ
printed_of o = printed o.answer o.left
