-- What the rows of the table of refusals say of the call and the header, or of one segment.
-- Assumes nothing.
use Rattle.std.specs.Prelude.{ℕ, Result, Ok, Err}
use Rattle.format.specs.declared.Fault.{Fault}

-- no row applies, or the number and the field of the first that does
pub data Check : Type 0 where
  Passed : Check
  Failed : ℕ → ℕ → Check

-- that of a check by the code: each of its values is one of these, and no two are the same
abbrev pub check_of : Result (Unit {0}) Fault → Check
check_of (Ok u) = Passed
check_of (Err f) = Failed f.number f.field
