-- The answer of a reading or of the writer in document 01's numbers ('Where each number is given').
-- Assumes nothing.
use Rattle.std.specs.Prelude.{ℕ, List, [], ◌∷◌, Result, Ok, Err}
use Rattle.octets.specs.Layout.{over}
use Rattle.format.specs.declared.Counts.{Counts}
use Rattle.format.specs.declared.Refusal.{Refusal}

-- accepted with so many segments, dwells and targets, and the length of the sheet or of the packet; or refused by a number, a segment and a field
pub data Answer : Type 0 where
  Accepted : ℕ → ℕ → ℕ → ℕ → Answer
  Refused : ℕ → ℕ → ℕ → Answer

-- that of a call of the code: each of its values is one answer, and no two are the same
abbrev pub answer_of : Result Counts Refusal → Answer
answer_of (Ok c) = Accepted c.segments c.dwells c.targets c.length
answer_of (Err f) = Refused f.number f.segment f.field

-- number, segment, field, segments, dwells, targets, length. "Counts and length are 0 in a refusal. Accepted: number, segment and field 0"
unfoldable pub numbers_of : Answer → List ℕ
numbers_of (Accepted segments dwells targets n) = 0 ∷ 0 ∷ 0 ∷ segments ∷ dwells ∷ targets ∷ n ∷ []
numbers_of (Refused number segment field) = number ∷ segment ∷ field ∷ 0 ∷ 0 ∷ 0 ∷ 0 ∷ []

-- what a call gives: the answer, its numbers, and what the lent memory then holds
pub record Outcome : Type 0 where
  pub answer : Answer
  pub numbers : List ℕ
  pub left : List ℕ

-- the outcome of a call that answers a and leaves these bytes
abbrev pub outcome : Answer → List ℕ → Outcome
outcome a left = record { answer = a; numbers = numbers_of a; left = left }

-- "Every refusal leaves the lent output unchanged"; accepted, the made bytes stand at its front and "bytes after it are unchanged"
unfoldable pub left_by : Answer → List ℕ → List ℕ → List ℕ
left_by (Accepted segments dwells targets n) made lent = over made lent
left_by (Refused number segment field) made lent = lent
