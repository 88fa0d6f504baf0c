-- The pieces of a text or an opaque body, said without the cutting `piece_records` of the crate format: whoever doubts that cutting can
-- believe this instead. The quoted words are document 01's.
-- Assumes nothing.
use Rattle.std.specs.Prelude.{ℕ, ◌-◌, ◌≤◌, ◌≡◌, List, [], ◌∷◌, ◌++◌, length, replicate}
use Rattle.format.specs.Sheet.{Record}

-- "6 piece, 33: a count 1 to 32, the bytes, zero filling": the record r is a piece that carries the bytes b
pub record Carries (r : Record) (b : List ℕ) : Type 0 where
  pub kind_is : r.kind ≡ 6
  pub from_1 : 1 ≤ length b
  pub to_32 : length b ≤ 32
  pub body_is : r.body ≡ length b ∷ b ++ replicate (32 - length b) 0

-- "Pieces carry the text or opaque body, all full but the last": the records, in their order, carry the text. The last may be full too
pub data Carry : List Record → List ℕ → Type 0 where
  none : Carry [] []
  last : {r : Record} {b : List ℕ} → Carries r b → Carry (r ∷ []) b
  full : {r : Record} {rs : List Record} {b text : List ℕ} → Carries r b → length b ≡ 32 → Carry rs text → Carry (r ∷ rs) (b ++ text)
