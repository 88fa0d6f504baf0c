-- The two sets of text. Document 01, 'Packet and segments': "Text (P3, P5, P8 and those below) holds only 0x20 to 0x7E, 0x0A, 0x0C,
-- 0x0D." Request A3: "Text in fields other than F3 now holds only 0x20 to 0x7E. F3 keeps the wider set."
-- Assumes nothing.
use Rattle.std.specs.Prelude.{ℕ, Bool, true, cond, ◌&&◌, ◌||◌, List, [], ◌∷◌, ◌==◌}
use Rattle.octets.specs.Octets.{between}
use Rattle.octets.specs.Layout.{field}

-- "only 0x20 to 0x7E": a byte of text on one line. Both standards call this set BCS-A.
unfoldable pub is_line_byte : ℕ → Bool
is_line_byte c = between 0x20 0x7E c

-- "the wider set", "0x20 to 0x7E, 0x0A, 0x0C, 0x0D": a byte of any text. Both standards call this set BCS.
unfoldable pub is_text_byte : ℕ → Bool
is_text_byte c = is_line_byte c || c == 0x0A || c == 0x0C || c == 0x0D

-- each byte is in the set
unfoldable pub all : (ℕ → Bool) → List ℕ → Bool
all is_in [] = true
all is_in (c ∷ cs) = is_in c && all is_in cs

-- text on one line
abbrev pub is_line : List ℕ → Bool
is_line s = all is_line_byte s

-- any text
abbrev pub is_text : List ℕ → Bool
is_text s = all is_text_byte s

-- a field of text: its number, and which bytes it may hold
pub record TextField : Type 0 where
  pub number : ℕ
  pub holds : ℕ → Bool

-- "Text in fields other than F3": a field of one line
abbrev pub one_line : ℕ → TextField
one_line n = record { number = n; holds = is_line_byte }

-- F3, which "keeps the wider set": a field of any text
abbrev pub any_text : ℕ → TextField
any_text n = record { number = n; holds = is_text_byte }

-- the first of the fields ts of b with a byte that it may not hold, and 0 where there is none: what rows 5 and 10 name
unfoldable pub text_fault : List ℕ → List TextField → List ℕ → ℕ
text_fault ws [] b = 0
text_fault ws (t ∷ ts) b = cond (all t.holds (field 1 ws t.number b)) (text_fault ws ts b) t.number
