-- The line that answers a line `NAME: HEX`.
-- Assumes nothing.
use Rattle.std.specs.Prelude.{ℕ, ◌+◌, cond, List, [], ◌∷◌, ◌++◌, take, drop, Result, Ok, Err}
use Rattle.format.specs.Edition.{as_edition}
use Rattle.format.specs.Answer.{Answer}
use Rattle.format.specs.Reader.{read}
use Rattle.printing.specs.Printing.{answer_text}
use Rattle.lines.specs.Lines.{before}
use Rattle.vectors.specs.declared.Fault.{Fault}
use Rattle.vectors.specs.declared.Fault.TheVariants.{Form}
use Rattle.vectors.specs.Vectors.{is_colon, hex_fault, unhexed, fault_text}
use Rattle.gmti_editions.specs.declared.Verdict.{Verdict}
use Rattle.gmti_editions.specs.declared.Verdict.TheVariants.{NotRead, New, Alike, Broken}
use Rattle.gmti_editions.specs.Verdict.{verdict}

-- what is said of a packet: the refusal of the Edition 3 reading; "new" or "alike" and the answer of the Edition 1 reading; or "broken"
unfoldable pub judged_text : Verdict → Answer → Answer → List ℕ
judged_text NotRead newer older = answer_text newer
judged_text New newer older = 110 ∷ 101 ∷ 119 ∷ 32 ∷ answer_text older
judged_text Alike newer older = 97 ∷ 108 ∷ 105 ∷ 107 ∷ 101 ∷ 32 ∷ answer_text older
judged_text Broken newer older = 98 ∷ 114 ∷ 111 ∷ 107 ∷ 101 ∷ 110 ∷ []

-- the same of a packet and what is lent to both readings and the writer
unfoldable pub packet_text : List ℕ → List ℕ → List ℕ → List ℕ → List ℕ
packet_text l lent1 lent3 buffer = judged_text (verdict l lent1 lent3 buffer) (read (as_edition 3) l lent3).answer (read (as_edition 1) l lent1).answer

-- the name, up to the first colon (58), and the hex behind the colon and the space
unfoldable pub name_of : List ℕ → List ℕ
name_of line = take (before 58 line) line

unfoldable pub hex_of : List ℕ → List ℕ
hex_of line = drop (before 58 line + 2) line

-- what is wrong with a line
unfoldable pub line_fault : List ℕ → Result (Unit {0}) Fault
line_fault line = cond (is_colon (drop (before 58 line) line)) (hex_fault (hex_of line)) (Err Form)

-- what is said of a line: what is said of its packet, or what is wrong with it
unfoldable pub text_of : Result (Unit {0}) Fault → List ℕ → List ℕ
text_of (Ok _) said = said
text_of (Err f) said = fault_text (Err f)

-- a line's name, a colon, a space, and what is said of it
unfoldable pub said_of : List ℕ → List ℕ → List ℕ
said_of line said = name_of line ++ (58 ∷ 32 ∷ []) ++ said ++ (10 ∷ [])

-- the line that answers a line
unfoldable pub answer_of : List ℕ → List ℕ → List ℕ → List ℕ → List ℕ
answer_of line lent1 lent3 buffer = said_of line (text_of (line_fault line) (packet_text (unhexed (hex_of line)) lent1 lent3 buffer))
