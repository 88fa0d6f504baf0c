-- Fields that follow one another in a run of bytes, and bytes laid over others.
-- A table of fields is the number of its first field and the widths, in bytes, from that field on.
-- Assumes nothing.
use Rattle.std.specs.Prelude.{ℕ, zero, suc, ◌+◌, ◌-◌, List, [], ◌∷◌, ◌++◌, ℤ, length, get_or, take, drop}
use Rattle.octets.specs.Octets.{be, signed}

-- b cut to w bytes, or filled with zeros up to w
unfoldable pub pad : ℕ → List ℕ → List ℕ
pad zero b = []
pad (suc w) [] = 0 ∷ pad w []
pad (suc w) (x ∷ b) = x ∷ pad w b

-- the bytes e laid over the front of lent memory o: what stands behind them is o's
unfoldable pub over : List ℕ → List ℕ → List ℕ
over e o = e ++ drop (length e) o

-- the sum of all the widths
unfoldable pub total : List ℕ → ℕ
total [] = 0
total (w ∷ ws) = w + total ws

-- the width of field n of the table
abbrev pub width : ℕ → List ℕ → ℕ → ℕ
width first ws n = get_or ws (n - first) 0

-- where field n begins: after the widths before it
abbrev pub offset : ℕ → List ℕ → ℕ → ℕ
offset first ws n = total (take (n - first) ws)

-- the bytes of field n, where b begins with the table's first field
unfoldable pub field : ℕ → List ℕ → ℕ → List ℕ → List ℕ
field first ws n b = take (width first ws n) (drop (offset first ws n) b)

-- the unsigned number in field n ("numbers are stored highest byte first")
unfoldable pub value : ℕ → List ℕ → ℕ → List ℕ → ℕ
value first ws n b = be (width first ws n) (drop (offset first ws n) b)

-- the signed number in field n
unfoldable pub signed_value : ℕ → List ℕ → ℕ → List ℕ → ℤ
signed_value first ws n b = signed (width first ws n) (drop (offset first ws n) b)

-- b with the bytes v in the place of field n
unfoldable pub replaced : ℕ → List ℕ → ℕ → List ℕ → List ℕ → List ℕ
replaced first ws n v b = take (offset first ws n) b ++ v ++ drop (offset first ws n + width first ws n) b

-- b with zeros in field n ("withheld and zeroed")
abbrev pub zeroed : ℕ → List ℕ → ℕ → List ℕ → List ℕ
zeroed first ws n b = replaced first ws n (pad (width first ws n) []) b

-- b with field n as a has it (demand 3: "Copy into it every D27 and J26")
abbrev pub copied : ℕ → List ℕ → ℕ → List ℕ → List ℕ → List ℕ
copied first ws n a b = replaced first ws n (field first ws n a) b
