-- The spelt packet one record at a time, as the code goes. On a sheet that row 18 lets pass, a record by itself tells the size of the
-- segment that it begins, so nothing waits for the records behind it.
-- Assumes nothing.
use Rattle.std.specs.Prelude.{ℕ, zero, suc, ◌+◌, ◌-◌, ◌*◌, ◌/◌, ◌≤◌, min, ◌≡◌, ◌&&◌, cond, List, [], ◌∷◌, ◌++◌, Option, Some, None, Result, Ok, Err, ltb, eqb, length, get_or, take, drop}
use Rattle.std.proofs.lemmas.List.Edits.{sets}
use Rattle.octets.specs.Octets.{bytes}
use Rattle.format.specs.Sheet.{Record, body_length}
use Rattle.format.specs.Lengths.{record_length}
use Rattle.format.specs.Writer.{listed, Due, due, called_for, is_follower, share, carried, is_complete, type_of, given, given_behind, spell}
use Rattle.sheet_walk.specs.declared.Place.{Place}
use Rattle.sheet_walk.specs.declared.Place.TheVariants.{Whole, End, Cut}
use Rattle.sheet_walk.specs.InnerShape.{is_sheet, each_takes, BeginsWith, each_has}
use Rattle.spelling.specs.declared.Misshapen.{Misshapen}
use Rattle.spelling.specs.declared.Misshapen.TheVariants.{Unlisted, Incomplete}
use Rattle.spelling.specs.declared.Ahead.{Ahead}
use Rattle.spelling.specs.declared.Step.{Step}
use Rattle.spelling.specs.declared.Counted.{Counted}

-- S2 of the segment that a record begins: "its own 5 header bytes", what the record gives, and what it calls for
unfoldable pub size_of : Record → ℕ
size_of r = 5 + length (given r) + (called_for r).left * each_takes r

-- what a record adds to that: a follower is counted in its segment
abbrev pub added_size : Record → ℕ
added_size r = cond (is_follower r) 0 (size_of r)

-- the segment's header, and what the record gives that begins it
unfoldable pub begun : Record → List ℕ
begun r = type_of r ∷ (bytes 4 (size_of r) ++ given r)

-- the bytes that a record adds to the packet
unfoldable pub spelt : Record → Record → List ℕ
spelt leader r = cond (is_follower r) (given_behind leader r) (begun r)

-- how many of the records that are due are put at once, as a row: all scatterers, and of pieces those that are full
unfoldable pub row_of : Due → ℕ
row_of d = cond (eqb d.kind 12) d.left (cond (eqb d.kind 6) (d.left / 32) 0)

-- those behind a record
abbrev pub row_behind : Record → ℕ
row_behind r = row_of (called_for r)

-- the bytes that n records of a kind in a row give, with which rest begins
unfoldable pub row_given : Record → ℕ → ℕ → List ℕ → List ℕ
row_given leader kind zero rest = []
row_given leader kind (suc n) rest =
    given_behind leader (record { kind = kind; body = take (body_length kind) (drop 1 rest) })
    ++ row_given leader kind n (drop (record_length kind) rest)

-- so of the row behind a record; and how many bytes this row takes on the sheet
abbrev pub given_in_row : Record → List ℕ → List ℕ
given_in_row r rest = row_given r (called_for r).kind (row_behind r) rest

unfoldable pub read_next : Record → ℕ
read_next r = row_behind r * record_length (called_for r).kind

-- the bytes that a record adds with the row behind it
unfoldable pub spelt_next : Record → Record → List ℕ → List ℕ
spelt_next leader r rest = spelt leader r ++ given_in_row r rest

-- the bytes that n full pieces' records give, with which rest begins
unfoldable pub carried_all : ℕ → List ℕ → List ℕ
carried_all zero rest = []
carried_all (suc n) rest = take 32 (drop 2 rest) ++ carried_all n (drop (record_length 6) rest)

-- the record that begins the segment of those behind a record
abbrev pub leader_behind : Record → Record → Record
leader_behind leader r = cond (is_follower r) leader r

-- the bytes of all records behind the header, which leads where none has begun a segment
unfoldable pub spelt_all : Record → List Record → List ℕ
spelt_all leader [] = []
spelt_all leader (r ∷ rs) = spelt leader r ++ spelt_all (leader_behind leader r) rs

-- a record by its kind and its body
abbrev pub record_in : ℕ → List ℕ → Record
record_in kind b = record { kind = kind; body = b }

-- the leader by its body alone: what its followers give does not go by its kind
abbrev pub leading : List ℕ → Record
leading b = record { kind = 0; body = b }

-- a record that begins a segment no longer than a packet
abbrev pub Begins : Record → Type 0
Begins r = (length r.body ≡ body_length r.kind) × (1 ≤ length r.body) × (size_of r ≤ 65536)

-- what is certain of any record on a sheet whose packet is no longer, where scatterers are passed with the record that calls for them: a
-- target's leader has a mask, and a piece has as many bytes as it counts
abbrev pub Spellable : List ℕ → Record → Type 0
Spellable leader r =
    (length r.body ≡ body_length r.kind)
    × (1 ≤ length r.body)
    × (added_size r ≤ 65536)
    × (r.kind ≡ 4 → 8 ≤ length leader)
    × (r.kind ≡ 6 → get_or r.body 0 0 ≤ 32)
    × (r.kind ≡ 12 → ⊥)

-- rest begins with the row behind a record
abbrev pub BeginsRow : Record → List ℕ → Type 0
BeginsRow r rest = BeginsWith (called_for r).kind (row_behind r) rest

-- what is certain of a record and of rest, which stands behind it
abbrev pub SpellableNext : List ℕ → Record → List ℕ → Type 0
SpellableNext leader r rest = Spellable leader r × BeginsRow r rest

-- what is asked to put the row behind a record at the front of o, and what is then told: how far it goes on the sheet and in the packet
abbrev pub Followed : Record → List ℕ → List ℕ → Type 0
Followed r rest o = BeginsRow r rest × (length (given_in_row r rest) ≤ length o)

pub record Put (r : Record) (rest o : List ℕ) (s : Step) (left : List ℕ) : Type 0 where
  pub read_is : s.read ≡ read_next r
  pub written_is : s.written ≡ length (given_in_row r rest)
  pub stored : left ≡ sets o 0 (given_in_row r rest)

-- ---- rows 17 and 18, and the length of the packet

-- no packet is longer than 65,536, so anything longer is counted as 65,537
abbrev pub capped : ℕ → ℕ
capped n = min 65537 n

-- the place behind the header at the front of a sheet
abbrev pub header_end : Place → Option ℕ
header_end (Whole kind end) = cond (eqb kind 1) (Some end) None
header_end End = None
header_end Cut = None

-- row 17 applies, or row 18 does, or the sheet spells so many bytes
abbrev pub Survey : Type 0
Survey = Result ℕ Misshapen

abbrev pub unlisted : Survey
unlisted = Err Unlisted

abbrev pub incomplete : Survey
incomplete = Err Incomplete

abbrev pub spells : ℕ → Survey
spells n = Ok n

unfoldable pub surveyed : List ℕ → Survey
surveyed x =
    cond (is_sheet (listed x))
    (cond (is_complete (due 0 0) (listed x).records) (spells (capped (length (spell x)))) incomplete)
    unlisted

-- so much of a kind is due next, and so many bytes are spelt
abbrev pub then_due : ℕ → ℕ → ℕ → Option Counted
then_due kind left sum = Some (record { follower = kind; left = left; sum = sum })

-- what is due behind a record and how many bytes are spelt with it, where so much was due and so many were spelt; by the cases of
-- `isComplete`
unfoldable pub counted : Due → ℕ → Record → Option Counted
counted d sum r =
    cond (ltb 0 d.left)
    (cond (eqb r.kind d.kind && eqb (carried r) (share d)) (then_due d.kind (d.left - share d) sum) None)
    (cond (is_follower r) None (then_due (called_for r).kind (called_for r).left (capped (sum + size_of r))))

-- how far a walk goes at once from a place of x where so much of a kind is due: past a row of n records of that kind, or n is 0
abbrev pub Passes : List ℕ → ℕ → ℕ → ℕ → Ahead → Type 0
Passes x at follower left a =
    (n : ℕ) × (a.at ≡ at + n * record_length follower) × (left ≡ a.left + n * each_has follower) × BeginsWith follower n (drop at x)
