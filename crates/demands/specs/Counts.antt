-- The counts of a sheet, by its records.
-- Assumes nothing.
use Rattle.std.specs.Prelude.{ℕ, ◌+◌, Bool, cond, not, ◌&&◌, List, [], ◌∷◌, eqb, drop}
use Rattle.format.specs.Dwell.{Pair, pair_of}
use Rattle.format.specs.Sheet.{Record}
use Rattle.format.specs.Writer.{is_follower}

-- how many of the records f holds of
unfoldable pub count : (Record → Bool) → List Record → ℕ
count f [] = 0
count f (r ∷ rs) = cond (f r) 1 0 + count f rs

-- a record of the kind
abbrev pub is_kind : ℕ → Record → Bool
is_kind k r = eqb r.kind k

-- a record that begins a segment: neither the header, a target, a piece nor a scatterer
abbrev pub is_leader : Record → Bool
is_leader r = not (is_kind 1 r) && not (is_follower r)

-- the pairs of D2 and D3 of the dwells' records, in their order; behind the mask of 8 bytes such a record has D2 to D31 at full widths
unfoldable pub pairs_on : List Record → List Pair
pairs_on [] = []
pairs_on (r ∷ rs) = cond (is_kind 3 r) (pair_of (drop 8 r.body) ∷ pairs_on rs) (pairs_on rs)
