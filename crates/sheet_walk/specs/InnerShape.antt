-- The records of a sheet as code goes through them: what is at a place, and what the record says that begins a segment.
-- Assumes nothing.
use Rattle.std.specs.Prelude.{ℕ, ◌+◌, ◌-◌, ◌*◌, ◌≤◌, ◌<◌, ◌≡◌, Bool, true, ◌&&◌, cond, List, ltb, leb, eqb, length, get_or, drop}
use Rattle.octets.specs.Octets.{be}
use Rattle.octets.specs.Layout.{total}
use Rattle.hrr.specs.Hrr.{hrr_mask}
use Rattle.hrr.specs.declared.Scatterers.{Scatterers}
use Rattle.hrr.specs.InnerScatterers.{scatterers_of, widths_of, spelt_of}
use Rattle.sheet_walk.specs.declared.Place.{Place}
use Rattle.sheet_walk.specs.declared.Place.TheVariants.{Whole, End, Cut}
use Rattle.sheet_walk.specs.declared.Lead.{Lead}
use Rattle.format.specs.Dwell.{target_length}
use Rattle.format.specs.Sheet.{Record, body_length}
use Rattle.format.specs.Lengths.{record_length}
use Rattle.format.specs.Writer.{Listed, listed, no_header, is_headed, due, called_for, is_complete, type_of, given}

-- what is at a place of any bytes: "one byte of kind, then a body whose length the kind fixes"
unfoldable pub place_at : List ℕ → ℕ → Place
place_at x at =
    let n = body_length (get_or x at 0) in
    cond (ltb at (length x)) (cond (ltb 0 n && leb n (length x - at - 1)) (Whole (get_or x at 0) (at + 1 + n)) Cut) End

-- row 17 of a sheet's records, and of those behind its header
abbrev pub is_sheet : Listed → Bool
is_sheet l = l.whole && is_headed l.records

abbrev pub is_rest : Listed → Bool
is_rest l = l.whole && no_header l.records

-- a sheet that rows 17 and 18 let pass
abbrev pub Shaped : List ℕ → Type 0
Shaped x = (is_sheet (listed x) ≡ true) × (is_complete (due 0 0) (listed x).records ≡ true)

-- the scatterers behind a record of kind 11 with this body: each number of them takes at most the two bytes that it has on the sheet
abbrev pub scatterers_behind : List ℕ → Scatterers
scatterers_behind b = spelt_of (scatterers_of (hrr_mask b) (drop 5 b))

-- how many bytes of the packet each of those takes that a record calls for: a target its announced fields, a scatterer its numbers, a byte of
-- a piece one
unfoldable pub each_takes : Record → ℕ
each_takes r =
    cond (eqb (called_for r).kind 4) (target_length (be 8 r.body))
    (cond (eqb (called_for r).kind 12) (total (widths_of (scatterers_behind r.body))) 1)

-- the kind of a piece at a place of x, and behind it the count of a full one
abbrev pub is_full_at : List ℕ → ℕ → Bool
is_full_at x at = eqb (get_or x at 0) 6 && eqb (get_or x (at + 1) 0) 32

-- a record of the kind begins at a place of x; a piece is a full one
abbrev pub is_begun_at : ℕ → List ℕ → ℕ → Bool
is_begun_at kind x at = cond (eqb kind 6) (is_full_at x at) (eqb (get_or x at 0) kind)

-- x begins with a row of n records of the kind; inner contracts alone speak of it
pub record BeginsWith (kind n : ℕ) (x : List ℕ) : Type 0 where
  pub long : n * record_length kind ≤ length x
  pub each : (i : ℕ) → i < n → is_begun_at kind x (i * record_length kind) ≡ true

-- an answer that tells whether it does
abbrev pub Tells : Bool → ℕ → ℕ → List ℕ → Type 0
Tells r kind n x = (r ≡ true → BeginsWith kind n x) × (BeginsWith kind n x → r ≡ true)

-- how much each record of a row has of what is due: a full piece 32 bytes, any other is one
abbrev pub each_has : ℕ → ℕ
each_has kind = cond (eqb kind 6) 32 1

-- what a record says that begins a segment
unfoldable pub lead_of : Record → Lead
lead_of r = record { segment_type = type_of r; given = length (given r); follower = (called_for r).kind; left = (called_for r).left; each = each_takes r }

-- S2 by that: "its own 5 header bytes", what the record gives, and what it calls for
abbrev pub size_by : Lead → ℕ
size_by l = 5 + l.given + l.left * l.each

-- no record says more than this
abbrev pub Bounded : Lead → Type 0
Bounded l = (l.given ≤ 87) × (l.left ≤ 4294967295) × (l.each ≤ 36)
