-- What the Edition 1 reading of a version 3 packet withholds, and what it cannot read (document 01, 'Edition 1 reading of a version 3 packet').
-- Assumes nothing.
use Rattle.std.specs.Prelude.{ℕ, Bool, ◌&&◌, ◌||◌, cond, List, eqb}
use Rattle.octets.specs.Layout.{zeroed}
use Rattle.octets.specs.Octets.{between}
use Rattle.format.specs.declared.Settings.{Settings}
use Rattle.format.specs.declared.Reading.{Reading}

-- a packet read as this edition, with nothing else asked for
abbrev pub as_edition : ℕ → Settings
as_edition n = record { edition = n }

-- the Edition 1 reading of a version 3 packet. "Version 1 packets read alike under both readings, D27 and J26 shown."
unfoldable pub is_older : Reading → Bool
is_older r = eqb r.settings.edition 1 && eqb r.version 3

-- a segment that is read field by field as an HRR segment: "Type 3 of a version 3 packet .. In a version 1 packet type 3 stays opaque"
-- (request A4)
unfoldable pub is_hrr : Reading → ℕ → Bool
is_hrr r type = eqb type 3 && eqb r.version 3

-- field n, which the older reading "withholds": "withheld and zeroed"
unfoldable pub shown : Reading → ℕ → List ℕ → ℕ → List ℕ → List ℕ
shown r first ws n b = cond (is_older r) (zeroed first ws n b) b

-- its mark, the document's term for the byte that is "1 where D27 is shown, 0 where withheld and zeroed"
unfoldable pub mark : Reading → ℕ
mark r = cond (is_older r) 0 1

-- "J14 among 91-93, 96, 97, 101-104, 111-113, 120-123"
unfoldable pub is_new_mode : ℕ → Bool
is_new_mode mode =
    between 91 93 mode || between 96 97 mode || between 101 104 mode || between 111 113 mode || between 120 123 mode
