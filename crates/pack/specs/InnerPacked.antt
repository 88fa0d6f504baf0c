-- What every function of this crate asks and promises: of the fields n, n + 1, .. of the widths ws, which s has at full widths from p on,
-- the announced ones go to q on in o. Assumes nothing.
use Rattle.std.specs.Prelude.{ℕ, ◌+◌, ◌≤◌, ◌≡◌, List, length, drop}
use Rattle.std.proofs.lemmas.List.Edits.{sets}
use Rattle.octets.specs.Layout.{total}
use Rattle.mask.specs.Fields.{announced_length, announced_fields}
use Rattle.unpack.specs.declared.Cursor.{Cursor}

-- s has all the fields, and l has room for the announced ones
pub record Packable (mask n : ℕ) (ws s : List ℕ) (p : ℕ) (l : List ℕ) (q : ℕ) : Type 0 where
  pub held : p + total ws ≤ length s
  pub room : q + announced_length mask n ws ≤ length l

-- the announced ones were stored: the next field goes to r, and l has become a
pub record Packed (mask n : ℕ) (ws s : List ℕ) (p : ℕ) (l : List ℕ) (q r : ℕ) (a : List ℕ) : Type 0 where
  pub next : r ≡ q + announced_length mask n ws
  pub stored : a ≡ sets l q (announced_fields mask n ws (drop p s))

-- ---- by a cursor

-- s has all the fields, and o has room for the announced ones
pub record PackableFor (n : ℕ) (ws : List ℕ) (u : Cursor) : Type 0 where
  pub held : u.p + total ws ≤ length u.s.now
  pub room : u.q + announced_length u.mask n ws ≤ length u.o.now

-- the announced ones were stored
pub record PackedBy (n : ℕ) (ws : List ℕ) (u v : Cursor) : Type 0 where
  pub next : v.p ≡ u.p + total ws
  pub behind : v.q ≡ u.q + announced_length u.mask n ws
  pub stored : v.o.now ≡ sets u.o.now u.q (announced_fields u.mask n ws (drop u.p u.s.now))
  pub long : length v.o.now ≡ length u.o.now
  pub given : v.s.now ≡ u.s.now
  pub masked : v.mask ≡ u.mask
  pub lent : v.o.ghost_name ≡ u.o.ghost_name
