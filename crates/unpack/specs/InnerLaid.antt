-- What every function of announced fields asks and does: the fields n, n + 1, .. of the widths ws, from p on in s, are laid out at their
-- full widths from q on in l, or by a cursor from its p on in its s, to its q on in its o.
-- Assumes nothing.
use Rattle.std.specs.Prelude.{ℕ, ◌+◌, ◌≤◌, ◌≡◌, List, [], length, take, drop}
use Rattle.std.proofs.lemmas.List.Edits.{sets}
use Rattle.octets.specs.Layout.{total, pad}
use Rattle.mask.specs.Fields.{announced_length, full_fields}
use Rattle.unpack.specs.declared.Cursor.{Cursor}

-- s has the announced ones, and l has room for all
pub record Room (mask n : ℕ) (ws s : List ℕ) (p : ℕ) (l : List ℕ) (q : ℕ) : Type 0 where
  pub held : p + announced_length mask n ws ≤ length s
  pub room : q + total ws ≤ length l

-- they are laid out: the next field begins at r in s, and l has become a
pub record Laid (mask n : ℕ) (ws s : List ℕ) (p : ℕ) (l : List ℕ) (q r : ℕ) (a : List ℕ) : Type 0 where
  pub next : r ≡ p + announced_length mask n ws
  pub stored : a ≡ sets l q (full_fields mask n ws (drop p s))

-- l has k zeros from q on
pub record Clear (k : ℕ) (l : List ℕ) (q : ℕ) : Type 0 where
  pub zeros : take k (drop q l) ≡ pad k []

-- ---- by a cursor

-- s has the announced ones, and o has room for all
pub record RoomFor (n : ℕ) (ws : List ℕ) (u : Cursor) : Type 0 where
  pub held : u.p + announced_length u.mask n ws ≤ length u.s.now
  pub room : u.q + total ws ≤ length u.o.now

-- what the next fields find: past i bytes of s and k of o, which has become l, and all else as it was
pub record Stored (i k : ℕ) (l : List ℕ) (u v : Cursor) : Type 0 where
  pub next : v.p ≡ u.p + i
  pub behind : v.q ≡ u.q + k
  pub stored : v.o.now ≡ l
  pub long : length v.o.now ≡ length u.o.now
  pub given : v.s.now ≡ u.s.now
  pub masked : v.mask ≡ u.mask
  pub lent : v.o.ghost_name ≡ u.o.ghost_name

-- the fields are laid out
pub record Moved (n : ℕ) (ws : List ℕ) (u v : Cursor) : Type 0 where
  pub next : v.p ≡ u.p + announced_length u.mask n ws
  pub behind : v.q ≡ u.q + total ws
  pub stored : v.o.now ≡ sets u.o.now u.q (full_fields u.mask n ws (drop u.p u.s.now))
  pub long : length v.o.now ≡ length u.o.now
  pub given : v.s.now ≡ u.s.now
  pub masked : v.mask ≡ u.mask
  pub lent : v.o.ghost_name ≡ u.o.ghost_name
