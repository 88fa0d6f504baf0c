-- What was stored at the front of a list is its front.
-- Assumes nothing.
use mathlib.Core.Path.{◌≡◌, sym}
use mathlib.Core.List.{List, append_assoc}
use Prim.Native.Nat.{ℕ, ◌+◌, ◌≤◌}
use lib.ListN.{length, take, drop}
use lib.Seq.{sets, sets-eq, take_at}

pub front-stored : (s l : List ℕ) {n : ℕ} {a : List ℕ} → n ≡ length s → a ≡ sets l 0 s → 0 + length s ≤ length l → take n a ≡ s
front-stored s l {n} {a} e h k = rw (h, sets-eq s l 0 k, append_assoc) (take_at s (drop (0 + length s) l) n (sym e))
