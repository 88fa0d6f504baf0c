-- Lists that are made of lists of bytes are bytes.
-- Assumes nothing.
use Prim.Native.Nat.{ℕ, zero, suc, ◌+◌, ◌/◌, ◌%◌, ◌<◌}
use native.Mathlib.Omega.{arith}
use mathlib.Core.List.{List, [], ◌∷◌, ◌++◌}
use lib.Dec.{lit<}
use lib.ListN.{take, drop}
use lib.Seq.{get_or-drop}
use Rattle.octets.specs.Octets.{bytes, Bytes}
use Rattle.octets.specs.Layout.{pad}

-- none
pub nil-bytes : Bytes []
nil-bytes i = lit< tt

-- one more
pub cons-bytes : (x : ℕ) (s : List ℕ) → x < 256 → Bytes s → Bytes (x ∷ s)
cons-bytes x s h b zero = h
cons-bytes x s h b (suc i) = b i

-- two lists in a row
pub append-bytes : (s t : List ℕ) → Bytes s → Bytes t → Bytes (s ++ t)
append-bytes [] t a b = b
append-bytes (x ∷ s) t a b = cons-bytes x (s ++ t) (a 0) (append-bytes s t (λ i. a (suc i)) b)

-- the front
pub take-bytes : (n : ℕ) (s : List ℕ) → Bytes s → Bytes (take n s)
take-bytes zero s b = nil-bytes
take-bytes (suc n) [] b = nil-bytes
take-bytes (suc n) (x ∷ s) b = cons-bytes x (take n s) (b 0) (take-bytes n s (λ i. b (suc i)))

-- the rest
pub drop-bytes : (n : ℕ) (s : List ℕ) → Bytes s → Bytes (drop n s)
drop-bytes n s b i = rw get_or-drop (b (n + i))

-- those that spell a number
pub number-bytes : (k n : ℕ) → Bytes (bytes k n)
unfolding bytes
number-bytes zero n = nil-bytes
number-bytes (suc k) n = append-bytes (bytes k (n / 256)) (n % 256 ∷ []) (number-bytes k (n / 256)) (cons-bytes (n % 256) [] (omega arith) nil-bytes)

-- those that are cut, or filled with zeros
pub pad-bytes : (w : ℕ) (b : List ℕ) → Bytes b → Bytes (pad w b)
unfolding pad
pad-bytes zero b h = nil-bytes
pad-bytes (suc w) [] h = cons-bytes 0 (pad w []) (lit< tt) (pad-bytes w [] nil-bytes)
pad-bytes (suc w) (x ∷ b) h = cons-bytes x (pad w b) (h 0) (pad-bytes w b (λ i. h (suc i)))
