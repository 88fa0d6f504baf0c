-- The records of a sheet, one after another as code goes through its bytes: what stands at a place, and what is left behind it.
-- Assumes nothing.
use mathlib.Core.Path.{◌≡◌, refl}
use mathlib.Core.Bool.{Bool, true, false, cond, ◌&&◌, and-false}
use mathlib.Core.List.{List, [], ◌∷◌}
use Prim.Native.Nat.{ℕ, zero, suc, ◌+◌, ◌-◌, ◌≤◌, ◌<◌}
use native.Mathlib.Nat.{le_refl, not-suc-le-zero}
use native.Mathlib.Numerals.{add-one}
use native.Mathlib.Omega.{arith}
use borrow.Author.Tests.{lt-ltb, le-leb, lt-leb, ltb-true, leb-true}
use lib.Dec.{ltb, leb}
use lib.ListN.{length, get_or, take, drop, length-drop, drop_of_length-le}
use lib.Seq.{drop-cons, drop-drop, length-take-le}
use Rattle.format.specs.Sheet.{Record, body_length}
use Rattle.format.specs.Writer.{Listed, list, listed}
use Rattle.format.proofs.Records.{AllFormed}

-- any number that is at least the length gives the same records
list-enough : (j k : ℕ) (x : List ℕ) → length x ≤ j → length x ≤ k → list j x ≡ list k x
unfolding list
list-enough zero zero x h g = refl
list-enough zero (suc k) [] h g = refl
list-enough zero (suc k) (y ∷ x) h g = absurd (not-suc-le-zero h)
list-enough (suc j) zero [] h g = refl
list-enough (suc j) zero (y ∷ x) h g = absurd (not-suc-le-zero g)
list-enough (suc j) (suc k) [] h g = refl
list-enough (suc j) (suc k) (y ∷ x) h g =
    let d : length (drop (body_length y) x) ≡ length x - body_length y = length-drop (body_length y) x in
    rw (list-enough j k (drop (body_length y) x) (omega arith) (omega arith))

pub list-is : (k : ℕ) (x : List ℕ) → length x ≤ k → list k x ≡ listed x
list-is k x h = list-enough k (length x) x h (le_refl _)

-- the records of a sheet have the lengths of their kinds
list-formed : (k : ℕ) (x : List ℕ) → AllFormed (list k x).records
unfolding list
list-formed zero x = tt
list-formed (suc k) [] = tt
list-formed (suc k) (kind ∷ x) = go (ltb 0 (body_length kind)) refl (leb (body_length kind) (length x)) refl (list-formed k (drop (body_length kind) x))
  where
    go : (a : Bool) → ltb 0 (body_length kind) ≡ a → (b : Bool) → leb (body_length kind) (length x) ≡ b
        → AllFormed (list k (drop (body_length kind) x)).records
        → AllFormed (cond {A = Listed} (a && b)
        (record { records = record { kind = kind; body = take (body_length kind) x } ∷ (list k (drop (body_length kind) x)).records; whole = (list k (drop (body_length kind) x)).whole })
        (record { records = []; whole = false })).records
    go true p true q f = (record { kind = ltb-true _ _ p; length_is = length-take-le _ x (leb-true _ _ q) }, f)
    go true p false q f = tt
    go false p b q f = tt

pub listed-formed : (x : List ℕ) → AllFormed (listed x).records
listed-formed x = list-formed (length x) x

-- a record before others
abbrev pub before : Record → Listed → Listed
before r rest = record { records = r ∷ rest.records; whole = rest.whole }

-- at a place of x: a record that is whole, and those behind it; one of no kind, or cut, ends them
module _ (x : List ℕ) (at : ℕ) (h : at < length x) where
  pub listed_more : (n : ℕ) → n ≡ body_length (get_or x at 0) → 0 < n → at + 1 + n ≤ length x
      → listed (drop at x) ≡ before (record { kind = get_or x at 0; body = take n (drop (at + 1) x) }) (listed (drop (at + 1 + n) x))
  unfolding list
  listed_more n e p f =
      let d : length (drop (suc at) x) ≡ length x - suc at = length-drop (suc at) x in
      let g : n ≤ length (drop (suc at) x) = omega arith in
      let i : length (drop (suc at + n) x) ≤ length (drop (suc at) x) = omega (arith, length-drop (suc at + n) x) in
      rw (
        add-one at,
        drop-cons x at 0 h,
        ← e,
        lt-ltb 0 n p,
        le-leb n (length (drop (suc at) x)) g,
        drop-drop n (suc at) x,
        list-is (length (drop (suc at) x)) (drop (suc at + n) x) i,
      )

  pub listed-none : body_length (get_or x at 0) ≡ 0 → listed (drop at x) ≡ record { records = []; whole = false }
  unfolding list
  listed-none e = rw (drop-cons x at 0 h, e)

  pub listed-cut : length x - at - 1 < body_length (get_or x at 0) → listed (drop at x) ≡ record { records = []; whole = false }
  unfolding list
  listed-cut e =
      let d : length (drop (suc at) x) ≡ length x - suc at = length-drop (suc at) x in
      let g : length (drop (suc at) x) < body_length (get_or x at 0) = omega arith in
      rw (drop-cons x at 0 h, lt-leb (body_length (get_or x at 0)) (length (drop (suc at) x)) g, and-false)

pub listed-end : (x : List ℕ) (at : ℕ) → length x ≤ at → listed (drop at x) ≡ record { records = []; whole = true }
unfolding list
listed-end x at h = rw (drop_of_length-le x h)
