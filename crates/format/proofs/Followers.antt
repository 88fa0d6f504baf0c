-- Records that begin a segment and their followers, one at a time: what may stand first where so much is due, and what each gives.
-- Assumes nothing.
use Prim.Native.Nat.{ℕ, ◌-◌, ◌≤◌, ◌<◌}
use native.Mathlib.Omega.{arith}
use mathlib.Core.Path.{◌≡◌, refl}
use mathlib.Core.Bool.{Bool, true, false, not, ◌&&◌, cond}
use mathlib.Core.List.{List, [], ◌∷◌, ◌++◌}
use borrow.Author.Tests.{lt-ltb, eq-eqb, ltb-true, ltb-false, eqb-true, not-true}
use lib.Dec.{ltb, eqb}
use Rattle.format.specs.Sheet.{Record}
use Rattle.format.specs.Writer.{Due, due, called_for, is_follower, share, carried, is_complete, type_of, given, given_behind, regroup}
use Rattle.format.proofs.Rows.{both}

-- ---- row 18

-- what may stand first where so much is due: a follower with its share, or, where nothing is left, a record that begins a segment
pub data First (d : Due) (r : Record) (rs : List Record) : Type 0 where
  follows : 0 < d.left → r.kind ≡ d.kind → carried r ≡ share d → is_complete (due d.kind (d.left - share d)) rs ≡ true → First d r rs
  begins : d.left ≡ 0 → is_follower r ≡ false → is_complete (called_for r) rs ≡ true → First d r rs

module _ {d : Due} {r : Record} {rs : List Record} where
  -- such records are complete
  pub complete : First d r rs → is_complete d (r ∷ rs) ≡ true
  unfolding is_complete
  complete (follows h k c e) = rw (lt-ltb 0 d.left h, eq-eqb r.kind d.kind k, eq-eqb (carried r) (share d) c, e)
  complete (begins h f e) = rw (h, f, e)

  -- and no others
  pub first : is_complete d (r ∷ rs) ≡ true → First d r rs
  unfolding is_complete
  first e = go (ltb 0 d.left) refl e
    where
      go : (t : Bool) → ltb 0 d.left ≡ t
          → cond t
          (eqb r.kind d.kind && eqb (carried r) (share d) && is_complete (due d.kind (d.left - share d)) rs)
          (not (is_follower r) && is_complete (called_for r) rs) ≡ true
          → First d r rs
      go true h e =
          let rest = both _ (is_complete (due d.kind (d.left - share d)) rs) e in
          let here = both (eqb r.kind d.kind) _ rest.0 in
          follows (ltb-true _ _ h) (eqb-true _ _ here.0) (eqb-true _ _ here.1) rest.1
      go false h e =
          let rest = both (not (is_follower r)) _ e in
          let n : d.left ≤ 0 = ltb-false _ _ h in
          begins (omega arith) (not-true _ rest.0) rest.1

-- where nothing is left, it does not matter of what
pub none_left : (kind : ℕ) (rs : List Record) → is_complete (due 0 0) rs ≡ true → is_complete (due kind 0) rs ≡ true
unfolding is_complete
none_left kind [] c = refl
none_left kind (r ∷ rs) c = c

-- ---- the segments that records give

module _ (leader r : Record) (rs : List Record) where
  -- a follower's bytes go before those of the followers behind it
  pub follower-regrouped : is_follower r ≡ true
      → regroup leader (r ∷ rs) ≡ record { front = given_behind leader r ++ (regroup leader rs).front; segments = (regroup leader rs).segments }
  unfolding regroup
  follower-regrouped f = rw f

  -- every other record begins a segment, with the bytes of the followers behind it
  pub begins-regrouped : is_follower r ≡ false
      → regroup leader (r ∷ rs) ≡ record { front = []; segments = record { type = type_of r; body = given r ++ (regroup r rs).front } ∷ (regroup r rs).segments }
  unfolding regroup
  begins-regrouped f = rw f
