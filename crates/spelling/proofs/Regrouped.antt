-- On records that are complete the regrouped segments are spelt one record at a time.
-- Assumes nothing.
use mathlib.Core.Path.{◌≡◌, refl, sym, ap, ◌∙◌}
use mathlib.Core.Bool.{true, false}
use mathlib.Core.List.{List, [], ◌∷◌, ◌++◌, append_assoc}
use Prim.Native.Nat.{ℕ, ◌+◌, ◌-◌, ◌*◌, ◌<◌}
use native.Mathlib.Nat.{zero-mul}
use native.Mathlib.Omega.{arith}
use borrow.Author.Tests.{eqb-true}
use lib.ListN.{length, length-append}
use Rattle.octets.specs.Octets.{bytes}
use Rattle.octets.proofs.Laws.{length-bytes}
use Rattle.format.specs.Packet.{segment_bytes}
use Rattle.format.specs.Sheet.{Record}
use Rattle.format.specs.Writer.{called_for, is_follower, share, is_complete, type_of, given, given_behind, Regrouped, regroup, segments_bytes}
use Rattle.format.proofs.Records.{AllFormed}
use Rattle.format.proofs.Followers.{follower-regrouped, begins-regrouped}
use Rattle.sheet_walk.specs.InnerShape.{each_takes}
use Rattle.spelling.specs.InnerSpelling.{size_of, added_size, begun, spelt, spelt_all}
use Rattle.spelling.proofs.Followers.{due_of, Follower, First, follows, begins, first, shared}

-- the sum of the sizes of the segments that records begin
unfoldable pub sizes : List Record → ℕ
sizes [] = 0
sizes (r ∷ rs) = added_size r + sizes rs

-- ---- one record before others

-- a follower
module _ (leader r : Record) (rs : List Record) (f : is_follower r ≡ true) where
  pub follower-all : spelt_all leader (r ∷ rs) ≡ given_behind leader r ++ spelt_all leader rs
  unfolding spelt_all spelt
  follower-all = rw f

  pub follower-size : sizes (r ∷ rs) ≡ sizes rs
  unfolding sizes
  follower-size = rw f (omega arith)

-- one that begins a segment
module _ (leader r : Record) (rs : List Record) (f : is_follower r ≡ false) where
  pub begins-all : spelt_all leader (r ∷ rs) ≡ begun r ++ spelt_all r rs
  unfolding spelt_all spelt
  begins-all = rw f

  pub begins-size : sizes (r ∷ rs) ≡ size_of r + sizes rs
  unfolding sizes
  begins-size = rw f

-- how many bytes the segment's header takes with what the record gives
pub begun-length : (r : Record) → length (begun r) ≡ 5 + length (given r)
unfolding begun
begun-length r = omega (arith, length-append (bytes 4 (size_of r)) (given r), length-bytes 4 (size_of r))

size-of : (r : Record) → size_of r ≡ 5 + length (given r) + (called_for r).left * each_takes r
unfolding size_of
size-of r = refl

-- four parts in a row, in two ways
split-anew : (a b c d : List ℕ) → a ++ (b ++ c) ++ d ≡ a ++ b ++ (c ++ d)
split-anew a b c d = simp append_assoc

-- the segment that a record begins, and what is behind it
segment-joined : (r : Record) (x y : List ℕ) → length x ≡ (called_for r).left * each_takes r
    → segment_bytes (record { type = type_of r; body = given r ++ x }) ++ y ≡ begun r ++ (x ++ y)
unfolding segment_bytes begun
segment-joined r x y e =
    let size : 5 + length (given r ++ x) ≡ size_of r = omega (arith, length-append (given r) x, size-of r) in
    ap (λ (n : ℕ). type_of r ∷ (bytes 4 n ++ (given r ++ x)) ++ y) size ∙ ap (λ (z : List ℕ). type_of r ∷ z) (split-anew (bytes 4 (size_of r)) (given r) x y)

-- ---- records that are complete, where so much is left of what their leader calls for

pub record Told (leader : Record) (left : ℕ) (rs : List Record) : Type 0 where
  -- what followers at the front give to the leader's segment
  pub front_length : length (regroup leader rs).front ≡ left * each_takes leader
  -- the regrouped records, spelt, are the records spelt one at a time
  pub bytes-are : (regroup leader rs).front ++ segments_bytes (regroup leader rs).segments ≡ spelt_all leader rs
  -- so many bytes
  pub length_is : length (spelt_all leader rs) ≡ left * each_takes leader + sizes rs

module _ (leader : Record) (left : ℕ) (r : Record) (rs : List Record) where
  behind-follower : 0 < left → Follower leader left r → Told leader (left - share (due_of leader left)) rs → Told leader left (r ∷ rs)
  behind-follower h f i =
      let g = given_behind leader r in
      let n = regroup leader rs in
      let e = follower-regrouped leader r rs f.follows in
      let all = follower-all leader r rs f.follows in
      let parts = shared leader left h in
      record {
        front_length = ap (λ (x : Regrouped). length x.front) e ∙ omega (arith, length-append g n.front, f.takes, i.front_length, parts);
        bytes-are =
            ap (λ (x : Regrouped). x.front ++ segments_bytes x.segments) e
            ∙ append_assoc g n.front (segments_bytes n.segments)
            ∙ ap (λ (x : List ℕ). g ++ x) i.bytes-are
            ∙ sym all;
        length_is = omega (arith, ap length all, length-append g (spelt_all leader rs), f.takes, i.length_is, parts, follower-size leader r rs f.follows);
      }

  behind-leader : left ≡ 0 → is_follower r ≡ false → Told r (called_for r).left rs → Told leader left (r ∷ rs)
  unfolding segments_bytes
  behind-leader z k i =
      let n = regroup r rs in
      let e = begins-regrouped leader r rs k in
      let all = begins-all leader r rs k in
      let none : left * each_takes leader ≡ 0 = ap (λ (m : ℕ). m * each_takes leader) z ∙ zero-mul (each_takes leader) in
      record {
        front_length = ap (λ (x : Regrouped). length x.front) e ∙ sym none;
        bytes-are =
            ap (λ (x : Regrouped). x.front ++ segments_bytes x.segments) e
            ∙ segment-joined r n.front (segments_bytes n.segments) i.front_length
            ∙ ap (λ (x : List ℕ). begun r ++ x) i.bytes-are
            ∙ sym all;
        length_is = omega (arith, ap length all, length-append (begun r) (spelt_all r rs), begun-length r, size-of r, i.length_is, none, begins-size leader r rs k);
      }

pub told : (leader : Record) (left : ℕ) (rs : List Record) → AllFormed rs → is_complete (due_of leader left) rs ≡ true → Told leader left rs
unfolding is_complete regroup segments_bytes spelt_all sizes
told leader left [] f e =
    let none : left * each_takes leader ≡ 0 = ap (λ (m : ℕ). m * each_takes leader) (eqb-true left 0 e) ∙ zero-mul (each_takes leader) in
    record { front_length = sym none; bytes-are = refl; length_is = omega (arith, none) }
told leader left (r ∷ rs) f e = go (first leader left r rs f.0 e) (λ l n. told l n rs f.1)
  where
    go : First leader left r rs → ((l : Record) (n : ℕ) → is_complete (due_of l n) rs ≡ true → Told l n rs) → Told leader left (r ∷ rs)
    go (follows h k c) i = behind-follower leader left r rs h k (i leader _ c)
    go (begins z k c) i = behind-leader leader left r rs z k (i r _ c)
