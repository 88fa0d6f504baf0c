-- What stands behind a record that begins a segment: one law for followers whatever their kind.
-- Assumes nothing.
use mathlib.Core.Path.{◌≡◌, refl, sym, ap, ◌∙◌}
use mathlib.Core.Bool.{Bool, true, false, cond}
use mathlib.Core.List.{List, ◌∷◌}
use Prim.Native.Nat.{ℕ, ◌+◌, ◌-◌, ◌*◌, ◌≤◌, ◌<◌, min}
use native.Mathlib.Nat.{add-mul}
use native.Mathlib.Omega.{arith}
use borrow.Author.Tests.{eqb-true}
use lib.Dec.{eqb}
use lib.ListN.{length, get_or, drop, length-drop}
use lib.Seq.{length-take-le}
use Rattle.octets.specs.Octets.{be}
use Rattle.octets.specs.Layout.{total}
use Rattle.mask.specs.Fields.{target_widths, d32}
use Rattle.mask.proofs.FullWidth.{length-announced}
use Rattle.format.specs.Dwell.{target_length}
use Rattle.format.specs.Sheet.{Record, body_length}
use Rattle.format.specs.Writer.{Due, due, called_for, is_follower, share, carried, is_complete, given_behind}
use Rattle.format.proofs.Records.{Formed}
use Rattle.format.proofs.Followers as complete
use Rattle.sheet_walk.specs.InnerShape.{each_takes}
use Rattle.pack_hrr.proofs.Narrowed.{length-narrowed}
use Rattle.spelling.proofs.Narrow.{widths_behind, behind-narrow, scatterer-narrowed}

-- what is due where a record began the segment and so much of what it calls for is left
abbrev pub due_of : Record → ℕ → Due
due_of leader left = due (called_for leader).kind left

-- a record calls for targets, for pieces, for scatterers, or for nothing
pub by_call : (P : Due → Type 0) (r : Record) → (r.kind ≡ 3 → (n : ℕ) → P (due 4 n)) → ((n : ℕ) → P (due 6 n)) → (r.kind ≡ 11 → (n : ℕ) → P (due 12 n)) → P (due 0 0)
    → P (called_for r)
unfolding called_for
by_call P r targets pieces scatterers none =
    go (eqb r.kind 3) (eqb r.kind 5) (eqb r.kind 7) (eqb r.kind 11) refl refl _ _ _ _
  where
    go : (a b c d : Bool) → eqb r.kind 3 ≡ a → eqb r.kind 11 ≡ d → (l m n k : ℕ)
        → P (cond {A = Due} a (due 4 l) (cond b (due 6 m) (cond c (due 6 n) (cond d (due 12 k) (due 0 0)))))
    go true b c d e f l m n k = targets (eqb-true _ _ e) l
    go false true c d e f l m n k = pieces m
    go false false true d e f l m n k = pieces n
    go false false false true e f l m n k = scatterers (eqb-true _ _ f) k
    go false false false false e f l m n k = none

-- what is known of a record that is due behind a leader
pub record Follower (leader : Record) (left : ℕ) (r : Record) : Type 0 where
  pub follows : is_follower r ≡ true
  pub takes : length (given_behind leader r) ≡ share (due_of leader left) * each_takes leader
  pub led : r.kind ≡ 4 → leader.kind ≡ 3
  pub count : r.kind ≡ 6 → get_or r.body 0 0 ≤ 32
  pub scattered : r.kind ≡ 12 → leader.kind ≡ 11

module _ (leader : Record) (left : ℕ) (r : Record) (f : Formed r) where
  -- the same by the kind that is due
  abbrev Due-kind : ℕ → Type 0
  Due-kind k =
      r.kind ≡ k → carried r ≡ share (due k left)
      → (is_follower r ≡ true)
      × (length (given_behind leader r) ≡ share (due k left) * cond (eqb k 4) (target_length (be 8 leader.body)) (cond (eqb k 12) (total (widths_behind leader)) 1))
      × (r.kind ≡ 4 → leader.kind ≡ 3)
      × (r.kind ≡ 6 → get_or r.body 0 0 ≤ 32)
      × (r.kind ≡ 12 → leader.kind ≡ 11)

  target : leader.kind ≡ 3 → Due-kind 4
  unfolding given_behind body_length total
  target l e c =
      let n : length r.body ≡ body_length 4 = f.length_is ∙ ap body_length e in
      (rw e, rw e (length-announced (be 8 leader.body) (d32 1) target_widths r.body (omega arith) ∙ omega arith), λ _. l, λ m. absurd (omega (arith, e, m)), λ m. absurd (omega (arith, e, m)))

  piece : Due-kind 6
  unfolding given_behind body_length
  piece e c =
      let n : length r.body ≡ body_length 6 = f.length_is ∙ ap body_length e in
      let k : get_or r.body 0 0 ≡ min 32 left = rw e at c in
      (rw e, rw e (length-take-le (get_or r.body 0 0) (drop 1 r.body) (rw length-drop (omega arith)) ∙ omega (arith, k)), λ m. absurd (omega (arith, e, m)), λ _. omega arith, λ m. absurd (omega (arith, e, m)))

  scatterer : leader.kind ≡ 11 → Due-kind 12
  unfolding body_length
  scatterer l e c =
      let n : length r.body ≡ body_length 12 = f.length_is ∙ ap body_length e in
      let long = length-narrowed (widths_behind leader) r.body (behind-narrow leader) (omega arith) in
      (rw e, ap length (scatterer-narrowed leader r e) ∙ long ∙ omega arith, λ m. absurd (omega (arith, e, m)), λ m. absurd (omega (arith, e, m)), λ _. l)

  none : Due-kind 0
  unfolding body_length
  none e c = absurd (omega (arith, f.kind, ap body_length e))

  follower : r.kind ≡ (called_for leader).kind → carried r ≡ share (due_of leader left) → Follower leader left r
  unfolding each_takes
  follower e c =
      let k = by_call (λ (d : Due). Due-kind d.kind) leader (λ l _. target l) (λ _. piece) (λ l _. scatterer l) none e c in
      record { follows = k.0; takes = k.1; led = k.2; count = k.3; scattered = k.4 }

-- ---- complete records, one at a time

-- what may stand first where so much is left: the follower that is due, or a record that begins a segment
pub data First (leader : Record) (left : ℕ) (r : Record) (rs : List Record) : Type 0 where
  follows : 0 < left → Follower leader left r → is_complete (due_of leader (left - share (due_of leader left))) rs ≡ true → First leader left r rs
  begins : left ≡ 0 → is_follower r ≡ false → is_complete (called_for r) rs ≡ true → First leader left r rs

pub first : (leader : Record) (left : ℕ) (r : Record) (rs : List Record) → Formed r → is_complete (due_of leader left) (r ∷ rs) ≡ true → First leader left r rs
first leader left r rs f e = go (complete.first e)
  where
    go : complete.First (due_of leader left) r rs → First leader left r rs
    go (complete.follows h k c e) = follows h (follower leader left r f k c) e
    go (complete.begins h b e) = begins h b e

-- no follower has more than is left
pub share-le : (d : Due) → 0 < d.left → share d ≤ d.left
share-le d h = go (eqb d.kind 6)
  where
    go : (b : Bool) → cond b (min 32 d.left) 1 ≤ d.left
    go true = omega arith
    go false = omega arith

-- what the one takes, and what the others do
pub shared : (leader : Record) (left : ℕ) → 0 < left
    → share (due_of leader left) * each_takes leader + (left - share (due_of leader left)) * each_takes leader ≡ left * each_takes leader
shared leader left h =
    let n = share (due_of leader left) in
    let e : n + (left - n) ≡ left = omega (arith, share-le (due_of leader left) h) in
    sym (add-mul n (left - n) (each_takes leader)) ∙ ap (λ (m : ℕ). m * each_takes leader) e
