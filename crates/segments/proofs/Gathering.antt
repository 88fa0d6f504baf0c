-- A turn of the loop that gathers the pairs of D2 and D3 once no row applies: those that are left, stored behind those that are, are all.
-- Assumes nothing.
use Prim.Native.Nat.{ℕ, ◌+◌, ◌*◌, ◌≤◌, ◌<◌}
use native.Mathlib.Numerals.{add-one}
use native.Mathlib.Omega.{arith}
use mathlib.Core.Path.{◌≡◌, refl, sym, ap, ap₂, ◌∙◌}
use mathlib.Core.List.{List, [], ◌∷◌}
use borrow.Author.Tests.{eq-eqb, ne_eqb}
use lib.ListN.{length, get_or, take, drop, set, length-set}
use lib.Seq.{sets, take-append_seam}
use Rattle.octets.specs.Octets.{be}
use Rattle.octets.specs.Layout.{over}
use Rattle.octets.proofs.Layouts.{sets_over}
use Rattle.format.specs.declared.Reading.{Reading}
use Rattle.format.specs.Packet.{type_at, size_at}
use Rattle.segments.specs.InnerWalk.{pair_numbers, most_dwells, CheckedAll, segments_of}
use Rattle.segments.proofs.Walking.{dwelling}
use Rattle.segments.proofs.Turning.{Left, segments_left, all_left, tail, Turn, turn, none-behind}

-- n pairs are stored, each of which took 48 bytes at least; those that are left have their place behind them
pub record Gathered (r : Reading) (l o₀ o : List ℕ) (at n : ℕ) : Type 0 where
  pub left : Left r l at
  pub same : length o ≡ length o₀
  pub few : 48 * n ≤ at
  pub count : n + length (pair_numbers (segments_left left)) ≡ length (pair_numbers (segments_of r l))
  pub rest : sets o n (pair_numbers (segments_left left)) ≡ sets o₀ 0 (pair_numbers (segments_of r l))

module _ (r : Reading) (l o₀ : List ℕ) where
  pub gather-start : CheckedAll r l → Gathered r l o₀ o₀ 0 0
  gather-start c = record { left = all_left r l c; same = refl; few = omega arith; count = omega arith; rest = refl }

  module _ {o : List ℕ} {at n : ℕ} (g : Gathered r l o₀ o at n) where
    module _ (short : length l ≤ 65536) (some : at < length l) (size : ℕ) (z : size ≡ size_at (tail r l at)) where
      here : Turn r l at g.left size
      here = turn r l at g.left short some size z

      -- past a dwell
      pub gather-dwell : (p : ℕ) → get_or (tail r l at) 0 0 ≡ 2 → p ≡ be 4 (drop 13 (tail r l at))
          → {w : List ℕ} {m : ℕ} → w ≡ set o n p → m ≡ n + 1 → Gathered r l o₀ w (at + size) m
      unfolding pair_numbers type_at
      gather-dwell p two e {w} {m} stored further =
          let d = dwelling r (tail r l at) here.rows two in
          let next = pair_numbers (segments_left here.next) in
          let first : pair_numbers (segments_left g.left) ≡ p ∷ next =
          ap pair_numbers here.segments_are ∙ rw (eq-eqb (get_or (tail r l at) 0 0) 2 two) (ap (λ (m : ℕ). m ∷ next) (sym (e ∙ d.number_is))) in
          record {
            left = here.next;
            same = ap length stored ∙ length-set o n p ∙ g.same;
            few = omega (arith, g.few, d.long, z);
            count = omega (arith, g.count, ap length first);
            rest = rw (stored, further, add-one n) (sym (ap (sets o n) first) ∙ g.rest);
          }

      -- past another segment
      pub gather-other : (get_or (tail r l at) 0 0 ≡ 2 → ⊥) → {w : List ℕ} {m : ℕ} → w ≡ o → m ≡ n → Gathered r l o₀ w (at + size) m
      unfolding pair_numbers type_at
      gather-other other {w} {m} kept still =
          let next = pair_numbers (segments_left here.next) in
          let same : pair_numbers (segments_left g.left) ≡ next = ap pair_numbers here.segments_are ∙ rw (ne_eqb (get_or (tail r l at) 0 0) 2 other) in
          record {
            left = here.next;
            same = ap length kept ∙ g.same;
            few = omega (arith, g.few);
            count = omega (arith, g.count, ap length same);
            rest = rw (kept, still) (sym (ap (sets o n) same) ∙ g.rest);
          }

    -- at the end all are stored, and no more than there is room for
    pub gather-end : length l ≤ at → most_dwells l ≤ length o₀ → ((n ≡ length (pair_numbers (segments_of r l))) × (n ≤ length o₀)) × (o ≡ sets o₀ 0 (pair_numbers (segments_of r l)))
    unfolding pair_numbers
    gather-end end room =
        let none : pair_numbers (segments_left g.left) ≡ [] = ap pair_numbers (none-behind r l at g.left end) in (
          (omega (arith, g.count, ap length none), omega (arith, g.few, g.left.within)),
          sym (ap (sets o n) none) ∙ g.rest,
        )

-- they stand at the front of where they were stored
pub stored-front : (x o : List ℕ) {w : List ℕ} {n : ℕ} → w ≡ sets o 0 x → n ≡ length x → length x ≤ length o → take n w ≡ x
unfolding over
stored-front x o stored count room = ap₂ (λ (n : ℕ) (l : List ℕ). take n l) count (stored ∙ sets_over x o room) ∙ take-append_seam x (drop (length x) o)
