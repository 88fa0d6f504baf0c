-- The loops over targets: where each stands, and what a turn does to the rows that are left.
-- Assumes nothing.
use mathlib.Core.Path.{◌≡◌, sym, ap, ◌∙◌}
use mathlib.Core.List.{List}
use Prim.Native.Nat.{ℕ, suc, ◌+◌, ◌-◌, ◌*◌, ◌≤◌, ◌<◌}
use native.Mathlib.Nat.{mul-le-mul_right, suc-mul}
use native.Mathlib.Numerals.{add-one}
use native.Mathlib.Omega.{arith}
use lib.ListN.{length, drop}
use lib.Seq.{drop-drop}
use borrow.Rule.Slice.PartMut.{mid_of}
use Rattle.octets.proofs.Parts.{tail-is}
use Rattle.format.specs.declared.Area.{Area}
use Rattle.format.specs.Check.{Check, Passed, Failed}
use Rattle.format.specs.Dwell.{target_length}
use Rattle.format.specs.Rows.{first_row, target_rows, targets_rows}
use Rattle.format.proofs.Rows.{or_else, first-append}

-- the one after the ith of n things of u bytes begins u bytes later
pub next_place : (i u : ℕ) → (i + 1) * u ≡ i * u + u
next_place i u = rw (add-one, suc-mul)

-- and the ith lies within all of them
pub room : (i n u l : ℕ) → i < n → n * u ≤ l → i * u + u ≤ l
room i n u l h k = omega (arith, mul-le-mul_right {m = suc i} {n = n} u h, suc-mul i u)

-- at the target at `at`, with k targets behind it: f is what its own rows say, and x what the rows of all that are left say
module _ (mask each : ℕ) (area : Area) (t : List ℕ) (at k m : ℕ) {x f : Check} (he : each ≡ target_length mask) (hm : m ≡ suc k)
    (hf : f ≡ first_row (target_rows mask area (mid_of at (length t - at) t))) (hx : first_row (targets_rows mask area m (drop at t)) ≡ x) where
  abbrev later : Check
  later = first_row (targets_rows mask area k (drop (at + each) t))

  here : or_else f later ≡ x
  unfolding targets_rows
  here =
      ap (λ (c : Check). or_else c later) (hf ∙ ap (λ (l : List ℕ). first_row (target_rows mask area l)) (tail-is at t))
      ∙ ap (λ (l : List ℕ). or_else (first_row (target_rows mask area (drop at t))) (first_row (targets_rows mask area k l))) (sym (drop-drop each at t) ∙ ap (λ (n : ℕ). drop n (drop at t)) he)
      ∙ sym (first-append (target_rows mask area (drop at t)) (targets_rows mask area k (drop (target_length mask) (drop at t))))
      ∙ ap (λ (n : ℕ). first_row (targets_rows mask area n (drop at t))) (sym hm) ∙ hx

  pub fault-found : (number field : ℕ) → f ≡ Failed number field → Failed number field ≡ x
  fault-found number field e = sym (ap (λ (c : Check). or_else c later) e) ∙ here

  pub fault-later : f ≡ Passed → first_row (targets_rows mask area k (drop (at + each) t)) ≡ x
  fault-later e = sym (ap (λ (c : Check). or_else c later) e) ∙ here

-- no targets have no rows
pub rows_end : (mask : ℕ) (area : Area) (n : ℕ) (t : List ℕ) → n ≡ 0 → first_row (targets_rows mask area n t) ≡ Passed
unfolding first_row targets_rows
rows_end mask area n t e = ap (λ (k : ℕ). first_row (targets_rows mask area k t)) e
