-- Records of one kind in a row: what each begins with, and each of them as a record of the sheet.
-- Assumes nothing.
use mathlib.Core.Path.{◌≡◌, refl, sym, ap, ◌∙◌}
use mathlib.Core.Logic.{◌⊎◌, inl, inr}
use mathlib.Core.Bool.{Bool, true, false, ◌&&◌, cond, true≢false}
use mathlib.Core.List.{List}
use Prim.Native.Nat.{ℕ, suc, ◌+◌, ◌-◌, ◌*◌, ◌≤◌, ◌<◌}
use native.Mathlib.Nat.{eq-or-lt_of_le, add-mul, zero-mul}
use native.Mathlib.Omega.{arith}
use lib.Dec.{ltb, eqb}
use borrow.Author.Tests.{lt-ltb, le-leb, ltb-true, ltb-false, eqb-true}
use lib.ListN.{length, get_or, drop, length-drop}
use lib.Seq.{get_or-drop, drop-drop}
use Rattle.format.specs.Sheet.{body_length}
use Rattle.format.specs.Lengths.{record_length}
use Rattle.format.proofs.Rows.{both}
use Rattle.sheet_walk.specs.declared.Place.TheVariants.{Whole}
use Rattle.sheet_walk.specs.InnerShape.{place_at, is_begun_at, BeginsWith, Tells}
use Rattle.sheet_walk.proofs.Places.{WholeAt, at_place}

module _ (kind : ℕ) where
  -- the bytes of each
  abbrev w : ℕ
  w = record_length kind

  -- none
  pub none : (x : List ℕ) → BeginsWith kind 0 x
  none x = record { long = omega (arith, zero-mul w); each = λ i h. absurd (omega arith) }

  -- with one more
  pub one_more : (x : List ℕ) (n at : ℕ) → at ≡ n * w → ((i : ℕ) → i < n → is_begun_at kind x (i * w) ≡ true) → is_begun_at kind x at ≡ true
      → (i : ℕ) → i < n + 1 → is_begun_at kind x (i * w) ≡ true
  one_more x n at e before k i h = go (eq-or-lt_of_le h)
    where
      go : (suc i ≡ n + 1) ⊎ (suc i < n + 1) → is_begun_at kind x (i * w) ≡ true
      go (inl s) =
          let here : i ≡ n = omega arith in
          ap (is_begun_at kind x) (ap (λ (m : ℕ). m * w) here ∙ sym e) ∙ k
      go (inr l) = before i (omega arith)

  -- the test at a place behind others
  behind : (x : List ℕ) (a at : ℕ) → is_begun_at kind (drop a x) at ≡ is_begun_at kind x (a + at)
  behind x a at =
      let e : a + (at + 1) ≡ a + at + 1 = omega arith in
      rw (get_or-drop, get_or-drop, e)

  -- some and more behind them are one row, and one row is both parts of it
  module _ (a b : ℕ) (x : List ℕ) where
    pub joined : BeginsWith kind a x → BeginsWith kind b (drop (a * w) x) → BeginsWith kind (a + b) x
    joined f g =
        record {
          long = omega (arith, f.long, g.long, length-drop (a * w) x, add-mul a b w);
          each = λ i h. go i h (ltb i a) refl;
        }
      where
        go : (i : ℕ) → i < a + b → (t : Bool) → ltb i a ≡ t → is_begun_at kind x (i * w) ≡ true
        go i h true e = f.each i (ltb-true i a e)
        go i h false e =
            let within = ltb-false i a e in
            let all : a + (i - a) ≡ i = omega arith in
            let place : a * w + (i - a) * w ≡ i * w = sym (add-mul a (i - a) w) ∙ ap (λ (m : ℕ). m * w) all in
            ap (is_begun_at kind x) (sym place) ∙ sym (behind x (a * w) ((i - a) * w)) ∙ g.each (i - a) (omega arith)

    pub parted : BeginsWith kind (a + b) x → BeginsWith kind a x × BeginsWith kind b (drop (a * w) x)
    parted f = (
      record { long = omega (arith, f.long, add-mul a b w); each = λ i h. f.each i (omega arith) },
      record {
        long = omega (arith, f.long, length-drop (a * w) x, add-mul a b w);
        each = λ i h. behind x (a * w) (i * w) ∙ ap (is_begun_at kind x) (sym (add-mul a i w)) ∙ f.each (a + i) (omega arith);
      },
    )

  -- an answer for one more: as it was where that was false, and otherwise by what the next begins with
  pub one_told : (x : List ℕ) (n at : ℕ) {r s : Bool} → at ≡ n * w → at + w ≤ length x → Tells r kind n x
      → ((r ≡ true) × (s ≡ is_begun_at kind x at)) ⊎ ((r ≡ false) × (s ≡ r)) → Tells s kind (n + 1) x
  one_told x n at e f t (inl (so, k)) = (
    λ h. record { long = omega (arith, add-mul n 1 w); each = one_more x n at e (t.0 so).each (sym k ∙ h) },
    λ b. k ∙ ap (is_begun_at kind x) e ∙ b.each n (omega arith),
  )
  one_told x n at e f t (inr (so, k)) = (
    λ h. absurd (true≢false (sym h ∙ k ∙ so)),
    λ b. absurd (true≢false (sym (t.1 (parted n 1 x b).0) ∙ so)),
  )

  module _ (x : List ℕ) (known : 0 < body_length kind) where
    -- what each begins with has the kind
    kind_at : (at : ℕ) → is_begun_at kind x at ≡ true → get_or x at 0 ≡ kind
    kind_at at e = go (eqb kind 6) refl e
      where
        go : (t : Bool) → eqb kind 6 ≡ t → cond t (eqb (get_or x at 0) 6 && eqb (get_or x (at + 1) 0) 32) (eqb (get_or x at 0) kind) ≡ true → get_or x at 0 ≡ kind
        go true k h = eqb-true _ _ (both _ _ h).0 ∙ sym (eqb-true _ _ k)
        go false k h = eqb-true _ _ h

    -- one at a place
    whole-at : (at : ℕ) → is_begun_at kind x at ≡ true → at + w ≤ length x → WholeAt x at kind (at + w)
    unfolding place_at body_length
    whole-at at k f =
        let end : at + 1 + body_length kind ≡ at + w = omega arith in
        at_place x at {q = Whole kind (at + w)} refl (rw (lt-ltb at (length x) (omega arith), kind_at at k, lt-ltb 0 (body_length kind) known, le-leb (body_length kind) (length x - at - 1) (omega arith), end))

    -- the first of some, and the others
    pub first_of : (n at : ℕ) → at ≤ length x → BeginsWith kind (suc n) (drop at x)
        → (is_begun_at kind x at ≡ true) × WholeAt x at kind (at + w) × BeginsWith kind n (drop (at + w) x)
    first_of n at within b =
        let long = length-drop at x in
        let first : at + 0 * w ≡ at = omega (arith, zero-mul w) in
        let here : is_begun_at kind x at ≡ true = ap (is_begun_at kind x) (sym first) ∙ sym (behind x at (0 * w)) ∙ b.each 0 (omega arith) in
        let all : suc n ≡ 1 + n = omega arith in
        let two = parted 1 n (drop at x) (rw all at b) in
        let one : at + 1 * w ≡ at + w = omega arith in
        (here, whole-at at here (omega (arith, two.0.long)), rw one at (rw drop-drop at two.1))
