-- Laws of the first row that applies.
-- Assumes nothing.
use Prim.Native.Nat.{ℕ, ◌≤◌}
use native.Mathlib.Omega.{arith}
use mathlib.Core.Path.{◌≡◌, refl, sym, ap, ◌∙◌, subst}
use Rattle.std.specs.Prelude.{Result, Ok, Err}
use Rattle.std.specs.Result.{IsErrAnd, MatchResult, is_ok, result_unwrap_or}
use Rattle.std.proofs.lemmas.Result.{err_from_is_err_and}
use Rattle.format.specs.declared.Fault.{Fault}
use mathlib.Core.Bool.{Bool, true, false, cond, ◌&&◌, ◌||◌, true≢false}
use mathlib.Core.List.{List, [], ◌∷◌, ◌++◌}
use borrow.Author.Tests.{ltb-false, not-false}
use lib.ListN.{length}
use Rattle.format.specs.declared.Reading.{Reading}
use Rattle.format.specs.Check.{Check, Passed, Failed, check_of}
use Rattle.format.specs.Packet.{type_at, size_at, body_at, is_known}
use Rattle.format.specs.Rows.{Row, first_row, segment_rows, body_rows}

-- a check does not both pass and fail
pub passed-not-failed : {A : Type 0} (number field : ℕ) → Passed ≡ Failed number field → A
passed-not-failed number field e = let z : ◌≡◌ {A = ℕ} 0 1 = cc in absurd (omega arith)

-- where no row of a list applies, its first does not, and none of the others does
pub first_passes : (r : Row) (rs : List Row) → first_row (r ∷ rs) ≡ Passed → (r.applies ≡ false) × (first_row rs ≡ Passed)
unfolding first_row
first_passes r rs e = go r.applies refl e
  where
    go : (b : Bool) → r.applies ≡ b → cond b (Failed r.number r.field) (first_row rs) ≡ Passed → (r.applies ≡ false) × (first_row rs ≡ Passed)
    go true h e = passed-not-failed r.number r.field (sym e)
    go false h e = (h, e)

-- and the other way: a row that does not apply leaves it to the others, and no row applies where there is none
pub row-passes : (r : Row) (rs : List Row) → r.applies ≡ false → first_row rs ≡ Passed → first_row (r ∷ rs) ≡ Passed
unfolding first_row
row-passes r rs h e = rw h e

pub no_row : first_row [] ≡ Passed
unfolding first_row
no_row = refl

-- the rows of two lists, one after the other
abbrev pub or_else : Check → Check → Check
or_else Passed c = c
or_else (Failed number field) c = Failed number field

pub first-append : (rs qs : List Row) → first_row (rs ++ qs) ≡ or_else (first_row rs) (first_row qs)
unfolding first_row
first-append [] qs = refl
first-append (r ∷ rs) qs = go r.applies (first-append rs qs)
  where
    go : (b : Bool) → first_row (rs ++ qs) ≡ or_else (first_row rs) (first_row qs)
        → cond b (Failed r.number r.field) (first_row (rs ++ qs)) ≡ or_else (cond b (Failed r.number r.field) (first_row rs)) (first_row qs)
    go true h = refl
    go false h = h

-- where no row of the two lists applies, none of either does
pub both-pass : (rs qs : List Row) → first_row (rs ++ qs) ≡ Passed → (first_row rs ≡ Passed) × (first_row qs ≡ Passed)
both-pass rs qs e = go (first_row rs) refl (sym (first-append rs qs) ∙ e)
  where
    go : (c : Check) → first_row rs ≡ c → or_else c (first_row qs) ≡ Passed → (first_row rs ≡ Passed) × (first_row qs ≡ Passed)
    go Passed h e = (h, e)
    go (Failed number field) h e = passed-not-failed number field (sym e)

-- where no row of the first list applies, those of the second decide; and one that does is the first of both
pub rows-passed : (rs qs : List Row) → Passed ≡ first_row rs → first_row (rs ++ qs) ≡ first_row qs
rows-passed rs qs e = first-append rs qs ∙ ap (λ (c : Check). or_else c (first_row qs)) (sym e)

pub rows-failed : (rs qs : List Row) {number field : ℕ} → Failed number field ≡ first_row rs → Failed number field ≡ first_row (rs ++ qs)
rows-failed rs qs e = sym (first-append rs qs ∙ ap (λ (c : Check). or_else c (first_row qs)) (sym e))

-- what `?` hands on is the fault that was found
pub handed-on : (r : Result (Unit {0}) Fault) {f : Fault} → IsErrAnd r (λ e. e ≡ f) → check_of r ≡ Failed f.number f.field
handed-on r e = let (x, q, h) = err_from_is_err_and r e in ap check_of (q ∙ ap Err h)

-- what `map_err` leaves as it was, and what it makes of an error
module _ {T E D : Type 0} (Q : E → D → Type 0) where
  abbrev pub Mapped : Result T E → Result T D → Type 0
  Mapped r s = MatchResult r (λ x. s ≡ Ok x) (λ e. IsErrAnd s (Q e))

  pub mapped-ok : (r : Result T E) (s : Result T D) (x : T) → Mapped r s → s ≡ Ok x → r ≡ Ok x
  mapped-ok (Ok y) s x h e = ap Ok (ap (λ (t : Result T D). result_unwrap_or t y) (sym h ∙ e))
  mapped-ok (Err y) s x h e = absurd (subst (λ (t : Result T D). IsErrAnd t (Q y)) e h)

  pub mapped-err : (r : Result T E) (s : Result T D) (d : D) → Mapped r s → s ≡ Err d → (e : E) × (r ≡ Err e) × Q e d
  mapped-err (Ok y) s d h e = absurd (true≢false (ap is_ok (sym h ∙ e)))
  mapped-err (Err y) s d h e = (y, refl, subst (λ (t : Result T D). IsErrAnd t (Q y)) e h)

-- what holds of two things holds of the one that a test picks
pub either : {A : Type 0} (P : A → Type 0) (t : Bool) {x y : A} → P x → P y → P (cond t x y)
either P true h k = h
either P false h k = k

-- where "the one or the other" is false, both are
pub neither : (a b : Bool) → (a || b) ≡ false → (a ≡ false) × (b ≡ false)
neither true b e = absurd (true≢false e)
neither false b e = (refl, e)

-- where two tests hold, each does
pub both : (a b : Bool) → (a && b) ≡ true → (a ≡ true) × (b ≡ true)
both true b e = (refl, e)
both false b e = absurd (true≢false (sym e))

-- what is known of a segment to which no row applies: a type, a size within what is left, and the rows of its body
pub record Segmented (r : Reading) (l : List ℕ) : Type 0 where
  pub known : is_known (type_at l) ≡ true
  pub header : 5 ≤ size_at l
  pub within : size_at l ≤ length l
  pub body : first_row (body_rows r (type_at l) (body_at l)) ≡ Passed

pub segment-passes : (r : Reading) (l : List ℕ) → first_row (segment_rows r l) ≡ Passed → Segmented r l
unfolding segment_rows
segment-passes r l e =
    let six = first_passes _ _ e in
    let seven = first_passes _ _ six.1 in
    let eight = first_passes _ _ seven.1 in
    let fifteen = first_passes _ _ eight.1 in
    let sizes = neither _ _ eight.0 in
    record {
      known = not-false _ seven.0;
      header = ltb-false _ _ sizes.0;
      within = ltb-false _ _ sizes.1;
      body = fifteen.1;
    }
