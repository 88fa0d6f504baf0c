-- Which rows name a field: those of document 01's list, and every other row has field 0.
-- Assumes nothing.
use Prim.Native.Nat.{ℕ, zero, suc}
use native.Mathlib.Omega.{arith}
use mathlib.Core.Path.{◌≡◌, refl, sym, ap, ◌∙◌}
use mathlib.Core.Bool.{Bool, true, false, not, cond, true≢false}
use mathlib.Core.List.{List, [], ◌∷◌}
use lib.Dec.{eqb}
use lib.ListN.{drop}
use Rattle.format.specs.declared.Settings.{Settings}
use Rattle.format.specs.declared.Reading.{Reading}
use Rattle.format.specs.declared.Area.{Area}
use Rattle.format.specs.Check.{Check, Failed}
use Rattle.format.specs.Packet.{type_at, body_at}
use Rattle.format.specs.Dwell.{mask_of, dwell_fields, target_count, targets_of, target_length, area_of}
use Rattle.format.specs.Edition.{is_hrr}
use Rattle.format.specs.Rows.{Row, row, naming, is_naming, first_row, header_rows, mission_rows, target_rows, targets_rows, dwell_rows, hrr_rows, job_rows, text_rows, kept_rows, body_rows, segment_rows}
use Rattle.format.proofs.Rows.{passed-not-failed}

-- a list of rows: some have field 0 and are none of those that name a field; the others name one that is not 0, where they apply, but for
-- the row of type 3
pub data AllNamed : List Row → Type 0 where
  none : AllNamed []
  plain : {number : ℕ} {applies : Bool} {rs : List Row} → is_naming number ≡ false → AllNamed rs → AllNamed (row number 0 applies ∷ rs)
  fixed : {number n : ℕ} {applies : Bool} {rs : List Row} → is_naming number ≡ true → AllNamed rs → AllNamed (row number (suc n) applies ∷ rs)
  at-fault : {number field : ℕ} {rs : List Row} → is_naming number ≡ true → AllNamed rs → AllNamed (naming number field ∷ rs)
  of-type-3 : {applies : Bool} {rs : List Row} → AllNamed rs → AllNamed (row 15 0 applies ∷ rs)

-- what is said of a row with this number and field
pub record Named (number field : ℕ) : Type 0 where
  pub others : is_naming number ≡ false → field ≡ 0
  pub named : is_naming number ≡ true → field ≡ 0 → number ≡ 15

pub plain-named : (number : ℕ) → is_naming number ≡ false → Named number 0
plain-named number is = record { others = λ h. refl; named = λ h e. absurd (true≢false (sym h ∙ is)) }

naming-named : (number field : ℕ) → is_naming number ≡ true → (field ≡ 0 → number ≡ 15) → Named number field
naming-named number field is not-0 = record { others = λ h. absurd (true≢false (sym is ∙ h)); named = λ h e. not-0 e }

-- so of a row that applies, and else of what follows it
either-row : (b : Bool) (n f number field : ℕ) {c : Check} → (b ≡ true → Named n f) → (c ≡ Failed number field → Named number field)
    → cond b (Failed n f) c ≡ Failed number field → Named number field
either-row true n f number field here rest e = let same : n ≡ number = cc in let field_is : f ≡ field = cc in rw (← same, ← field_is) (here refl)
either-row false n f number field here rest e = rest e

-- so of the first that applies
pub first-named : {rs : List Row} → AllNamed rs → (number field : ℕ) → first_row rs ≡ Failed number field → Named number field
unfolding first_row
first-named none number field e = passed-not-failed number field e
first-named (plain {number = n} {applies = b} is all) number field e =
    either-row b n 0 number field (λ h. plain-named n is) (λ i. first-named all number field i) e
first-named (fixed {number = n} {n = f} {applies = b} is all) number field e =
    either-row b n (suc f) number field (λ h. naming-named n (suc f) is (λ z. omega arith)) (λ i. first-named all number field i) e
first-named (at-fault {number = n} {field = f} is all) number field e =
    either-row (not (eqb f 0)) n f number field
    (λ h. naming-named n f is (λ z. absurd (true≢false (sym h ∙ ap (λ (m : ℕ). not (eqb m 0)) z)))) (λ i. first-named all number field i) e
first-named (of-type-3 {applies = b} all) number field e =
    either-row b 15 0 number field (λ h. naming-named 15 0 refl (λ z. refl)) (λ i. first-named all number field i) e

-- one of two lists
either-named : (b : Bool) (rs qs : List Row) → AllNamed rs → AllNamed qs → AllNamed (cond b rs qs)
either-named true rs qs p q = p
either-named false rs qs p q = q

-- those of the call and the header
pub header-named : (settings : Settings) (l : List ℕ) → AllNamed (header_rows settings l)
unfolding header_rows
header-named settings l = plain refl (plain refl (plain refl (plain refl (at-fault refl none))))

-- those of each body
mission-named : (b : List ℕ) → AllNamed (mission_rows b)
unfolding mission_rows
mission-named b = plain refl (at-fault refl (fixed refl (fixed refl none)))

targets-named : (mask : ℕ) (area : Area) (n : ℕ) (t : List ℕ) → AllNamed (targets_rows mask area n t)
unfolding targets_rows target_rows
targets-named mask area zero t = none
targets-named mask area (suc n) t =
    fixed refl (fixed refl (fixed refl (fixed refl
    (targets-named mask area n (drop (target_length mask) t)))))

dwell-named : (r : Reading) (b : List ℕ) → AllNamed (dwell_rows r b)
unfolding dwell_rows
dwell-named r b =
    plain refl (at-fault refl (at-fault refl (plain refl (fixed refl (fixed refl
    (targets-named (mask_of b) (area_of (dwell_fields b)) (target_count b) (targets_of b)))))))

hrr-named : (b : List ℕ) → AllNamed (hrr_rows b)
unfolding hrr_rows
hrr-named b = plain refl (plain refl (plain refl none))

job-named : (r : Reading) (b : List ℕ) → AllNamed (job_rows r b)
unfolding job_rows
job-named r b = plain refl (at-fault refl (fixed refl none))

text-named : (b : List ℕ) → AllNamed (text_rows b)
unfolding text_rows
text-named b = plain refl (at-fault refl none)

kept-named : (n : ℕ) (b : List ℕ) → AllNamed (kept_rows n b)
unfolding kept_rows
kept-named n b = plain refl none

body-named : (r : Reading) (t : ℕ) (b : List ℕ) → AllNamed (body_rows r t b)
unfolding body_rows
body-named r t b =
    either-named (eqb t 1) _ _ (mission-named b)
    (either-named (eqb t 2) _ _ (dwell-named r b)
    (either-named (is_hrr r t) _ _ (hrr-named b)
    (either-named (eqb t 5) _ _ (job-named r b)
    (either-named (eqb t 6) _ _ (text-named b)
    (either-named (eqb t 10) _ _ (kept-named 14 b)
    (either-named (eqb t 13) _ _ (kept-named 23 b) none))))))

-- those of a segment
pub segment-named : (r : Reading) (l : List ℕ) → AllNamed (segment_rows r l)
unfolding segment_rows
segment-named r l = plain refl (plain refl (plain refl (of-type-3 (body-named r (type_at l) (body_at l)))))
