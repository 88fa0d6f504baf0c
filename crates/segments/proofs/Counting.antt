-- The dwells that the walk has counted: where the numbers of their pairs never fell, they are the different numbers. And there are as many
-- different numbers as the definition has different pairs.
-- Assumes nothing.
use Prim.Native.Nat.{ℕ, suc, ◌+◌, ◌≤◌, ◌<◌}
use native.Mathlib.Omega.{arith}
use mathlib.Core.Path.{◌≡◌, refl, sym, ap, ap₂, ◌∙◌}
use mathlib.Core.Bool.{Bool, true, false, not, cond, ◌||◌}
use mathlib.Core.List.{List, [], ◌∷◌}
use borrow.Author.Tests.{leb-true, leb-false, le-leb, eq-eqb, ne_eqb}
use lib.Dec.{leb, eqb}
use lib.ListN.{length}
use Rattle.octets.specs.Octets.{Bytes}
use Rattle.distinct.specs.Distinct.{is_among, without_repeats}
use Rattle.distinct.proofs.Laws.{equally-many}
use Rattle.format.specs.declared.Reading.{Reading}
use Rattle.format.specs.Packet.{Segment}
use Rattle.format.specs.Dwell.{is_same_pair}
use Rattle.format.specs.Reader.{dwells_in}
use Rattle.segments.specs.declared.Dwells.{Dwells}
use Rattle.segments.specs.InnerWalk.{pair_number, pair_numbers, no_dwells, past_pair, past, past_all, AtMost, segments_of}
use Rattle.segments.proofs.Pairs.{Spelt, spelt-alike, parse-spelt}

-- ---- numbers in a row, each held against what is above the one before it

-- how often they rise
rises_from : ℕ → List ℕ → ℕ
rises_from above [] = 0
rises_from above (p ∷ ps) = cond (leb above p) 1 0 + rises_from (p + 1) ps

-- how often they fall
falls_from : ℕ → List ℕ → ℕ
falls_from above [] = 0
falls_from above (p ∷ ps) = cond (leb above (p + 1)) 0 1 + falls_from (p + 1) ps

-- where none falls, the first does not, and none behind it does
no-fall : (above p : ℕ) (ps : List ℕ) → falls_from above (p ∷ ps) ≡ 0 → (above ≤ p + 1) × (falls_from (p + 1) ps ≡ 0)
unfolding falls_from
no-fall above p ps e = go (leb above (p + 1)) refl e
  where
    go : (b : Bool) → leb above (p + 1) ≡ b → cond b 0 1 + falls_from (p + 1) ps ≡ 0 → (above ≤ p + 1) × (falls_from (p + 1) ps ≡ 0)
    go true t e = (leb-true above (p + 1) t, omega (arith, e))
    go false t e = absurd (omega (arith, e))

-- a number that lies below the last one does not come again where none falls
not-again : (p above : ℕ) (ps : List ℕ) → suc p < above → falls_from above ps ≡ 0 → is_among eqb p ps ≡ false
unfolding is_among
not-again p above [] h e = refl
not-again p above (q ∷ qs) h e =
    let here = no-fall above q qs e in
    ap₂ ◌||◌ (ne_eqb p q (λ same. omega (arith, here.0))) (not-again p (q + 1) qs (omega (arith, here.0)) here.1)

-- so one comes again only where the next is the same
again-is : (p q : ℕ) (qs : List ℕ) → p ≤ q → falls_from (q + 1) qs ≡ 0 → is_among eqb p (q ∷ qs) ≡ not (leb (p + 1) q)
unfolding is_among
again-is p q qs h e = go (leb (p + 1) q) refl
  where
    go : (b : Bool) → leb (p + 1) q ≡ b → (eqb p q || is_among eqb p qs) ≡ not b
    go true t =
        let up = leb-true (p + 1) q t in
        ap₂ ◌||◌ (ne_eqb p q (λ same. omega arith)) (not-again p (q + 1) qs (omega arith) e)
    go false t =
        let down = leb-false (p + 1) q t in
        ap (λ (b : Bool). b || is_among eqb p qs) (eq-eqb p q (omega arith))

-- behind a number, each rise is one more that is different
different-behind : (p : ℕ) (ps : List ℕ) → falls_from (p + 1) ps ≡ 0 → length (without_repeats eqb (p ∷ ps)) ≡ 1 + rises_from (p + 1) ps
unfolding is_among without_repeats rises_from
different-behind p [] e = omega arith
different-behind p (q ∷ qs) e =
    let here = no-fall (p + 1) q qs e in
    ap (λ (b : Bool). length (cond b (without_repeats eqb (q ∷ qs)) (p ∷ without_repeats eqb (q ∷ qs)))) (again-is p q qs (omega (arith, here.0)) here.1)
    ∙ go (leb (p + 1) q) (different-behind q qs here.1)
  where
    go : (b : Bool) → length (without_repeats eqb (q ∷ qs)) ≡ 1 + rises_from (q + 1) qs
        → length (cond (not b) (without_repeats eqb (q ∷ qs)) (p ∷ without_repeats eqb (q ∷ qs))) ≡ 1 + (cond b 1 0 + rises_from (q + 1) qs)
    go true k = omega arith
    go false k = omega arith

-- and the first is a rise
different-are : (ps : List ℕ) → falls_from 0 ps ≡ 0 → rises_from 0 ps ≡ length (without_repeats eqb ps)
unfolding without_repeats rises_from
different-are [] e = refl
different-are (p ∷ ps) e =
    ap (λ (b : Bool). cond b 1 0 + rises_from (p + 1) ps) (le-leb 0 p (omega arith))
    ∙ sym (different-behind p ps (no-fall 0 p ps e).1)

-- ---- what the walk keeps

-- past dwells with these numbers
past_numbers : Dwells → List ℕ → Dwells
past_numbers d [] = d
past_numbers d (p ∷ ps) = past_numbers (past_pair d p) ps

-- how often they rose, and how often they fell
rises-are : (d : Dwells) (ps : List ℕ) → (past_numbers d ps).rises ≡ d.rises + rises_from d.above ps
unfolding past_pair past_numbers rises_from
rises-are d [] = omega arith
rises-are d (p ∷ ps) = rises-are (past_pair d p) ps ∙ omega arith

falls-are : (d : Dwells) (ps : List ℕ) → (past_numbers d ps).falls ≡ d.falls + falls_from d.above ps
unfolding past_pair past_numbers falls_from
falls-are d [] = omega arith
falls-are d (p ∷ ps) = falls-are (past_pair d p) ps ∙ omega arith

-- other segments than dwells change nothing
by-numbers : (d : Dwells) (ss : List Segment) → past_all d ss ≡ past_numbers d (pair_numbers ss)
unfolding past past_all pair_numbers past_numbers
by-numbers d [] = refl
by-numbers d (s ∷ ss) = by-numbers (past d s.type s.body) ss ∙ go (eqb s.type 2) (pair_number s.body) (pair_numbers ss)
  where
    go : (b : Bool) (p : ℕ) (ps : List ℕ) → past_numbers (cond b (past_pair d p) d) ps ≡ past_numbers d (cond b (p ∷ ps) ps)
    go true p ps = refl
    go false p ps = refl

-- where the numbers never fell, the walk has counted those that are different
pub rising-are : (ss : List Segment) → (past_all no_dwells ss).falls ≡ 0 → (past_all no_dwells ss).rises ≡ length (without_repeats eqb (pair_numbers ss))
rising-are ss e =
    let ps = pair_numbers ss in
    let walk = by-numbers no_dwells ss in
    let none : falls_from 0 ps ≡ 0 = omega (arith, ap (λ (d : Dwells). d.falls) walk, falls-are no_dwells ps, e) in
    ap (λ (d : Dwells). d.rises) walk ∙ rises-are no_dwells ps ∙ omega (arith, different-are ps none)

-- there are as many different numbers as the definition has different pairs
pub numbers-are : (r : Reading) (l : List ℕ) → Bytes l → length (without_repeats eqb (pair_numbers (segments_of r l))) ≡ dwells_in (segments_of r l)
unfolding dwells_in
numbers-are r l h = sym (equally-many is_same_pair eqb Spelt spelt-alike (parse-spelt r (length l) l h))

-- ---- no count is too large

-- past a segment there is one more at most of each
pub past-at-most : (n : ℕ) (d : Dwells) (type : ℕ) (b : List ℕ) {e : Dwells} → e ≡ past d type b → AtMost n d → AtMost (n + 1) e
unfolding past past_pair
past-at-most n d type b q h = rw q (go (eqb type 2))
  where
    one : (x : Bool) (m : ℕ) → m ≤ n → m + cond x 1 0 ≤ n + 1
    one true m k = omega arith
    one false m k = omega arith

    other : (x : Bool) (m : ℕ) → m ≤ n → m + cond x 0 1 ≤ n + 1
    other true m k = omega arith
    other false m k = omega arith

    go : (x : Bool) → AtMost (n + 1) (cond x (past_pair d (pair_number b)) d)
    go true = (one (leb d.above (pair_number b)) d.rises h.0, other (leb d.above (pair_number b + 1)) d.falls h.1)
    go false = (omega (arith, h.0), omega (arith, h.1))
