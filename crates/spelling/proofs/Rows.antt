-- Records of one kind in a row on a sheet: each is a record that is due, and what they give is what their leader calls for.
-- Assumes nothing.
use mathlib.Core.Path.{◌≡◌, refl, sym, ap, ap₂, ◌∙◌}
use mathlib.Core.Bool.{Bool, true, false, ◌&&◌, ◌||◌, cond, true≢false}
use mathlib.Core.List.{List, [], ◌++◌, append_assoc}
use Prim.Native.Nat.{ℕ, zero, suc, ◌+◌, ◌-◌, ◌*◌, ◌/◌, ◌%◌, ◌≤◌, ◌<◌, min}
use native.Mathlib.Nat.{suc-mul, zero-mul}
use native.Mathlib.Omega.{arith}
use borrow.Author.Tests.{eq-eqb, ne_eqb, eqb-true}
use lib.Dec.{eqb}
use lib.ListN.{get_or, take, drop, length-take, length-drop}
use lib.Seq.{drop-drop, get_or-drop, get_or-take}
use Rattle.format.specs.Sheet.{Record, body_length}
use Rattle.format.specs.Lengths.{record_length}
use Rattle.format.specs.Writer.{Listed, listed, Due, due, called_for, is_follower, share, carried, is_complete, given_behind}
use Rattle.format.proofs.Followers as complete
use Rattle.sheet_walk.specs.declared.Place.{Place}
use Rattle.sheet_walk.specs.declared.Place.TheVariants.{Whole, End, Cut}
use Rattle.sheet_walk.specs.InnerShape.{place_at, is_begun_at, BeginsWith, each_has}
use Rattle.sheet_walk.proofs.Places.{cut_at, WholeAt, Known, known}
use Rattle.sheet_walk.proofs.Runs.{none, joined}
use Rattle.spelling.specs.InnerSpelling.{spelt_all, row_of, row_behind, row_given}
use Rattle.spelling.proofs.Regrouped.{follower-all}

-- ---- a record of a row

-- it has something
pub has_some : (kind : ℕ) → 1 ≤ each_has kind
has_some kind = go (eqb kind 6)
  where
    go : (t : Bool) → 1 ≤ cond t 32 1
    go true = omega arith
    go false = omega arith

-- and is due as it is, where as much is left
pub has-share : (kind left : ℕ) → each_has kind ≤ left → share (due kind left) ≡ each_has kind
has-share kind left h = go (eqb kind 6) h
  where
    go : (t : Bool) → cond t 32 1 ≤ left → cond t (min 32 left) 1 ≡ cond t 32 1
    go true h = omega arith
    go false h = refl

module _ (x : List ℕ) (kind at end : ℕ) where
  -- the count of a piece as the code cuts it out
  count_at : at + 2 ≤ end → get_or (take (end - (at + 1)) (drop (at + 1) x)) 0 0 ≡ get_or x (at + 1) 0
  count_at h =
      let e : at + 1 + 0 ≡ at + 1 = omega arith in
      get_or-take (end - (at + 1)) (drop (at + 1) x) 0 0 (omega arith) ∙ get_or-drop (at + 1) x 0 0 ∙ ap (λ (i : ℕ). get_or x i 0) e

  -- by what it begins with, it has as much as each of a row
  pub begun-has : at + record_length kind ≤ end → is_begun_at kind x at ≡ true → carried (cut_at x at kind end) ≡ each_has kind
  begun-has h b = go (eqb kind 6) refl b
    where
      go : (t : Bool) → eqb kind 6 ≡ t → cond t (eqb (get_or x at 0) 6 && eqb (get_or x (at + 1) 0) 32) (eqb (get_or x at 0) kind) ≡ true
          → cond t (get_or (take (end - (at + 1)) (drop (at + 1) x)) 0 0) 1 ≡ cond t 32 1
      go true e b =
          count_at (omega (arith, h, ap record_length (eqb-true kind 6 e))) ∙ eqb-true (get_or x (at + 1) 0) 32 (second (eqb (get_or x at 0) 6) _ b)
        where
          second : (p q : Bool) → (p && q) ≡ true → q ≡ true
          second true q e = e
          second false q e = absurd (true≢false (sym e))
      go false e b = refl

  -- and the other way round
  has-begun : WholeAt x at kind end → end ≡ at + record_length kind → carried (cut_at x at kind end) ≡ each_has kind → is_begun_at kind x at ≡ true
  has-begun w n c = go (eqb kind 6) refl c
    where
      go : (t : Bool) → eqb kind 6 ≡ t → cond t (get_or (take (end - (at + 1)) (drop (at + 1) x)) 0 0) 1 ≡ cond t 32 1
          → cond t (eqb (get_or x at 0) 6 && eqb (get_or x (at + 1) 0) 32) (eqb (get_or x at 0) kind) ≡ true
      go true e c =
          let six : get_or x at 0 ≡ 6 = sym w.kind_is ∙ eqb-true kind 6 e in
          let full : get_or x (at + 1) 0 ≡ 32 = sym (count_at (omega (arith, n, ap record_length (eqb-true kind 6 e)))) ∙ c in
          rw (eq-eqb (get_or x at 0) 6 six, eq-eqb (get_or x (at + 1) 0) 32 full)
      go false e c = eq-eqb (get_or x at 0) kind (sym w.kind_is)

-- ---- the row

module _ (x : List ℕ) (leader : Record) (kind : ℕ) where
  abbrev w : ℕ
  w = record_length kind

  -- how much is due where n of them are, and so much behind them
  abbrev with_row : ℕ → ℕ → ℕ
  with_row n left = left + n * each_has kind

  -- n of them from a place on, with what the sheet has behind them, where so much is then left
  pub record Row (at n left : ℕ) : Type 0 where
    pub begins : BeginsWith kind n (drop at x)
    pub complete : is_complete (due kind left) (listed (drop (at + n * w) x)).records ≡ true
    pub spelt-are : spelt_all leader (listed (drop at x)).records ≡ row_given leader kind n (drop at x) ++ spelt_all leader (listed (drop (at + n * w) x)).records

  -- none
  row-none : (at left : ℕ) → is_complete (due kind left) (listed (drop at x)).records ≡ true → Row at 0 left
  unfolding row_given
  row-none at left c =
      let e : at + 0 * w ≡ at = omega (arith, zero-mul w) in
      record { begins = none kind (drop at x); complete = rw e c; spelt-are = rw e }

  -- one before others
  module _ (n at left end : ℕ) (v : WholeAt x at kind end) (f : is_follower (cut_at x at kind end) ≡ true) (c : carried (cut_at x at kind end) ≡ each_has kind) (rest : Row end n left) where
    ends : end ≡ at + w
    unfolding body_length
    ends =
        omega (arith, v.within, v.fits, v.formed.length_is, length-take (end - (at + 1)) (drop (at + 1) x), length-drop (at + 1) x)

    later : end + n * w ≡ at + suc n * w
    later = omega (arith, ends, suc-mul n w)

    behind : drop w (drop at x) ≡ drop end x
    behind = drop-drop w at x ∙ ap (λ (i : ℕ). drop i x) (sym ends)

    -- the row
    one : BeginsWith kind 1 (drop at x)
    one =
        record {
          long = omega (arith, length-drop at x, ends, v.fits);
          each = λ i h. first i h;
        }
      where
        first : (i : ℕ) → i < 1 → is_begun_at kind (drop at x) (i * w) ≡ true
        first zero h =
            let e : at + 0 * w ≡ at = omega (arith, zero-mul w) in
            let g : at + (0 * w + 1) ≡ at + 1 = omega (arith, zero-mul w) in
            rw (get_or-drop at x (0 * w) 0, get_or-drop at x (0 * w + 1) 0, e, g) (has-begun x kind at end v ends c)
        first (suc i) h = absurd (omega arith)

    all : BeginsWith kind (suc n) (drop at x)
    all =
        let e : 1 + n ≡ suc n = omega arith in
        let s : 1 * w ≡ w = omega arith in
        rw e at (joined kind 1 n (drop at x) one (rw (s, behind) rest.begins))

    -- what it gives
    abbrev here : Record
    here = cut_at x at kind end

    abbrev first-given : List ℕ
    first-given = given_behind leader (record { kind = kind; body = take (body_length kind) (drop 1 (drop at x)) })

    given_is : given_behind leader here ≡ first-given
    unfolding body_length
    given_is =
        let e : end - (at + 1) ≡ body_length kind = omega (arith, ends) in
        ap₂ (λ (m : ℕ) (y : List ℕ). given_behind leader (record { kind = kind; body = take m y })) e (sym (drop-drop 1 at x))

    row_more : Row at (suc n) left
    unfolding row_given
    row_more =
        record {
          begins = all;
          complete = rw later at rest.complete;
          spelt-are =
              ap (λ (l : Listed). spelt_all leader l.records) v.listed-is
              ∙ follower-all leader here (listed (drop end x)).records f
              ∙ ap₂ ◌++◌ given_is rest.spelt-are
              ∙ sym (append_assoc first-given (row_given leader kind n (drop end x)) _)
              ∙ ap₂ (λ (y : List ℕ) (k : ℕ). (first-given ++ row_given leader kind n y) ++ spelt_all leader (listed (drop k x)).records) (sym behind) later;
        }

  -- with one more, as much more is due
  row-due : (n left : ℕ) → with_row (suc n) left ≡ with_row n left + each_has kind
  row-due n left = omega (arith, suc-mul n (each_has kind))

  shared : (n left : ℕ) → share (due kind (with_row (suc n) left)) ≡ each_has kind
  shared n left = has-share kind (with_row (suc n) left) (omega (arith, row-due n left))

  -- so the records have one
  no_end : (n left : ℕ) → is_complete (due kind (with_row (suc n) left)) [] ≡ true → ⊥
  unfolding is_complete
  no_end n left c = true≢false (sym c ∙ ne_eqb (with_row (suc n) left) 0 (λ z. omega (arith, z, row-due n left, has_some kind)))

  -- where they are due and the records are complete, they are there
  row : (eqb kind 4 || eqb kind 6 || eqb kind 12) ≡ true → (n at left : ℕ) → is_complete (due kind (with_row n left)) (listed (drop at x)).records ≡ true → Row at n left
  row follower zero at left c =
      let e : with_row 0 left ≡ left = omega (arith, zero-mul (each_has kind)) in
      row-none at left (rw e at c)
  row follower (suc n) at left c = go (place_at x at) (known x at) (λ end rest. row follower n end left rest)
    where
      none-there : (listed (drop at x)).records ≡ [] → ⊥
      none-there e = no_end n left (sym (ap (is_complete (due kind (with_row (suc n) left))) e) ∙ c)

      whole : (k end : ℕ) → WholeAt x at k end → ((end : ℕ) → is_complete (due kind (with_row n left)) (listed (drop end x)).records ≡ true → Row end n left)
          → complete.First (due kind (with_row (suc n) left)) (cut_at x at k end) (listed (drop end x)).records → Row at (suc n) left
      whole k end v i (complete.follows h e s rest) =
          let less : with_row (suc n) left - share (due kind (with_row (suc n) left)) ≡ with_row n left = omega (arith, row-due n left, shared n left) in
          row_more n at left end (rw e at v) follower (ap (λ (j : ℕ). carried (cut_at x at j end)) (sym e) ∙ s ∙ shared n left) (i end (rw less at rest))
      whole k end v i (complete.begins z f rest) = absurd (omega (arith, z, row-due n left, has_some kind))

      go : (p : Place) → Known x at p → ((end : ℕ) → is_complete (due kind (with_row n left)) (listed (drop end x)).records ≡ true → Row end n left) → Row at (suc n) left
      go (Whole k end) v i = whole k end v i (complete.first (sym (ap (λ (l : Listed). is_complete (due kind (with_row (suc n) left)) l.records) v.listed-is) ∙ c))
      go End e i = absurd (none-there (ap (λ (l : Listed). l.records) e))
      go Cut e i = absurd (none-there (ap (λ (l : Listed). l.records) e))

-- ---- the row behind a record

-- what is left behind the row of what is due: of scatterers nothing
pub record Behind (x : List ℕ) (leader : Record) (at : ℕ) (d : Due) : Type 0 where
  pub left : ℕ
  pub row_is : Row x leader d.kind at (row_of d) left
  pub no-scatterer : d.kind ≡ 12 → left ≡ 0

module _ (x : List ℕ) (leader : Record) (at n : ℕ) where
  pub targets-behind : is_complete (due 4 n) (listed (drop at x)).records ≡ true → Behind x leader at (due 4 n)
  unfolding row_of
  targets-behind c = record { left = n; row_is = row-none x leader 4 at n c; no-scatterer = λ e. absurd (omega arith) }

  pub pieces-behind : is_complete (due 6 n) (listed (drop at x)).records ≡ true → Behind x leader at (due 6 n)
  unfolding row_of
  pieces-behind c =
      let e : n ≡ n % 32 + n / 32 * 32 = omega arith in
      record { left = n % 32; row_is = row x leader 6 refl (n / 32) at (n % 32) (rw e at c); no-scatterer = λ f. absurd (omega arith) }

  pub scatterers-behind : is_complete (due 12 n) (listed (drop at x)).records ≡ true → Behind x leader at (due 12 n)
  unfolding row_of
  scatterers-behind c =
      let e : n ≡ 0 + n * 1 = omega arith in
      record { left = 0; row_is = row x leader 12 refl n at 0 (rw e at c); no-scatterer = λ _. refl }

pub none-behind : (x : List ℕ) (leader : Record) (at : ℕ) → is_complete (due 0 0) (listed (drop at x)).records ≡ true → Behind x leader at (due 0 0)
unfolding row_of
none-behind x leader at c = record { left = 0; row_is = row-none x leader 0 at 0 c; no-scatterer = λ _. refl }

-- a follower has none behind it
pub follower-row : (r : Record) → is_follower r ≡ true → row_behind r ≡ 0
unfolding row_of called_for
follower-row r f = go (eqb r.kind 4) refl (eqb r.kind 6) refl (eqb r.kind 12) refl f
  where
    go : (a : Bool) → eqb r.kind 4 ≡ a → (b : Bool) → eqb r.kind 6 ≡ b → (c : Bool) → eqb r.kind 12 ≡ c → (a || b || c) ≡ true → row_of (called_for r) ≡ 0
    go true p b q c s e = rw (eqb-true r.kind 4 p)
    go false p true q c s e = rw (eqb-true r.kind 6 q)
    go false p false q true s e = rw (eqb-true r.kind 12 s)
    go false p false q false s e = absurd (true≢false (sym e))
