-- Rows 17 and 18 and the length of the packet, one record at a time.
-- Assumes nothing.
use mathlib.Core.Path.{◌≡◌, refl, sym, ap, subst, ◌∙◌}
use mathlib.Core.Bool.{Bool, true, false, not, ◌&&◌, ◌||◌, cond, and-false, true≢false}
use mathlib.Core.List.{List, [], ◌++◌}
use Prim.Native.Nat.{ℕ, zero, suc, ◌+◌, ◌-◌, ◌*◌, ◌≤◌, ◌<◌}
use native.Mathlib.Nat.{zero-mul, suc-mul}
use native.Mathlib.Omega.{arith}
use borrow.Author.Tests.{lt-ltb, le-ltb, ltb-true, eq-eqb, ne_eqb, eqb-true, eqb-false}
use lib.Dec.{ltb, eqb, lit≤}
use lib.ListN.{length, drop, length-append, length-take, length-drop, drop_of_length-le}
use Rattle.format.specs.Sheet.{Record, body_length}
use Rattle.format.specs.Lengths.{record_length}
use Rattle.format.specs.Writer.{Listed, listed, no_header, is_headed, Due, due, called_for, is_follower, share, carried, is_complete, regroup, segments_bytes, spell_records, spell}
use Rattle.format.proofs.Listing.{listed-formed, before}
use Rattle.sheet_walk.specs.declared.Place.{Place}
use Rattle.sheet_walk.specs.declared.Place.TheVariants.{Whole, End, Cut}
use Rattle.sheet_walk.specs.declared.Lead.{Lead}
use Rattle.sheet_walk.specs.InnerShape.{place_at, is_sheet, is_rest, Shaped, each_takes, lead_of, size_by, BeginsWith, each_has}
use Rattle.sheet_walk.proofs.Places.{cut_at, WholeAt, Known, at_place}
use Rattle.sheet_walk.proofs.Runs.{first_of}
use Rattle.sheet_walk.proofs.Headed.{header-first, other-first, header-again}
use Rattle.std.proofs.Common.{Option, Some, None, Ok, Err}
use Rattle.spelling.specs.declared.Misshapen.{Misshapen}
use Rattle.spelling.specs.declared.Misshapen.TheVariants.{Unlisted, Incomplete}
use Rattle.spelling.specs.declared.Ahead.{Ahead}
use Rattle.spelling.specs.declared.Counted.{Counted}
use Rattle.spelling.specs.InnerSpelling.{size_of, spelt_all, capped, header_end, Survey, unlisted, incomplete, spells, then_due, surveyed, counted, Passes}
use Rattle.spelling.proofs.Followers.{by_call}
use Rattle.spelling.proofs.Regrouped.{sizes, Told, told}
use Rattle.spelling.proofs.Rows.{has_some, has-share, begun-has}

-- ---- a sheet that begins with a header

module _ (x : List ℕ) (end : ℕ) (w : WholeAt x 0 1 end) where
  -- the header, and the records behind it
  abbrev header : Record
  header = cut_at x 0 1 end

  abbrev others : List Record
  others = (listed (drop end x)).records

  -- it calls for nothing
  pub complete-behind : is_complete (due 0 0) (listed x).records ≡ is_complete (due 0 0) others
  unfolding is_complete called_for
  complete-behind = ap (λ (l : Listed). is_complete (due 0 0) l.records) w.listed-is

  module _ (c : is_complete (due 0 0) others ≡ true) where
    behind : Told header 0 others
    unfolding called_for
    behind = told header 0 others (listed-formed (drop end x)) c

    -- the packet, and its length
    pub spell-is : spell x ≡ header.body ++ spelt_all header others
    unfolding spell spell_records
    spell-is =
        let segments = segments_bytes (regroup header others).segments in
        let n : length (regroup header others).front ≤ 0 = omega (arith, behind.front_length, zero-mul (each_takes header)) in
        ap (λ (l : Listed). spell_records l.records) w.listed-is
        ∙ ap (λ (y : List ℕ). header.body ++ (y ++ segments)) (sym (drop_of_length-le (regroup header others).front n))
        ∙ ap (λ (y : List ℕ). header.body ++ y) behind.bytes-are

    pub spell-length : length (spell x) ≡ 32 + sizes others
    unfolding body_length
    spell-length =
        ap length spell-is
        ∙ length-append header.body (spelt_all header others)
        ∙ omega (arith, w.formed.length_is, behind.length_is, zero-mul (each_takes header))

-- what is at the front of any sheet: no header, and row 17 applies, or one
pub data Headed (x : List ℕ) : Option ℕ → Type 0 where
  none : is_sheet (listed x) ≡ false → Headed x None
  some : {n : ℕ} → WholeAt x 0 1 n → Headed x (Some n)

header_at : (x : List ℕ) → Headed x (header_end (place_at x 0))
unfolding is_headed
header_at x = go (place_at x 0) (at_place x 0 refl refl)
  where
    whole : (k end : ℕ) → WholeAt x 0 k end → (b : Bool) → eqb k 1 ≡ b → Headed x (cond b (Some end) None)
    whole k end w true f = some (rw (eqb-true k 1 f) at w)
    whole k end w false f = none (other-first x 0 k end w (eqb-false k 1 f))

    go : (p : Place) → Known x 0 p → Headed x (header_end p)
    go (Whole k end) w = whole k end w (eqb k 1) refl
    go End h = none (ap is_sheet h)
    go Cut h = none (ap is_sheet h)

-- where row 17 lets the sheet pass
pub headed : (x : List ℕ) → is_sheet (listed x) ≡ true → WholeAt x 0 1 33
unfolding body_length
headed x s = go (header_at x)
  where
    go : {n : Option ℕ} → Headed x n → WholeAt x 0 1 33
    go (none f) = absurd (true≢false (sym s ∙ f))
    go (some {n = n} w) =
        let e : n ≡ 33 = omega (arith, w.within, w.fits, w.formed.length_is, length-take (n - 1) (drop 1 x), length-drop 1 x) in
        rw e at w

-- ---- what is found from a place on, where so much is due and so many bytes are spelt

unfoldable pub survey_from : Due → ℕ → Listed → Survey
survey_from d sum l =
    cond (is_rest l) (cond (is_complete d l.records) (spells (capped (sum + sizes l.records))) incomplete) unlisted

-- and by what a record leaves of that
abbrev pub survey_then : Option Counted → Listed → Survey
survey_then (Some c) l = survey_from (due c.follower c.left) c.sum l
survey_then None l = cond (is_rest l) incomplete unlisted

-- so where a record stands where it may not
pub err-rest : (b : Bool) {m : Misshapen} → m ≡ cond b Incomplete Unlisted → Err m ≡ cond b incomplete unlisted
err-rest true e = ap (λ (m : Misshapen). Err m) e
err-rest false e = ap (λ (m : Misshapen). Err m) e

-- only followers are due
abbrev pub Due-follows : ℕ → ℕ → Type 0
Due-follows kind left = 0 < left → (eqb kind 4 || eqb kind 6 || eqb kind 12) ≡ true

-- behind the header
pub survey-start : (x : List ℕ) (end : ℕ) → WholeAt x 0 1 end → surveyed x ≡ survey_from (due 0 0) 32 (listed (drop end x))
unfolding surveyed survey_from
survey-start x end w =
    rw (header-first x 0 1 end w refl, complete-behind x end w)
    (go (is_complete (due 0 0) (listed (drop end x)).records) refl)
  where
    go : (c : Bool) → is_complete (due 0 0) (listed (drop end x)).records ≡ c
        → cond (is_rest (listed (drop end x))) (cond c (spells (capped (length (spell x)))) incomplete) unlisted
        ≡ cond (is_rest (listed (drop end x))) (cond c (spells (capped (32 + sizes (listed (drop end x)).records))) incomplete) unlisted
    go true e = rw (spell-length x end w e)
    go false e = refl

-- a record
module _ (d : Due) (sum : ℕ) (r : Record) (p : Due-follows d.kind d.left) where
  -- which is no header
  pub survey-next : (l : Listed) → (r.kind ≡ 1 → ⊥) → survey_from d sum (before r l) ≡ survey_then (counted d sum r) l
  unfolding survey_from counted is_complete no_header sizes
  survey-next l k =
      rw (ne_eqb r.kind 1 k)
      (go (ltb 0 d.left) (eqb r.kind d.kind) (eqb (carried r) (share d)) (is_follower r) refl refl refl)
    where
      go : (t a b f : Bool) → ltb 0 d.left ≡ t → eqb r.kind d.kind ≡ a → is_follower r ≡ f
          → cond (is_rest l)
          (cond (cond t (a && b && is_complete (due d.kind (d.left - share d)) l.records) (not f && is_complete (called_for r) l.records))
          (spells (capped (sum + (cond f 0 (size_of r) + sizes l.records))))
          incomplete)
          unlisted
          ≡ survey_then (cond t (cond (a && b) (then_due d.kind (d.left - share d) sum) None) (cond f None (then_due (called_for r).kind (called_for r).left (capped (sum + size_of r))))) l
      go true true true true t a f =
          let e : capped (sum + (0 + sizes l.records)) ≡ capped (sum + sizes l.records) = omega arith in
          rw e
      go true true true false t a f =
          let e : (eqb r.kind 4 || eqb r.kind 6 || eqb r.kind 12) ≡ true = rw (eqb-true r.kind d.kind a) (p (ltb-true 0 d.left t)) in
          absurd (true≢false (sym e ∙ f))
      go true true false f' t a f = refl
      go true false b f' t a f = refl
      go false a' b true t a f = refl
      go false a' b false t a f =
          let e : capped (sum + (size_of r + sizes l.records)) ≡ capped (capped (sum + size_of r) + sizes l.records) = omega arith in
          rw e

  -- what is then due are followers, and so many bytes are counted at most
  abbrev Kept : Option Counted → Type 0
  Kept (Some c) = Due-follows c.follower c.left × (c.sum ≤ 65537)
  Kept None = Unit {0}

  pub kept : sum ≤ 65537 → Kept (counted d sum r)
  unfolding counted
  kept h = go (ltb 0 d.left) (eqb r.kind d.kind && eqb (carried r) (share d)) (is_follower r) refl
    where
      called : Due-follows (called_for r).kind (called_for r).left
      called = by_call (λ (q : Due). Due-follows q.kind q.left) r (λ _ _ _. refl) (λ _ _. refl) (λ _ _ _. refl) (λ z. absurd (omega arith))

      go : (t a f : Bool) → ltb 0 d.left ≡ t
          → Kept (cond t (cond a (then_due d.kind (d.left - share d) sum) None) (cond f None (then_due (called_for r).kind (called_for r).left (capped (sum + size_of r)))))
      go true true f t = (λ _. p (ltb-true 0 d.left t), h)
      go true false f t = tt
      go false a true t = tt
      go false a false t = (called, omega arith)

-- the cases of what a record leaves
module _ (d : Due) (sum : ℕ) (r : Record) where
  pub count-other : 0 < d.left → (r.kind ≡ d.kind → ⊥) → counted d sum r ≡ None
  unfolding counted
  count-other h n = rw (lt-ltb 0 d.left h, ne_eqb r.kind d.kind n)

  pub count-unshared : 0 < d.left → (carried r ≡ share d → ⊥) → counted d sum r ≡ None
  unfolding counted
  count-unshared h n = rw (lt-ltb 0 d.left h, ne_eqb (carried r) (share d) n, and-false)

  pub count-follower : 0 < d.left → r.kind ≡ d.kind → carried r ≡ share d → counted d sum r ≡ then_due d.kind (d.left - share d) sum
  unfolding counted
  count-follower h e f = rw (lt-ltb 0 d.left h, eq-eqb r.kind d.kind e, eq-eqb (carried r) (share d) f)

  pub count-misplaced : d.left ≤ 0 → is_follower r ≡ true → counted d sum r ≡ None
  unfolding counted
  count-misplaced h f = rw (le-ltb 0 d.left h, f)

  pub count-leader : d.left ≤ 0 → is_follower r ≡ false → (l : Lead) (n : ℕ) → l ≡ lead_of r → n ≡ capped (sum + size_by l) → then_due l.follower l.left n ≡ counted d sum r
  unfolding counted lead_of size_of
  count-leader h f l n e i = rw (le-ltb 0 d.left h, f, i, e)

-- ---- the walk

-- what it keeps
pub record Walked (x : List ℕ) (at kind left sum : ℕ) : Type 0 where
  pub short : sum ≤ 65537
  pub follows : Due-follows kind left
  pub rest : surveyed x ≡ survey_from (due kind left) sum (listed (drop at x))

-- at the front
pub no-header : (x : List ℕ) → None ≡ header_end (place_at x 0) → surveyed x ≡ unlisted
unfolding surveyed
no-header x e = go (subst (Headed x) (sym e) (header_at x))
  where
    go : Headed x None → surveyed x ≡ unlisted
    go (none f) = rw f

pub start : (x : List ℕ) (n : ℕ) → Some n ≡ header_end (place_at x 0) → Walked x n 0 0 32
start x n e = go (subst (Headed x) (sym e) (header_at x))
  where
    go : Headed x (Some n) → Walked x n 0 0 32
    go (some w) = record { short = lit≤ tt; follows = λ z. absurd (omega arith); rest = survey-start x n w }

-- at a place
module _ (x : List ℕ) (at kind left sum : ℕ) (i : Walked x at kind left sum) where
  -- where none is left, or one is cut
  pub at-end : listed (drop at x) ≡ record { records = []; whole = true } → surveyed x ≡ cond (eqb left 0) (spells sum) incomplete
  unfolding survey_from is_complete no_header sizes
  at-end e =
      let n : capped (sum + 0) ≡ sum = omega (arith, i.short) in
      i.rest ∙ ap (survey_from (due kind left) sum) e ∙ rw n

  pub at_cut : listed (drop at x) ≡ record { records = []; whole = false } → surveyed x ≡ unlisted
  unfolding survey_from
  at_cut e = i.rest ∙ ap (survey_from (due kind left) sum) e

  -- a whole record
  module _ (k end : ℕ) (w : WholeAt x at k end) where
    pub again : k ≡ 1 → surveyed x ≡ unlisted
    unfolding survey_from
    again e = i.rest ∙ rw (header-again x at k end w e)

    pub onward : (k ≡ 1 → ⊥) → {q : Option Counted} → q ≡ counted (due kind left) sum (cut_at x at k end) → surveyed x ≡ survey_then q (listed (drop end x))
    onward n e =
        i.rest
        ∙ ap (survey_from (due kind left) sum) w.listed-is
        ∙ survey-next (due kind left) sum (cut_at x at k end) i.follows (listed (drop end x)) n
        ∙ ap (λ (q : Option Counted). survey_then q (listed (drop end x))) (sym e)

    pub turn : (k ≡ 1 → ⊥) → (f l s : ℕ) → then_due f l s ≡ counted (due kind left) sum (cut_at x at k end) → Walked x end f l s
    turn n f l s e =
        let kept_here : Due-follows f l × (s ≤ 65537) = rw (sym e) at (kept (due kind left) sum (cut_at x at k end) i.follows i.short) in
        record { short = kept_here.1; follows = kept_here.0; rest = onward n e }

-- a kind that is due behind a record is the kind of some record, and no header
follower-known : (kind : ℕ) → (eqb kind 4 || eqb kind 6 || eqb kind 12) ≡ true → (0 < body_length kind) × (kind ≡ 1 → ⊥)
unfolding body_length
follower-known kind f = go (eqb kind 4) refl (eqb kind 6) refl (eqb kind 12) refl f
  where
    go : (a : Bool) → eqb kind 4 ≡ a → (b : Bool) → eqb kind 6 ≡ b → (c : Bool) → eqb kind 12 ≡ c → (a || b || c) ≡ true → (0 < body_length kind) × (kind ≡ 1 → ⊥)
    go true p b q c s e = (omega (arith, ap body_length (eqb-true kind 4 p)), λ z. omega (arith, z, eqb-true kind 4 p))
    go false p true q c s e = (omega (arith, ap body_length (eqb-true kind 6 q)), λ z. omega (arith, z, eqb-true kind 6 q))
    go false p false q true s e = (omega (arith, ap body_length (eqb-true kind 12 s)), λ z. omega (arith, z, eqb-true kind 12 s))
    go false p false q false s e = absurd (true≢false (sym e))

-- past a row of records at once
pub past_row : (x : List ℕ) (kind n at left sum : ℕ) → at ≤ length x → Walked x at kind (left + n * each_has kind) sum → BeginsWith kind n (drop at x)
    → Walked x (at + n * record_length kind) kind left sum
past_row x kind zero at left sum h i b =
    let e : at ≡ at + 0 * record_length kind = omega (arith, zero-mul (record_length kind)) in
    let l : left + 0 * each_has kind ≡ left = omega (arith, zero-mul (each_has kind)) in
    rw e at (rw l at i)
past_row x kind (suc n) at left sum h i b =
    let has = each_has kind in
    let all = left + suc n * has in
    let more : all ≡ left + n * has + has = omega (arith, suc-mul n has) in
    let some : 0 < all = omega (arith, more, has_some kind) in
    let known = follower-known kind (i.follows some) in
    let first = first_of kind x known.0 n at h b in
    let end = at + record_length kind in
    let here = cut_at x at kind end in
    let shared : share (due kind all) ≡ has = has-share kind all (omega (arith, more)) in
    let carries : carried here ≡ has = begun-has x kind at end (omega arith) first.0 in
    let less : all - share (due kind all) ≡ left + n * has = omega (arith, more, shared) in
    let counted-one : then_due kind (left + n * has) sum ≡ counted (due kind all) sum here =
    sym (count-follower (due kind all) sum here some refl (carries ∙ sym shared) ∙ ap (λ (k : ℕ). then_due kind k sum) less) in
    let e : end + n * record_length kind ≡ at + suc n * record_length kind = omega (arith, suc-mul n (record_length kind)) in
    rw e at (past_row x kind n end left sum first.1.fits (turn x at kind all sum i kind end first.1 known.1 kind (left + n * has) sum counted-one) first.2)

-- as far as the walk goes at once
pub past-passed : (x : List ℕ) (at follower left sum : ℕ) (a : Ahead) → at ≤ length x → Walked x at follower left sum → Passes x at follower left a
    → Walked x a.at follower a.left sum
past-passed x at follower left sum a h i (n, to, l, b) = rw to (past_row x follower n at a.left sum h (rw l at i) b)

-- ---- what is found of a sheet, said of the rows

abbrev pub Said : List ℕ → Survey → Type 0
Said x (Err Unlisted) = is_sheet (listed x) ≡ false
Said x (Err Incomplete) = (is_sheet (listed x) ≡ true) × (is_complete (due 0 0) (listed x).records ≡ false)
Said x (Ok n) = Shaped x × (n ≡ capped (length (spell x)))

pub said : (x : List ℕ) {p q : Survey} → p ≡ surveyed x → p ≡ q → Said x q
unfolding surveyed
said x {p} {q} e f =
    let g : surveyed x ≡ q = sym e ∙ f in
    rw g at (go (is_sheet (listed x)) (is_complete (due 0 0) (listed x).records) refl refl)
  where
    go : (a b : Bool) → is_sheet (listed x) ≡ a → is_complete (due 0 0) (listed x).records ≡ b → Said x (cond a (cond b (spells (capped (length (spell x)))) incomplete) unlisted)
    go true true s c = ((s, c), refl)
    go true false s c = (s, c)
    go false b s c = s
