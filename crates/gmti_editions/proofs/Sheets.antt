-- The older sheet beside the newer one: zeros at the places that are withheld, byte by byte and record by record as code goes over them.
-- Assumes nothing.
use Prim.Native.Nat.{ℕ, zero, suc, ◌+◌, ◌-◌, ◌≤◌, ◌<◌}
use native.Mathlib.Omega.{arith}
use native.Mathlib.Numerals.{add-one}
use mathlib.Core.Path.{◌≡◌, refl, sym, ap, ap₂, ◌∙◌}
use mathlib.Core.Bool.{Bool, true, false, cond, ◌&&◌}
use mathlib.Core.List.{List, [], ◌∷◌, ◌++◌}
use borrow.Author.Tests.{lt-ltb, le-ltb, eq-eqb, ne_eqb, ltb-true, ltb-false}
use borrow.Rule.Slice.PartMut.{mid_len}
use lib.Dec.{ltb, eqb}
use lib.ListN.{length, get_or, take, drop, length-append, take-append-drop, drop_of_length-le}
use lib.Seq.{take_at, drop_at, drop-cons, drop-drop, ext_get_or}
use Rattle.format.specs.Sheet.{Record}
use Rattle.format.specs.Writer.{Listed, listed, is_same}
use Rattle.format.proofs.Sameness.{same-itself, same_not, same-split}
use Rattle.sheet_walk.proofs.Places.{cut_at, WholeAt}
use Rattle.demands.specs.Places.{is_withheld_in, is_withheld_at}
use Rattle.gmti_editions.specs.Verdict.{zero_where, is_withheld_sheet}

-- ---- zeros at places

-- the same places give the same bytes
zero_same : (f g : ℕ → Bool) (x : List ℕ) → ((i : ℕ) → f i ≡ g i) → zero_where f x ≡ zero_where g x
unfolding zero_where
zero_same f g [] h = refl
zero_same f g (b ∷ x) h = ap₂ (λ (t : Bool) (y : List ℕ). cond t 0 b ∷ y) (h 0) (zero_same (λ i. f (suc i)) (λ i. g (suc i)) x (λ i. h (suc i)))

-- no place leaves them as they are
zero-nowhere : (f : ℕ → Bool) (x : List ℕ) → ((i : ℕ) → f i ≡ false) → zero_where f x ≡ x
unfolding zero_where
zero-nowhere f [] h = refl
zero-nowhere f (b ∷ x) h = ap₂ (λ (t : Bool) (y : List ℕ). cond t 0 b ∷ y) (h 0) (zero-nowhere (λ i. f (suc i)) x (λ i. h (suc i)))

-- in one run, and in the run after it
zero-after : (f g : ℕ → Bool) (b x : List ℕ) → zero_where (λ i. cond (ltb i (length b)) (f i) (g (i - length b))) (b ++ x) ≡ zero_where f b ++ zero_where g x
unfolding zero_where
zero-after f g [] x = zero_same _ g x (λ i. let e : i - 0 ≡ i = omega arith in rw (le-ltb i 0 (omega arith), e))
zero-after f g (y ∷ b) x = ap₂ (λ (t : Bool) (z : List ℕ). cond t 0 y ∷ z) (first) (zero_same _ _ (b ++ x) onward ∙ zero-after (λ i. f (suc i)) g b x)
  where
    n : ℕ
    n = length b

    first : cond (ltb 0 (suc n)) (f 0) (g (0 - suc n)) ≡ f 0
    first = rw (lt-ltb 0 (suc n) (omega arith))

    test : (i : ℕ) (t : Bool) → ltb i n ≡ t → ltb (suc i) (suc n) ≡ t
    test i true h = lt-ltb (suc i) (suc n) (omega (arith, ltb-true i n h))
    test i false h = le-ltb (suc i) (suc n) (omega (arith, ltb-false i n h))

    onward : (i : ℕ) → cond (ltb (suc i) (suc n)) (f (suc i)) (g (suc i - suc n)) ≡ cond (ltb i n) (f (suc i)) (g (i - n))
    onward i = let e : suc i - suc n ≡ i - n = omega arith in rw (test i (ltb i n) refl, e)

-- as many bytes
length-zero : (f : ℕ → Bool) (x : List ℕ) → length (zero_where f x) ≡ length x
unfolding zero_where
length-zero f [] = refl
length-zero f (b ∷ x) = ap suc (length-zero (λ i. f (suc i)) x)

-- and what each is
zero-at : (f : ℕ → Bool) (x : List ℕ) (i : ℕ) → get_or (zero_where f x) i 0 ≡ cond (f i) 0 (get_or x i 0)
unfolding zero_where
zero-at f [] i = go (f i)
  where
    go : (t : Bool) → ◌≡◌ {A = ℕ} 0 (cond t 0 0)
    go true = refl
    go false = refl
zero-at f (b ∷ x) zero = refl
zero-at f (b ∷ x) (suc i) = zero-at (λ j. f (suc j)) x i

-- ---- the demand's words, of bytes: they are the definition

pub withheld-when : (older newer : List ℕ) → length older ≡ length newer
    → ((i : ℕ) → get_or older i 0 ≡ cond (is_withheld_at (listed newer).records i) 0 (get_or newer i 0))
    → is_withheld_sheet older newer ≡ true
unfolding is_withheld_sheet
withheld-when older newer e h =
    let f = is_withheld_at (listed newer).records in
    let is : older ≡ zero_where f newer = ext_get_or 0 older (zero_where f newer) (e ∙ sym (length-zero f newer)) (λ i _. h i ∙ sym (zero-at f newer i)) in
    ap (is_same (zero_where f newer)) is ∙ same-itself (zero_where f newer)

-- a sheet of another length is none
pub other_length : (older newer : List ℕ) → (length older ≡ length newer → ⊥) → false ≡ is_withheld_sheet older newer
unfolding is_withheld_sheet
other_length older newer h =
    let f = is_withheld_at (listed newer).records in
    sym (same_not (zero_where f newer) older (λ e. h (sym (ap length e) ∙ length-zero f newer)))

-- ---- a body, byte by byte

module _ (f : ℕ → Bool) (newer older : List ℕ) (i : ℕ) (p : i < length newer) (q : i < length older) {v : ℕ} (told : v ≡ cond (f i) 0 (get_or newer i 0)) where
  byte-is : is_same (drop i (zero_where f newer)) (drop i older) ≡ (eqb v (get_or older i 0) && is_same (drop (i + 1) (zero_where f newer)) (drop (i + 1) older))
  unfolding is_same
  byte-is =
      let h : i < length (zero_where f newer) = omega (arith, length-zero f newer) in
      rw (add-one, drop-cons (zero_where f newer) i 0 h, drop-cons older i 0 q, zero-at f newer i, ← told)

  pub byte-differs : (v ≡ get_or older i 0 → ⊥) → false ≡ is_same (drop i (zero_where f newer)) (drop i older)
  byte-differs h = sym (byte-is ∙ rw (ne_eqb v (get_or older i 0) h))

  pub byte-same : v ≡ get_or older i 0 → is_same (drop (i + 1) (zero_where f newer)) (drop (i + 1) older) ≡ is_same (drop i (zero_where f newer)) (drop i older)
  byte-same h = sym (byte-is ∙ rw (eq-eqb v (get_or older i 0) h))

-- at the end there is nothing to differ
pub body_end : (f : ℕ → Bool) (newer older : List ℕ) (i : ℕ) → length newer ≤ i → length older ≤ i → true ≡ is_same (drop i (zero_where f newer)) (drop i older)
unfolding is_same
body_end f newer older i p q =
    let h : length (zero_where f newer) ≤ i = omega (arith, length-zero f newer) in
    rw (drop_of_length-le (zero_where f newer) h, drop_of_length-le older q)

-- ---- a sheet, record by record

-- what is left of the newer one from a place on, with zeros
abbrev pub left_of : List ℕ → ℕ → List ℕ
left_of newer at = zero_where (is_withheld_at (listed (drop at newer)).records) (drop at newer)

-- how far a walk is: what is left decides as the whole does
pub record Compared (older newer : List ℕ) (at : ℕ) : Type 0 where
  pub within : at ≤ length newer
  pub rest : is_same (left_of newer at) (drop at older) ≡ is_withheld_sheet older newer

-- where there is no whole record any more, nothing is withheld
pub none-withheld : (newer : List ℕ) (at : ℕ) → (listed (drop at newer)).records ≡ [] → left_of newer at ≡ drop at newer
unfolding is_withheld_at
none-withheld newer at e = ap (λ (rs : List Record). zero_where (is_withheld_at rs) (drop at newer)) e ∙ zero-nowhere _ (drop at newer) (λ i. refl)

-- the first record, and those behind it
zero-record : (r : Record) (rs : List Record) (x : List ℕ)
    → zero_where (is_withheld_at (r ∷ rs)) (r.kind ∷ (r.body ++ x)) ≡ r.kind ∷ (zero_where (is_withheld_in r) r.body ++ zero_where (is_withheld_at rs) x)
unfolding zero_where is_withheld_at
zero-record r rs x = ap (λ (y : List ℕ). r.kind ∷ y) (zero-after (is_withheld_in r) (is_withheld_at rs) r.body x)

-- runs of the same length, one after another
same_after : (a b c d : List ℕ) → length a ≡ length c → is_same (a ++ b) (c ++ d) ≡ (is_same a c && is_same b d)
same_after a b c d e =
    same-split a b (c ++ d) (rw length-append (omega arith))
    ∙ ap₂ (λ (x y : List ℕ). is_same a x && is_same b y) (take_at c d (length a) (sym e)) (drop_at c d (length a) (sym e))

module _ {newer : List ℕ} {at kind end : ℕ} (w : WholeAt newer at kind end) where
  -- the part that the code cuts out for the record's body
  abbrev part : List ℕ → List ℕ
  part x = take (end - (at + 1)) (drop (at + 1) x)

  -- a list from the place on: the byte there, that part, and what is behind it
  parts : (x : List ℕ) → end ≤ length x → drop at x ≡ get_or x at 0 ∷ (part x ++ drop end x)
  parts x h =
      let behind : at + 1 + (end - (at + 1)) ≡ end = omega (arith, w.within) in
      drop-cons x at 0 (omega (arith, w.within))
      ∙ ap (λ (y : List ℕ). get_or x at 0 ∷ y)
      (rw (← add-one at) (sym (take-append-drop (end - (at + 1)) (drop (at + 1) x)) ∙ rw (drop-drop (end - (at + 1)) (at + 1) x, behind)))

  -- with zeros
  left_is : left_of newer at ≡ kind ∷ (zero_where (is_withheld_in (cut_at newer at kind end)) (part newer) ++ left_of newer end)
  left_is =
      ap (λ (l : Listed). zero_where (is_withheld_at l.records) (drop at newer)) w.listed-is
      ∙ ap (zero_where (is_withheld_at (cut_at newer at kind end ∷ (listed (drop end newer)).records))) (parts newer w.fits ∙ ap (λ (k : ℕ). k ∷ (part newer ++ drop end newer)) (sym w.kind_is))
      ∙ zero-record (cut_at newer at kind end) (listed (drop end newer)).records (drop end newer)

  module _ (older : List ℕ) (same : length older ≡ length newer) where
    -- the parts of both are as long
    pub parts_same : length (part older) ≡ length (part newer)
    parts_same = mid_len (at + 1) end older (omega (arith, w.fits)) ∙ sym (mid_len (at + 1) end newer w.fits)

    -- the kind, the body and the rest decide
    record_is : is_same (left_of newer at) (drop at older)
        ≡ (eqb kind (get_or older at 0) && (is_same (zero_where (is_withheld_in (cut_at newer at kind end)) (part newer)) (part older) && is_same (left_of newer end) (drop end older)))
    unfolding is_same
    record_is =
        let body = zero_where (is_withheld_in (cut_at newer at kind end)) (part newer) in
        ap₂ (λ (x y : List ℕ). is_same x y) left_is (parts older (omega (arith, w.fits)))
        ∙ ap (λ (t : Bool). eqb kind (get_or older at 0) && t) (same_after body (left_of newer end) (part older) (drop end older) (length-zero _ (part newer) ∙ sym parts_same))

    pub kind-differs : (kind ≡ get_or older at 0 → ⊥) → false ≡ is_same (left_of newer at) (drop at older)
    kind-differs h = sym (record_is ∙ rw (ne_eqb kind (get_or older at 0) h))

    module _ (k : kind ≡ get_or older at 0) {r : Bool} (told : r ≡ is_same (zero_where (is_withheld_in (cut_at newer at kind end)) (part newer)) (part older)) where
      body_is : is_same (left_of newer at) (drop at older) ≡ (r && is_same (left_of newer end) (drop end older))
      body_is = record_is ∙ rw (eq-eqb kind (get_or older at 0) k, ← told)

      pub body-differs : r ≡ false → false ≡ is_same (left_of newer at) (drop at older)
      body-differs e = sym (body_is ∙ rw e)

      pub record_same : r ≡ true → is_same (left_of newer end) (drop end older) ≡ is_same (left_of newer at) (drop at older)
      record_same e = sym (body_is ∙ rw e)
