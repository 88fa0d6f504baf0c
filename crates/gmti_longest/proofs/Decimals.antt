-- A number's decimals, with or without a line feed behind them, ask for that number, and nothing else does.
-- Assumes nothing.
use Prim.Native.Nat.{ℕ, zero, suc, ◌+◌, ◌-◌, ◌*◌, ◌/◌, ◌%◌, ◌≤◌, ◌<◌}
use native.Mathlib.Omega.{arith}
use mathlib.Core.Path.{◌≡◌, refl, sym, ap, ◌∙◌}
use mathlib.Core.Bool.{Bool, true, false, cond, not, ◌&&◌, and-eq-true_iff}
use mathlib.Core.Logic.{◌⊎◌, inl, inr, ⊎_elim}
use mathlib.Core.List.{List, [], ◌∷◌, ◌++◌, append-nil, append_assoc}
use borrow.Author.Tests.{ltb-true, ltb-false, lt-ltb, leb-true, le-leb, eq-eqb, ne_eqb, eqb-true, eqb-false}
use lib.Dec.{ltb, leb, eqb}
use lib.ListN.{length, get_or, take, length-append, get_or-append}
use lib.Seq.{take_at, take-length, take-suc, get_or_at}
use Rattle.printing.specs.Printing.{digit, decimal}
use Rattle.printing.proofs.Digits.{decimal-one, decimal-more}
use Rattle.vectors.specs.Vectors.{is_digit, are_digits, is_number, digit_value, with_digit, spelt}
use Rattle.vectors.proofs.Spellings.{digit-range}
use Rattle.gmti_longest.specs.Longest.{without_line_feed, is_asked, asked}
use Rattle.gmti_longest.specs.Input.{DigitsAsk, OnlyDigitsAsk}
use Rattle.gmti_longest.proofs.Front.{kept, digit-most}
use Rattle.gmti_longest.proofs.Inputs.{digits-none, digits-line, digits-all, asked_is}

-- digits behind digits
are-append : (s t : List ℕ) → are_digits s ≡ true → are_digits t ≡ true → are_digits (s ++ t) ≡ true
unfolding are_digits
are-append [] t a b = b
are-append (c ∷ s) t a b =
    let both = (and-eq-true_iff (is_digit c) (are_digits s)).0 a in
    (and-eq-true_iff (is_digit c) (are_digits (s ++ t))).1 (both.0, are-append s t both.1 b)

spelt-append : (s t : List ℕ) (n : ℕ) → spelt (s ++ t) n ≡ spelt t (spelt s n)
unfolding spelt
spelt-append [] t n = refl
spelt-append (c ∷ s) t n = spelt-append s t (with_digit n c)

-- the digit of a number below 10
module _ (v : ℕ) (h : v < 10) where
  digit-is : is_digit (digit v) ≡ true
  unfolding is_digit
  digit-is = rw (le-leb 48 (digit v) (omega arith), le-leb (digit v) 57 (omega arith))

  digit-worth : digit_value (digit v) ≡ v
  unfolding digit_value
  digit-worth = rw digit-is (omega arith)

-- the text d is digits without a leading zero that spell n
record Spells (n : ℕ) (d : List ℕ) : Type 0 where
  digits_are : are_digits d ≡ true
  long : 0 < length d
  first : eqb (get_or d 0 0) 48 ≡ false
  worth : spelt d 0 ≡ n

-- one digit, and one more
spells_one : (n : ℕ) → 1 ≤ n → n < 10 → Spells n (digit n ∷ [])
unfolding are_digits spelt with_digit
spells_one n p h =
    record {
      digits_are = rw (digit-is n h);
      long = omega arith;
      first = ne_eqb (digit n) 48 (λ e. omega arith);
      worth = rw (digit-worth n h) (omega arith);
    }

spells-more : (n v : ℕ) {d : List ℕ} → v < 10 → n * 10 + v < 4294967296 → Spells n d → Spells (n * 10 + v) (d ++ (digit v ∷ []))
unfolding are_digits spelt with_digit
spells-more n v {d} h m w =
    record {
      digits_are = are-append d (digit v ∷ []) w.digits_are (rw (digit-is v h));
      long = omega (arith, length-append d (digit v ∷ []), w.long);
      first = rw (get_or-append d (digit v ∷ []) 0 0 w.long) w.first;
      worth = spelt-append d (digit v ∷ []) 0 ∙ rw (w.worth, digit-worth v h) (omega arith);
    }

-- so a number's decimals spell it
spells : (j n : ℕ) → n ≤ j → 1 ≤ n → n < 4294967296 → Spells n (decimal n)
spells zero n a b m = absurd (omega arith)
spells (suc j) n a b m = go (ltb n 10) refl (λ h. spells j (n / 10) (omega arith) h (omega arith))
  where
    go : (t : Bool) → ltb n 10 ≡ t → (1 ≤ n / 10 → Spells (n / 10) (decimal (n / 10))) → Spells n (decimal n)
    go true e i = rw (decimal-one n (ltb-true n 10 e)) (spells_one n b (ltb-true n 10 e))
    go false e i =
        let ten : 10 ≤ n = ltb-false n 10 e in
        let back : n / 10 * 10 + n % 10 ≡ n = omega arith in
        rw (decimal-more n ten) (rw back at (spells-more (n / 10) (n % 10) (omega arith) (omega arith) (i (omega arith))))

-- digits have no line feed among them
no-feed : (d : List ℕ) (i : ℕ) → are_digits d ≡ true → eqb (get_or d i 0) 10 ≡ false
unfolding are_digits
no-feed [] i a = refl
no-feed (c ∷ s) zero a = ne_eqb c 10 (λ e. omega (arith, (digit-range c ((and-eq-true_iff (is_digit c) (are_digits s)).0 a).0).0))
no-feed (c ∷ s) (suc i) a = no-feed s i ((and-eq-true_iff (is_digit c) (are_digits s)).0 a).1

-- so digits stay, and a line feed behind them goes
all_digits : (d : List ℕ) → are_digits d ≡ true → d ≡ without_line_feed d
all_digits d a = sym (take-length d) ∙ digits-all d (no-feed d (length d - 1) a)

feed-behind : (d : List ℕ) → d ≡ without_line_feed (d ++ 10 ∷ [])
feed-behind d =
    let l = d ++ 10 ∷ [] in
    let last : length d ≡ length l - 1 = omega (arith, length-append d (10 ∷ [])) in
    sym (take_at d (10 ∷ []) (length l - 1) last) ∙ digits-line l (eq-eqb _ 10 (get_or_at d 10 [] 0 (length l - 1) last))

-- "a k from 1 to 16,362, in digits with no leading zero and at most one line feed after them"
pub digits-ask : DigitsAsk
unfolding is_number
digits-ask k least most = (asks (decimal k) (all_digits (decimal k) w.digits_are), asks (decimal k ++ 10 ∷ []) (feed-behind (decimal k)))
  where
    w : Spells k (decimal k)
    w = spells k k (omega arith) least (omega arith)

    asks : (l : List ℕ) → decimal k ≡ without_line_feed l → asked l ≡ k
    asks l e =
        sym (asked_is l e ((and-eq-true_iff _ _).1 (w.digits_are, lt-ltb 0 _ w.long)) w.first (omega (arith, w.worth)))
        ∙ w.worth

-- a number with one more digit, where 32 bits hold it
module _ (n c : ℕ) (d : is_digit c ≡ true) where
  digit-more : with_digit n c < 4294967296 → with_digit n c ≡ n * 10 + (c - 48)
  unfolding with_digit digit_value
  digit-more m = let r = rw d at m in rw d (omega arith)

  decimal-next : 1 ≤ n → with_digit n c < 4294967296 → decimal (with_digit n c) ≡ decimal n ++ (c ∷ [])
  decimal-next h m =
      let range = digit-range c d in
      let more = digit-more m in
      let front : with_digit n c / 10 ≡ n = omega arith in
      let last : digit (with_digit n c % 10) ≡ c = omega arith in
      decimal-more (with_digit n c) (omega arith) ∙ rw (front, last)

-- digits s behind the decimals of n are those of what they spell
grown : (s : List ℕ) (n : ℕ) → are_digits s ≡ true → 1 ≤ n → spelt s n < 4294967296 → decimal (spelt s n) ≡ decimal n ++ s
unfolding are_digits spelt
grown [] n a h m = sym (append-nil (decimal n))
grown (c ∷ s) n a h m =
    let both = (and-eq-true_iff (is_digit c) (are_digits s)).0 a in
    let small : with_digit n c < 4294967296 = omega (arith, kept s (with_digit n c) (with_digit n c) (omega arith) (digit-most n c)) in
    grown s (with_digit n c) both.1 (omega (arith, digit-more n c both.0 small)) m
    ∙ ap (λ (l : List ℕ). l ++ s) (decimal-next n c both.0 h small)
    ∙ append_assoc (decimal n) (c ∷ []) s

-- so digits without a leading zero are the decimals of what they spell
spelt_back : (d : List ℕ) → are_digits d ≡ true → 0 < length d → eqb (get_or d 0 0) 48 ≡ false → spelt d 0 < 4294967296 → d ≡ decimal (spelt d 0)
unfolding are_digits spelt
spelt_back [] a h z m = absurd (omega arith)
spelt_back (c ∷ s) a h z m =
    let both = (and-eq-true_iff (is_digit c) (are_digits s)).0 a in
    let range = digit-range c both.0 in
    let other : (c ≡ 48 → ⊥) = eqb-false c 48 z in
    let small : with_digit 0 c < 4294967296 = omega (arith, kept s (with_digit 0 c) (with_digit 0 c) (omega arith) (digit-most 0 c)) in
    let one : with_digit 0 c ≡ c - 48 = omega (arith, digit-more 0 c both.0 small) in
    let same : digit (with_digit 0 c) ≡ c = omega arith in
    let alone : decimal (with_digit 0 c) ≡ c ∷ [] = decimal-one (with_digit 0 c) (omega arith) ∙ ap (λ (x : ℕ). x ∷ []) same in
    sym (grown s (with_digit 0 c) both.1 (omega arith) m ∙ ap (λ (l : List ℕ). l ++ s) alone)

-- the input is its digits, or has a line feed behind them
ends : (l : List ℕ) → (l ≡ without_line_feed l) ⊎ (l ≡ without_line_feed l ++ 10 ∷ [])
ends [] = inl (digits-none [] refl)
ends (x ∷ xs) = go (eqb (get_or (x ∷ xs) (length (x ∷ xs) - 1) 0) 10) refl
  where
    l : List ℕ
    l = x ∷ xs

    go : (t : Bool) → eqb (get_or l (length l - 1) 0) 10 ≡ t → (l ≡ without_line_feed l) ⊎ (l ≡ without_line_feed l ++ 10 ∷ [])
    go true e =
        let all : length l ≡ suc (length l - 1) = omega arith in
        let last : get_or l (length l - 1) 0 ≡ 10 = eqb-true _ 10 e in
        inr (sym (take-length l) ∙ ap (λ (n : ℕ). take n l) all ∙ take-suc l (length l - 1) 0 (omega arith) ∙ rw (last, digits-line l e))
    go false e = inl (sym (take-length l) ∙ digits-all l e)

-- where a packet is asked for, the digits are those of its number
asked-back : (l : List ℕ) → 1 ≤ asked l → without_line_feed l ≡ decimal (asked l)
unfolding asked is_asked is_number
asked-back l h = go (are_digits d) (ltb 0 (length d)) (eqb (get_or d 0 0) 48) (leb (spelt d 0) 16362) refl refl refl refl h
  where
    d : List ℕ
    d = without_line_feed l

    go : (a b z m : Bool) → are_digits d ≡ a → ltb 0 (length d) ≡ b → eqb (get_or d 0 0) 48 ≡ z → leb (spelt d 0) 16362 ≡ m
        → 1 ≤ cond (a && b && not z && m) (spelt d 0) 0 → d ≡ decimal (cond (a && b && not z && m) (spelt d 0) 0)
    go true true false true p q r s h = spelt_back d p (ltb-true 0 (length d) q) r (omega (arith, leb-true (spelt d 0) 16362 s))
    go true true false false p q r s h = absurd (omega arith)
    go true true true m p q r s h = absurd (omega arith)
    go true false z m p q r s h = absurd (omega arith)
    go false b z m p q r s h = absurd (omega arith)

-- and that is one of those that fit
asked-most : (l : List ℕ) → asked l ≤ 16362
unfolding asked is_asked
asked-most l = go (is_number d && not (eqb (get_or d 0 0) 48)) (leb (spelt d 0) 16362) refl
  where
    d : List ℕ
    d = without_line_feed l

    go : (t m : Bool) → leb (spelt d 0) 16362 ≡ m → cond (t && m) (spelt d 0) 0 ≤ 16362
    go true true e = leb-true (spelt d 0) 16362 e
    go true false e = omega arith
    go false m e = omega arith

-- "(else it writes nothing)"
pub only-digits-ask : OnlyDigitsAsk
only-digits-ask l h = (
  asked-most l,
  ⊎_elim (λ e. inl (e ∙ asked-back l h)) (λ e. inr (e ∙ ap (λ (d : List ℕ). d ++ 10 ∷ []) (asked-back l h))) (ends l),
)
