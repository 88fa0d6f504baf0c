-- The cases of characters, the turns of the loops over text, and the lines that are written.
-- Assumes nothing.
use mathlib.Core.Path.{◌≡◌, refl, ap, ◌∙◌}
use mathlib.Core.Bool.{Bool, true, false, ◌&&◌, cond, and-true, and-false, and-eq-true_iff}
use mathlib.Core.List.{List, [], ◌∷◌, ◌++◌}
use Prim.Native.Nat.{ℕ, zero, suc, ◌+◌, ◌-◌, ◌*◌, ◌/◌, ◌%◌, ◌≤◌, ◌<◌}
use native.Mathlib.Nat.{add-zero}
use native.Mathlib.Numerals.{add-one}
use native.Mathlib.Omega.{arith}
use borrow.Author.Tests.{lt-ltb, le-ltb, ltb-true, lt-leb, leb-true, leb-false}
use lib.Dec.{ltb, leb, eqb}
use lib.ListN.{length, get_or, take, drop, set, length-drop, length-set, length-append, drop_of_length-le}
use lib.Seq.{sets, drop-cons, drop-drop, get_or-drop}
use Rattle.std.proofs.Common.{Some, None, Result, Ok, Err, IsOk}
use Rattle.std.proofs.lemmas.Bool.Decides.{nat_tests}
use Rattle.std.specs.Char.{is_ascii_digit}
use Rattle.std.specs.List.{list_all, starts_with}
use Rattle.std.proofs.lemmas.List.{take_all}
use Rattle.format.specs.Answer.{Answer}
use Rattle.printing.specs.Printing.{answer_text}
use Rattle.printing.proofs.Lines.{Laid, laid-join, laid-byte}
use Rattle.vectors.specs.Vectors.{is_colon, is_digit, are_digits, is_number, with_digit, spelt, number_of, nibble, is_hex, hex_fault, pairs, hex_digit, hexed, fault_text, unread_line, vector_line}
use Rattle.vectors.specs.declared.Fault.{Fault}
use Rattle.vectors.specs.declared.Fault.TheVariants.{Digit, Half}

-- std's test of the first bytes
pub eqb-sym : (x y : ℕ) → eqb x y ≡ eqb y x
eqb-sym x y = grind (arith, nat_tests)

colon_is : (s : List ℕ) → starts_with eqb s (58 ∷ 32 ∷ []) ≡ is_colon s
unfolding is_colon
colon_is [] = refl
colon_is (x ∷ []) = simp and-false
colon_is (x ∷ y ∷ s) = rw (eqb-sym 58 x, eqb-sym 32 y, and-true)

pub colon_at : (s : List ℕ) (at : ℕ) {r : Bool} → r ≡ starts_with eqb (take (length s - at) (drop at s)) (58 ∷ 32 ∷ []) → r ≡ is_colon (drop at s)
colon_at s at e = e ∙ ap (λ (t : List ℕ). starts_with eqb t (58 ∷ 32 ∷ [])) (take_all (length s - at) (drop at s) (omega (arith, length-drop at s))) ∙ colon_is (drop at s)

-- a digit is in its range
pub digit-range : (c : ℕ) → is_digit c ≡ true → (48 ≤ c) × (c ≤ 57)
unfolding is_digit
digit-range c h = let e = (and-eq-true_iff (leb 48 c) (leb c 57)).0 h in (leb-true 48 c e.0, leb-true c 57 e.1)

-- the tests of text that std's search makes of each character
digits-all : (s : List ℕ) → list_all is_ascii_digit s ≡ are_digits s
unfolding are_digits is_digit
digits-all [] = refl
digits-all (c ∷ s) = rw (digits-all s)

pub number_is : (s : List ℕ) {r : Bool} → r ≡ list_all is_ascii_digit s → 0 < length s → r ≡ is_number s
unfolding is_number
number_is s e h = rw (e, lt-ltb 0 (length s) h, digits-all s, and-true)

pub number-none : (s : List ℕ) → length s ≡ 0 → false ≡ is_number s
unfolding is_number
number-none s h = rw (h, and-false)

pub hex-all : (s : List ℕ) → list_all (λ c. ltb (nibble c) 16) s ≡ is_hex s
unfolding is_hex
hex-all [] = refl
hex-all (c ∷ s) = rw (hex-all s)

-- each digit of text without a fault is below 16
hex_at : (s : List ℕ) (i : ℕ) → is_hex s ≡ true → i < length s → nibble (get_or s i 0) < 16
unfolding is_hex
hex_at [] i h k = absurd (omega arith)
hex_at (c ∷ s) zero h k = ltb-true (nibble c) 16 ((and-eq-true_iff (ltb (nibble c) 16) (is_hex s)).0 h).0
hex_at (c ∷ s) (suc i) h k = hex_at s i ((and-eq-true_iff (ltb (nibble c) 16) (is_hex s)).0 h).1 (omega arith)

pub nibble-below : (s : List ℕ) (i : ℕ) → IsOk (hex_fault s) → i < length s → nibble (get_or s i 0) < 16
unfolding hex_fault
nibble-below s i h k = hex_at s i (go (is_hex s) (eqb (length s % 2) 0) h) k
  where
    go : (x y : Bool) → IsOk (cond x (cond y (Ok (tt {0})) (Err Half)) (Err Digit)) → x ≡ true
    go true y e = refl
    go false y e = e

-- one digit more
pub spelt-turn : (s : List ℕ) (i n : ℕ) → i < length s → spelt (drop (i + 1) s) (with_digit n (get_or s i 0)) ≡ spelt (drop i s) n
unfolding spelt
spelt-turn s i n h = rw (drop-cons s i 0 h, add-one i)

pub spelt-end : (s : List ℕ) (i n : ℕ) → length s ≤ i → spelt (drop i s) n ≡ n
unfolding spelt
spelt-end s i n h = rw (drop_of_length-le s h)

-- what a number's being found says, and its not being found
pub number-some : (s : List ℕ) {n : ℕ} → number_of s ≡ Some n → (is_number s ≡ true) × (n ≡ spelt s 0)
unfolding number_of
number-some s {n} h = go (is_number s) (leb (spelt s 0) 4294967295) h
  where
    go : (x y : Bool) → cond (x && y) (Some (spelt s 0)) None ≡ Some n → (x ≡ true) × (n ≡ spelt s 0)
    go true true e = (refl, cc)
    go true false e = cc
    go false y e = cc

pub number_missing : (s : List ℕ) (most : ℕ) → most ≤ 4294967295 → number_of s ≡ None → (is_number s && leb (spelt s 0) most) ≡ false
unfolding number_of
number_missing s most k h = go (is_number s) (leb (spelt s 0) 4294967295) refl h
  where
    go : (x y : Bool) → leb (spelt s 0) 4294967295 ≡ y → cond (x && y) (Some (spelt s 0)) None ≡ None → (x && leb (spelt s 0) most) ≡ false
    go true true f e = cc
    go true false f e = lt-leb (spelt s 0) most (omega (arith, leb-false (spelt s 0) 4294967295 f))
    go false y f e = refl

-- a store more: v at p, and vs behind it
stored : (l : List ℕ) (p v : ℕ) (vs : List ℕ) → sets (set l p v) (p + 1) vs ≡ sets l p (v ∷ vs)
stored l p v vs = rw (add-one p)

-- a pair of hex digits more
pub hexed-turn : (s l : List ℕ) (p i : ℕ) → i < length s
    → sets (set (set l p (hex_digit (get_or s i 0 / 16))) (p + 1) (hex_digit (get_or s i 0 % 16))) (p + 2) (hexed (drop (i + 1) s)) ≡ sets l p (hexed (drop i s))
unfolding hexed
hexed-turn s l p i h =
    let e : p + 2 ≡ p + 1 + 1 = omega arith in
    rw (drop-cons s i 0 h, e, stored, stored, add-one i)

pub hexed-end : (s l : List ℕ) (p i : ℕ) → length s ≤ i → sets l p (hexed (drop i s)) ≡ l
unfolding hexed
hexed-end s l p i h = rw (drop_of_length-le s h)

length-hexed : (s : List ℕ) → length (hexed s) ≡ 2 * length s
unfolding hexed
length-hexed [] = refl
length-hexed (x ∷ s) = let h = length-hexed s in omega arith

-- of n pairs the first i are stored in o, and the others, stored behind them, give the whole
pub record Spelt (s l o : List ℕ) (n i : ℕ) : Type 0 where
  pub k : ℕ
  pub left : i + k ≡ n
  pub same : length o ≡ length l
  pub rest : sets o i (pairs k (drop (2 * i) s)) ≡ sets l 0 (pairs n s)

pub pairs_start : (s l : List ℕ) (n : ℕ) → Spelt s l l n 0
pairs_start s l n = record { k = n; left = omega arith; same = refl; rest = refl }

pub pairs-turn : (s l o : List ℕ) (n i : ℕ) {v : ℕ} → i < n → Spelt s l o n i → v ≡ nibble (get_or s (2 * i) 0) * 16 + nibble (get_or s (2 * i + 1) 0) → Spelt s l (set o i v) n (i + 1)
unfolding pairs
pairs-turn s l o n i {v} h w e = go w.k w.left w.rest
  where
    go : (k : ℕ) → i + k ≡ n → sets o i (pairs k (drop (2 * i) s)) ≡ sets l 0 (pairs n s) → Spelt s l (set o i v) n (i + 1)
    go zero a b = absurd (omega arith)
    go (suc k) a b =
        let j : 2 * (i + 1) ≡ 2 * i + 2 = omega arith in
        let f : v ≡ nibble (get_or (drop (2 * i) s) 0 0) * 16 + nibble (get_or (drop (2 * i) s) 1 0) = rw (get_or-drop (2 * i) s 0 0, get_or-drop (2 * i) s 1 0, add-zero) e in
        record {
          k = k;
          left = omega arith;
          same = length-set o i v ∙ w.same;
          rest = rw (j, ← drop-drop 2 (2 * i) s, stored o i v (pairs k (drop 2 (drop (2 * i) s))), f) b;
        }

pub pairs_end : (s l o : List ℕ) (n i : ℕ) → n ≤ i → Spelt s l o n i → o ≡ sets l 0 (pairs n s)
unfolding pairs
pairs_end s l o n i h w = go w.k w.left w.rest
  where
    go : (k : ℕ) → i + k ≡ n → sets o i (pairs k (drop (2 * i) s)) ≡ sets l 0 (pairs n s) → o ≡ sets l 0 (pairs n s)
    go zero a b = b
    go (suc k) a b = absurd (omega arith)

-- the digit of a number below 16
pub hex-low : (d : ℕ) → d < 10 → hex_digit d ≡ 48 + d
unfolding hex_digit
hex-low d h = rw (lt-ltb d 10 h)

pub hex-high : (d : ℕ) → 10 ≤ d → hex_digit d ≡ 87 + d
unfolding hex_digit
hex-high d h = rw (le-ltb d 10 h)

-- the parts of a line, in the words of the contracts of `put_name` and `put_hex`
pub name-laid : (name l : List ℕ) {p q : ℕ} {a b : List ℕ} → p ≡ 0 + length name → a ≡ sets l 0 name → q ≡ p + 2 → b ≡ sets a p (58 ∷ 32 ∷ []) → b ≡ sets l 0 (name ++ (58 ∷ 32 ∷ []))
name-laid name l e h f k = (laid-join name (58 ∷ 32 ∷ []) l 0 (e, h) (f, k)).1

pub label-laid : (name l : List ℕ) {p : ℕ} {a : List ℕ} → p ≡ length name + 2 → a ≡ sets l 0 (name ++ (58 ∷ 32 ∷ [])) → Laid l 0 (name ++ (58 ∷ 32 ∷ [])) p a
label-laid name l e h = (omega (arith, length-append name (58 ∷ 32 ∷ [])), h)

pub hex-laid : (s l : List ℕ) (at : ℕ) {q : ℕ} {b : List ℕ} → q ≡ at + 2 * length s → b ≡ sets l at (hexed s) → Laid l at (hexed s) q b
hex-laid s l at e h = (omega (arith, length-hexed s), h)

-- the line of a vector: the name and a colon, the answer, the sheet and the end
pub line-laid : (name l sheet : List ℕ) (x : Answer) {p q r : ℕ} {a b d : List ℕ}
    → Laid l 0 (name ++ (58 ∷ 32 ∷ [])) p a
    → Laid a p (answer_text x) q b
    → Laid (set b q 32) (q + 1) (hexed sheet) r d
    → Laid l 0 (vector_line name x sheet) (r + 1) (set d r 10)
unfolding vector_line
line-laid name l sheet x {q = q} {b = b} h k m =
    laid-byte (name ++ (58 ∷ 32 ∷ []) ++ answer_text x ++ (32 ∷ hexed sheet)) l 0 10
    (laid-join (name ++ (58 ∷ 32 ∷ []) ++ answer_text x) (32 ∷ hexed sheet) l 0
    (laid-join (name ++ (58 ∷ 32 ∷ [])) (answer_text x) l 0 h k)
    (laid-join (32 ∷ []) (hexed sheet) b q (refl, refl) m))

-- the line that says so
pub unread-laid : (name l : List ℕ) (f : Result (Unit {0}) Fault) {p q : ℕ} {a b : List ℕ}
    → Laid l 0 (name ++ (58 ∷ 32 ∷ [])) p a
    → Laid a p (fault_text f) q b
    → Laid l 0 (unread_line name f) (q + 1) (set b q 10)
unfolding unread_line
unread-laid name l f h k = laid-byte (name ++ (58 ∷ 32 ∷ []) ++ fault_text f) l 0 10 (laid-join (name ++ (58 ∷ 32 ∷ [])) (fault_text f) l 0 h k)
