-- A part of a list, from a place to the end, that is lent to a function: what the function says of the part, said of the whole.
-- Assumes nothing.
use mathlib.Core.Path.{◌≡◌, refl, sym, ap, ◌∙◌}
use mathlib.Core.List.{List, [], ◌∷◌, ◌++◌, append-nil}
use Prim.Native.Nat.{ℕ, suc, ◌+◌, ◌-◌, ◌≤◌}
use native.Mathlib.Nat.{le_of_eq, le-add_right, add-suc, add-zero}
use native.Mathlib.Omega.{arith}
use lib.ListN.{length, take, drop, set, length-drop, take-append-drop, drop_of_length-le}
use lib.Seq.{sets, take_all, drop-set-add, take-set-le, length-take-le, length-sets}
use borrow.Rule.Slice.PartMut.{mid_of, put_mid}
use Rattle.octets.proofs.Laws.{then}

-- the part from a to the end is what is left after a places
pub tail-is : (a : ℕ) (l : List ℕ) → mid_of a (length l - a) l ≡ drop a l
tail-is a l = take_all (length l - a) (drop a l) (le_of_eq (length-drop a l))

-- put back, it has nothing after it
pub put-tail : (a : ℕ) (l ys : List ℕ) → put_mid a (length l - a) l ys ≡ take a l ++ ys
put-tail a l ys =
    ap (λ (r : List ℕ). take a l ++ (ys ++ r)) (drop_of_length-le (drop a l) (le_of_eq (length-drop a l)))
    ∙ ap (λ (r : List ℕ). take a l ++ r) (append-nil ys)

-- stores in the part are stores in the whole
pub sets-tail : (a : ℕ) (vs l : List ℕ) (i : ℕ) → take a l ++ sets (drop a l) i vs ≡ sets l (a + i) vs
sets-tail a [] l i = take-append-drop a l
sets-tail a (v ∷ vs) l i =
    let m = set l (a + i) v in
    ap (λ (r : List ℕ). r ++ sets (set (drop a l) i v) (suc i) vs) (sym (take-set-le a l (a + i) v (le-add_right a i)))
    ∙ ap (λ (r : List ℕ). take a m ++ sets r (suc i) vs) (sym (drop-set-add a l i v))
    ∙ sets-tail a vs m (suc i)
    ∙ ap (λ (n : ℕ). sets m n vs) (add-suc a i)

-- stores in a part that was lent are stores in the whole that comes back
pub part-stored : (l vs : List ℕ) (a at : ℕ) {r : List ℕ} → r ≡ sets (mid_of a (length l - a) l) at vs → put_mid a (length l - a) l r ≡ sets l (a + at) vs
part-stored l vs a at {r} e =
    put-tail a l r ∙ ap (λ (t : List ℕ). take a l ++ t) (e ∙ ap (λ (t : List ℕ). sets t at vs) (tail-is a l)) ∙ sets-tail a vs l at

-- the same where the part was stored from its first place on
pub part_filled : (l vs : List ℕ) (a : ℕ) {r : List ℕ} → r ≡ sets (mid_of a (length l - a) l) 0 vs → put_mid a (length l - a) l r ≡ sets l a vs
part_filled l vs a e = part-stored l vs a 0 e ∙ ap (λ (n : ℕ). sets l n vs) (add-zero a)

-- where it stores at the front of the part, and what is left is stored behind that
pub filled_next : (o rest e : List ℕ) (to n : ℕ) {p : List ℕ} → n ≡ length e → p ≡ sets (mid_of to (length o - to) o) 0 e
    → sets (put_mid to (length o - to) o p) (to + n) rest ≡ sets o to (e ++ rest)
filled_next o rest e to n h q = then e rest o to n (part_filled o e to q) (sym h) refl

-- and the list keeps its length
pub filled-length : (o e : List ℕ) (to : ℕ) {p : List ℕ} → p ≡ sets (mid_of to (length o - to) o) 0 e → length (put_mid to (length o - to) o p) ≡ length o
filled-length o e to q = ap length (part_filled o e to q) ∙ length-sets o to e

-- ---- the n bytes from i on, as code cuts a part out

pub part-is : (x : List ℕ) (i n : ℕ) → take (i + n - i) (drop i x) ≡ take n (drop i x)
part-is x i n =
    let e : i + n - i ≡ n = omega arith in
    ap (λ (m : ℕ). take m (drop i x)) e

pub length_part : (x : List ℕ) (i n : ℕ) → i + n ≤ length x → length (take (i + n - i) (drop i x)) ≡ n
length_part x i n h = ap length (part-is x i n) ∙ length-take-le n (drop i x) (rw (length-drop i x) (omega arith))
