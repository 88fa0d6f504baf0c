-- The laws of `be` and `bytes`, each once, for every width.
-- Assumes nothing.
use mathlib.Core.Path.{◌≡◌, refl, sym, ap, ap₂, ◌∙◌}
use mathlib.Core.List.{List, [], ◌∷◌, ◌++◌, append-nil, append_assoc}
use Prim.Native.Nat.{ℕ, zero, suc, ◌+◌, ◌-◌, ◌*◌, ◌/◌, ◌%◌, ◌^◌, ◌≤◌, ◌<◌}
use native.Mathlib.Nat.{add-zero, zero-add, add-suc, suc-add, pow-suc, pow-succ', one-le-pow, div-one, div-div-eq-div-mul}
use native.Mathlib.Numerals.{add-one}
use native.Mathlib.Omega.{arith}
use lib.Dec.{lit<}
use lib.Arith.{mod-mul}
use lib.ListN.{length, get_or, take, drop, set, length-append, get_or-append}
use lib.Seq.{sets, sets-eq, get_or-drop, get_or-take, drop-drop, get_or_at, take-suc, length-take-le}
use borrow.Rule.Slice.PartMut.{put_mid}
use Rattle.octets.specs.Octets.{be, bytes}

-- a number of j + k bytes is that of the first j, and that of the k after them
pub be-split : (j k : ℕ) (s : List ℕ) → be (j + k) s ≡ be j s * 256 ^ k + be k (drop j s)
unfolding be
be-split j zero s = rw add-zero (omega arith)
be-split j (suc k) s =
    rw (add-suc, pow-suc, get_or-drop) (omega (arith, be-split j k s))

-- a byte is a number of one byte
pub one_byte : (i : ℕ) (s : List ℕ) → be 1 (drop i s) ≡ get_or s i 0
unfolding be
one_byte i s = zero-add (get_or (drop i s) 0 0) ∙ get_or-drop i s 0 0 ∙ rw (add-zero i)

-- k bytes spell a number below 256 ^ k
pub be-lt : (k : ℕ) (s : List ℕ) → ((i : ℕ) → get_or s i 0 < 256) → be k s < 256 ^ k
unfolding be
be-lt zero s h = omega arith
be-lt (suc k) s h = omega (arith, be-lt k s h, h k, pow-suc 256 k)

-- so a reader of j + k bytes is made of one of j and one of k
pub joined : (j k : ℕ) (s : List ℕ) (at : ℕ) {a b : ℕ} → a ≡ be j (drop at s) → b ≡ be k (drop (at + j) s) → a * 256 ^ k + b ≡ be (j + k) (drop at s)
joined j k s at ha hb = rw (be-split, drop-drop) (cc)

-- a number of 8 bytes from its four parts of 2
pub joined-4 : (s : List ℕ) (at : ℕ) {a b c d : ℕ} → a ≡ be 2 (drop at s) → b ≡ be 2 (drop (at + 2) s) → c ≡ be 2 (drop (at + 4) s) → d ≡ be 2 (drop (at + 6) s)
    → a * 256 ^ 6 + b * 256 ^ 4 + c * 256 ^ 2 + d ≡ be 8 (drop at s)
joined-4 s at {a} {b} {c} {d} ea eb ec ed =
    let high : a * 256 ^ 2 + b ≡ be 4 (drop at s) = joined 2 2 s at ea eb in
    let place : at + 6 ≡ at + 4 + 2 = omega arith in
    let low : c * 256 ^ 2 + d ≡ be 4 (drop (at + 4) s) = joined 2 2 s (at + 4) ec (ed ∙ ap (λ (i : ℕ). be 2 (drop i s)) place) in
    omega (arith, joined 4 4 s at high low)

pub length-bytes : (k n : ℕ) → length (bytes k n) ≡ k
unfolding bytes
length-bytes zero n = refl
length-bytes (suc k) n = length-append (bytes k (n / 256)) (n % 256 ∷ []) ∙ ap (λ (m : ℕ). m + 1) (length-bytes k (n / 256)) ∙ add-one k

-- the bytes of a number of j + k bytes are those of its upper part, and those of its lower part
pub bytes-split : (j k n : ℕ) → bytes (j + k) n ≡ bytes j (n / 256 ^ k) ++ bytes k (n % 256 ^ k)
unfolding bytes
bytes-split j zero n = rw (add-zero, append-nil) (ap (bytes j) (sym (div-one n)))
bytes-split j (suc k) n =
    let p : 0 < 256 ^ k = one-le-pow k 256 (lit< tt) in
    let up : n / 256 ^ suc k ≡ n / 256 / 256 ^ k = ap (λ (m : ℕ). n / m) (pow-succ' 256 k) ∙ sym (div-div-eq-div-mul n 256 (256 ^ k)) in
    let low : n % 256 ^ suc k ≡ (n / 256 % 256 ^ k) * 256 + n % 256 = ap (λ (m : ℕ). n % m) (pow-suc 256 k) ∙ mod-mul n p (lit< tt) in
    let rest : n % 256 ^ suc k / 256 ≡ n / 256 % 256 ^ k = omega arith in
    let last : n % 256 ^ suc k % 256 ≡ n % 256 = omega arith in
    rw (add-suc, up, rest, last, bytes-split j k (n / 256)) (append_assoc (bytes j (n / 256 / 256 ^ k)) (bytes k (n / 256 % 256 ^ k)) (n % 256 ∷ []))

-- two runs of stores, the second where the first ends, are one
pub sets-sets : (us vs l : List ℕ) (i : ℕ) → sets (sets l i us) (i + length us) vs ≡ sets l i (us ++ vs)
sets-sets [] vs l i = rw add-zero
sets-sets (u ∷ us) vs l i = rw (add-suc, ← suc-add) (sets-sets us vs (set l i u) (suc i))

-- so a writer of j + k bytes is made of one of j and one of k
pub stored : (j k : ℕ) (l : List ℕ) (at n : ℕ) {a b : List ℕ}
    → a ≡ sets l at (bytes j (n / 256 ^ k)) → b ≡ sets a (at + j) (bytes k (n % 256 ^ k)) → b ≡ sets l at (bytes (j + k) n)
stored j k l at n ha hb =
    hb ∙ ap (λ (s : List ℕ). sets s (at + j) (bytes k (n % 256 ^ k))) ha
    ∙ ap (λ (m : ℕ). sets (sets l at (bytes j (n / 256 ^ k))) (at + m) (bytes k (n % 256 ^ k))) (sym (length-bytes j (n / 256 ^ k)))
    ∙ sets-sets (bytes j (n / 256 ^ k)) (bytes k (n % 256 ^ k)) l at
    ∙ ap (sets l at) (sym (bytes-split j k n))

-- reading what was written gives the number, modulo the width
pub be-bytes : (k n : ℕ) (r : List ℕ) → be k (bytes k n ++ r) ≡ n % 256 ^ k
unfolding be bytes
be-bytes zero n r = omega arith
be-bytes (suc k) n r =
    let p : 0 < 256 ^ k = one-le-pow k 256 (lit< tt) in
    let low : n % 256 ^ suc k ≡ (n / 256 % 256 ^ k) * 256 + n % 256 = ap (λ (m : ℕ). n % m) (pow-suc 256 k) ∙ mod-mul n p (lit< tt) in
    rw (append_assoc, be-bytes k (n / 256) ((n % 256 ∷ []) ++ r), get_or_at (bytes k (n / 256)) (n % 256) r 0 k (length-bytes k (n / 256))) (sym low)

-- writing what was read gives the bytes that were there
pub bytes-be : (k : ℕ) (s : List ℕ) → k ≤ length s → ((i : ℕ) → get_or s i 0 < 256) → bytes k (be k s) ≡ take k s
unfolding be bytes
bytes-be zero s l h = refl
bytes-be (suc k) s l h =
    let b = h k in
    let up : (be k s * 256 + get_or s k 0) / 256 ≡ be k s = omega arith in
    let low : (be k s * 256 + get_or s k 0) % 256 ≡ get_or s k 0 = omega arith in
    rw (up, low, bytes-be k s (omega arith) h) (sym (take-suc s k 0 l))

-- what a run of stores leaves: the bytes stored, and everything else as it was
pub stores-are : (vs l : List ℕ) (i : ℕ) → i + length vs ≤ length l → sets l i vs ≡ take i l ++ vs ++ drop (i + length vs) l
stores-are vs l i h = sets-eq vs l i h

-- so a part of a slice that was written over is a run of stores
pub part_stored : (ys l : List ℕ) (a n : ℕ) → length ys ≡ n → a + n ≤ length l → put_mid a (a + n - a) l ys ≡ sets l a ys
part_stored ys l a n hn h =
    let fits : a + length ys ≤ length l = omega arith in
    let width : a + n - a ≡ n = omega arith in
    rw (stores-are ys l a fits, width, drop-drop, hn) (sym (append_assoc (take a l) ys (drop (a + n) l)))

-- a run of writes, each where the one before it ends: the bytes one after another
pub then : (us vs l : List ℕ) (at n : ℕ) {a b : List ℕ} → a ≡ sets l at us → length us ≡ n → b ≡ sets a (at + n) vs → b ≡ sets l at (us ++ vs)
then us vs l at n ha hn hb =
    hb ∙ ap (λ (s : List ℕ). sets s (at + n) vs) ha ∙ ap (λ (m : ℕ). sets (sets l at us) (at + m) vs) (sym hn) ∙ sets-sets us vs l at

-- a number goes by its own bytes alone
pub same-be : (k : ℕ) (s t : List ℕ) → ((i : ℕ) → i < k → get_or s i 0 ≡ get_or t i 0) → be k s ≡ be k t
unfolding be
same-be zero s t h = refl
same-be (suc k) s t h = ap₂ (λ (x y : ℕ). x * 256 + y) (same-be k s t (λ i l. h i (omega arith))) (h k (omega arith))

-- so by none behind them
pub be-front : (k : ℕ) (b c : List ℕ) → k ≤ length b → be k (b ++ c) ≡ be k b
be-front k b c h = same-be k (b ++ c) b (λ i l. get_or-append b c 0 i (omega arith))

-- and it can be read where its bytes were laid
pub be-taken : (k : ℕ) (b c : List ℕ) → k ≤ length b → be k (take k b ++ c) ≡ be k b
be-taken k b c h = be-front k (take k b) c (rw (length-take-le k b h) (omega arith)) ∙ same-be k (take k b) b (λ i l. get_or-take k b i 0 l)
