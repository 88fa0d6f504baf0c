-- The laws of numbers in bytes, the lowest byte first, each once, for every width.
-- Assumes nothing.
use mathlib.Core.Path.{◌≡◌, refl, sym, ap, ap₂, ◌∙◌}
use mathlib.Core.List.{List, [], ◌∷◌, ◌++◌}
use Prim.Native.Nat.{ℕ, zero, suc, ◌+◌, ◌-◌, ◌*◌, ◌/◌, ◌%◌, ◌^◌, ◌≤◌, ◌<◌}
use native.Mathlib.Nat.{zero-add, suc-add, mul_assoc, mul_comm, suc-mul, mul-le-mul, mul-le-mul_right, pow-suc, pow-succ', one-le-pow, pow-le-pow_right, div-one, div-div-eq-div-mul, add-mul-mod_self_right}
use native.Mathlib.Omega.{arith}
use borrow.Rule.Slice.PartMut.{put_mid}
use lib.Dec.{lit<}
use lib.ListN.{length, get_or, take, drop}
use lib.Pow.{pow-add, shl_exact}
use lib.Seq.{sets, take_at, take-add, drop-drop}
use Rattle.std.specs.Int.{byte_at, bytes_low_first}
use Rattle.octets.specs.Layout.{pad}
use Rattle.octets.proofs.Laws.{part_stored}
use Rattle.copies.proofs.Copied.{one_byte}
use Rattle.words.specs.InnerWords.{low, Spells}

pub length-low : (k n : ℕ) → length (low k n) ≡ k
unfolding low
length-low zero n = refl
length-low (suc k) n = ap suc (length-low k (n / 256))

-- none but zeros
low-zero : (k : ℕ) → low k 0 ≡ pad k []
unfolding low pad
low-zero zero = refl
low-zero (suc k) = ap (λ (s : List ℕ). 0 ∷ s) (low-zero k)

pub zeros-spelt : (k : ℕ) → Spells k 0 (pad k [])
zeros-spelt k = (one-le-pow k 256 (lit< tt), low-zero k)

-- the bytes of a number of j + k bytes are those of its lower part, and those of its upper part
pub low-split : (j k n : ℕ) → low (j + k) n ≡ low j n ++ low k (n / 256 ^ j)
unfolding low
low-split zero k n = rw zero-add (ap (low k) (sym (div-one n)))
low-split (suc j) k n =
    let up : n / 256 ^ suc j ≡ n / 256 / 256 ^ j = ap (λ (m : ℕ). n / m) (pow-succ' 256 j) ∙ sym (div-div-eq-div-mul n 256 (256 ^ j)) in
    rw (suc-add, up) (ap (λ (s : List ℕ). n % 256 ∷ s) (low-split j k (n / 256)))

-- so the first of more bytes are fewer
take-low : (j k n : ℕ) → j ≤ k → take j (low k n) ≡ low j n
take-low j k n h =
    let rest = low (k - j) (n / 256 ^ j) in
    let all : k ≡ j + (k - j) = omega arith in
    ap (λ (m : ℕ). take j (low m n)) all ∙ ap (take j) (low-split j (k - j) n) ∙ take_at (low j n) rest j (length-low j n)

-- byte i of a number, as the library counts them
byte-above : (i n : ℕ) → byte_at i n ≡ n / 256 ^ i % 256
byte-above zero n = ap (λ (m : ℕ). m % 256) (sym (div-one n))
byte-above (suc i) n = refl

-- the library's bytes are `low`
bytes_low : (i k n : ℕ) → bytes_low_first i k n ≡ low k (n / 256 ^ i)
unfolding low
bytes_low i zero n = refl
bytes_low i (suc k) n =
    let up : n / 256 ^ suc i ≡ n / 256 ^ i / 256 = ap (λ (m : ℕ). n / m) (pow-suc 256 i) ∙ sym (div-div-eq-div-mul n (256 ^ i) 256) in
    ap₂ (λ (x : ℕ) (s : List ℕ). x ∷ s) (byte-above i n) (bytes_low (suc i) k n ∙ ap (low k) up)

-- a writer that lays the first of them over a part of a slice stores them
pub written : (j n : ℕ) (l ys : List ℕ) (at : ℕ) → ys ≡ take j (bytes_low_first 0 8 n) → j ≤ 8 → at + j ≤ length l → put_mid at (at + j - at) l ys ≡ sets l at (low j n)
written j n l ys at e h room =
    let same : ys ≡ low j n = e ∙ ap (take j) (bytes_low 0 8 n ∙ ap (low 8) (div-one n)) ∙ take-low j 8 n h in
    part_stored ys l at j (ap length same ∙ length-low j n) room ∙ ap (sets l at) same

-- a number behind one of j bytes
low-join : (j k a b : ℕ) → a < 256 ^ j → low (j + k) (a + b * 256 ^ j) ≡ low j a ++ low k b
unfolding low
low-join zero k a b h =
    let none : a + b * 1 ≡ b = omega arith in
    rw zero-add (ap (low k) none)
low-join (suc j) k a b h =
    let x = b * 256 ^ j in
    let whole : a + b * 256 ^ suc j ≡ a + x * 256 = ap (λ (m : ℕ). a + m) (ap (λ (m : ℕ). b * m) (pow-suc 256 j) ∙ sym (mul_assoc b (256 ^ j) 256)) in
    let first : (a + x * 256) % 256 ≡ a % 256 = add-mul-mod_self_right a x 256 in
    let rest : (a + x * 256) / 256 ≡ a / 256 + x = omega arith in
    let under : a / 256 < 256 ^ j = omega (arith, h, pow-suc 256 j) in
    rw (suc-add, whole, first, rest) (ap (λ (s : List ℕ). a % 256 ∷ s) (low-join j k (a / 256) b under))

-- so a number of j + k bytes is made of one of j and one of k
pub joined : (j k : ℕ) {a b r : ℕ} {s t : List ℕ} → Spells j a s → Spells k b t → r ≡ a + b * 256 ^ j → Spells (j + k) r (s ++ t)
joined j k {a} {b} ha hb e =
    let all : suc b * 256 ^ j ≤ 256 ^ k * 256 ^ j = mul-le-mul_right (256 ^ j) hb.0 in
    let both : 256 ^ (j + k) ≡ 256 ^ k * 256 ^ j = pow-add 256 j k ∙ mul_comm (256 ^ j) (256 ^ k) in
    rw e (omega (arith, ha.0, all, both, suc-mul b (256 ^ j)), low-join j k a b ha.0 ∙ ap₂ ◌++◌ ha.1 hb.1)

-- four bytes at most are half a word
pub half : {n : ℕ} {s : List ℕ} (k : ℕ) → k ≤ 4 → Spells k n s → n < 4294967296
half k h e = omega (arith, e.0, pow-le-pow_right {n = 256} (lit< tt) {i = k} {j = 4} h)

-- a byte has eight bits
bits : (k : ℕ) → 2 ^ (8 * k) ≡ 256 ^ k
bits zero = refl
bits (suc k) =
    let more : 8 * suc k ≡ 8 * k + 8 = omega arith in
    ap (λ (n : ℕ). 2 ^ n) more ∙ pow-add 2 (8 * k) 8 ∙ ap (λ (n : ℕ). n * 256) (bits k) ∙ sym (pow-suc 256 k)

-- so a number is shifted behind k bytes, of which nothing is lost
pub shifted : (k b : ℕ) → k ≤ 4 → b < 4294967296 → b * 2 ^ (8 * k) % 2 ^ 64 ≡ b * 256 ^ k
shifted k b hk hb = shl_exact 32 (8 * k) 64 hb (omega arith) ∙ ap (λ (n : ℕ). b * n) (bits k)

-- and one of k bytes before it leaves the sum a word
pub still-word : (k a b : ℕ) → k ≤ 4 → a < 256 ^ k → b < 4294967296 → a + b * 256 ^ k < 2 ^ 64
still-word k a b hk ha hb =
    let power : 256 ^ k ≤ 4294967296 = pow-le-pow_right {n = 256} (lit< tt) {i = k} {j = 4} hk in
    let all : suc b * 256 ^ k ≤ 4294967296 * 4294967296 = mul-le-mul hb power in
    omega (arith, ha, all, suc-mul b (256 ^ k))

-- a byte is the number of one byte
pub byte-spelt : (x at : ℕ) (t : List ℕ) → at + 1 ≤ length t → x ≡ get_or t at 0 → x ≤ 255 → Spells 1 x (take 1 (drop at t))
unfolding low
byte-spelt x at t h e b =
    let one : x % 256 ≡ x = omega arith in
    (omega arith, rw (one, e) (sym (one_byte t at h)))

-- and two make one of two bytes
pub two-spelt : (x at : ℕ) (t : List ℕ) → at + 2 ≤ length t → x ≡ get_or t at 0 + get_or t (at + 1) 0 * 256 → get_or t at 0 ≤ 255 → get_or t (at + 1) 0 ≤ 255
    → Spells 2 x (take 2 (drop at t))
two-spelt x at t h e low_byte high_byte =
    let first = byte-spelt (get_or t at 0) at t (omega arith) refl low_byte in
    let last = byte-spelt (get_or t (at + 1) 0) (at + 1) t (omega arith) refl high_byte in
    rw (e, take-add 1 1 (drop at t), drop-drop 1 at t) (joined 1 1 first last refl)
