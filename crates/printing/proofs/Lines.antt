-- Bytes laid out in a buffer one run after another, and the digits of a number laid out so.
-- Assumes nothing.
use mathlib.Core.Path.{◌≡◌, refl, sym, ap, ap₂, ◌∙◌}
use mathlib.Core.List.{List, [], ◌∷◌, ◌++◌, append-nil, append_assoc}
use Prim.Native.Nat.{ℕ, ◌+◌, ◌/◌, ◌%◌, ◌^◌, ◌≤◌, ◌<◌}
use native.Mathlib.Omega.{arith}
use native.Mathlib.Numerals.{add-one}
use lib.IntN.{ℤ}
use lib.ListN.{length, drop, set, length-append}
use lib.Seq.{sets, length-sets}
use Rattle.octets.proofs.Laws.{sets-sets}
use Rattle.octets.specs.Octets.{be, signed}
use Rattle.octets.specs.Layout.{total}
use Rattle.mask.specs.Fields.{target_widths}
use Rattle.format.specs.Answer.{Answer, Accepted, Refused}
use Rattle.printing.specs.Printing.{decimal, signed_decimal, spaced, answer_text, target_line}
use Rattle.printing.specs.InnerPut.{Put}
use Rattle.printing.proofs.Digits.{decimal-one, decimal-more, decimal-fits}

-- l with vs stored from `at` on is a, and p is the place behind them
abbrev pub Laid : List ℕ → ℕ → List ℕ → ℕ → List ℕ → Type 0
Laid l at vs p a = (p ≡ at + length vs) × (a ≡ sets l at vs)

-- two runs, the second where the first ends
pub laid-join : (us vs l : List ℕ) (at : ℕ) {p q : ℕ} {a b : List ℕ} → Laid l at us p a → Laid a p vs q b → Laid l at (us ++ vs) q b
laid-join us vs l at h k = (
  k.0 ∙ omega (arith, h.0, length-append us vs),
  k.1 ∙ ap₂ (λ (s : List ℕ) (i : ℕ). sets s i vs) h.1 h.0 ∙ sets-sets us vs l at,
)

-- one byte more
pub laid-byte : (us l : List ℕ) (at v : ℕ) {p : ℕ} {a : List ℕ} → Laid l at us p a → Laid l at (us ++ (v ∷ [])) (p + 1) (set a p v)
laid-byte us l at v h = laid-join us (v ∷ []) l at h (refl, refl)

-- the last digit, where there is none in front of it
pub put_one : (l : List ℕ) (at n : ℕ) {d : ℕ} → n < 10 → d ≡ 48 + n → Laid l at (decimal n) (at + 1) (set l at d)
put_one l at n h e = rw (decimal-one n h, e) (refl, refl)

-- and behind those of a tenth
pub put-more : (l : List ℕ) (at n : ℕ) {p d : ℕ} {a : List ℕ} → 10 ≤ n → d ≡ 48 + n % 10 → Laid l at (decimal (n / 10)) p a → Laid l at (decimal n) (p + 1) (set a p d)
put-more l at n h e k = rw (decimal-more n h, e) (laid-byte (decimal (n / 10)) l at (48 + n % 10) k)

-- the lengths that the two ask
pub length-one : (n : ℕ) → n < 10 → length (decimal n) ≡ 1
length-one n h = ap length (decimal-one n h)

pub length_more : (n : ℕ) → 10 ≤ n → length (decimal n) ≡ length (decimal (n / 10)) + 1
length_more n h = ap length (decimal-more n h) ∙ length-append (decimal (n / 10)) ((48 + n % 10) ∷ [])

-- a word of two letters
pub laid_word : (l : List ℕ) (at x y : ℕ) → Laid l at (x ∷ y ∷ []) (at + 2) (set (set l at x) (at + 1) y)
laid_word l at x y = (refl, rw (add-one at))

-- ---- the same, within so many bytes

-- no bytes
pub put-none : (l : List ℕ) (at : ℕ) → Put 0 l at [] at l
put-none l at = record { next = omega arith; room = omega arith; stored = refl }

module _ {j : ℕ} {us l a : List ℕ} {at p : ℕ} (h : Put j l at us p a) where
  -- two runs, the second where the first ends
  pub put-join : {k q : ℕ} {vs b : List ℕ} → Put k a p vs q b → Put (j + k) l at (us ++ vs) q b
  put-join {vs = vs} k =
      let both = laid-join us vs l at (h.next, h.stored) (k.next, k.stored) in
      record { next = both.0; room = omega arith; stored = both.1 }

  -- one byte more
  pub put_byte : (v : ℕ) → Put (j + 1) l at (us ++ (v ∷ [])) (p + 1) (set a p v)
  put_byte v = put-join (record { next = refl; room = omega arith; stored = refl })

  -- more room than it takes
  pub put-within : {k : ℕ} → j ≤ k → Put k l at us p a
  put-within r = record { next = h.next; room = omega arith; stored = h.stored }

  pub put_same : length a ≡ length l
  put_same = ap length h.stored ∙ length-sets l at us

-- a byte, and the digits of a number behind it
pub put-led : (v : ℕ) (l : List ℕ) (at n : ℕ) {q : ℕ} {b : List ℕ} → length (decimal n) ≤ 20 → Laid (set l at v) (at + 1) (decimal n) q b → Put 21 l at (v ∷ decimal n) q b
put-led v l at n f h =
    let both = laid-join (v ∷ []) (decimal n) l at (refl, refl) h in
    record { next = both.0; room = omega (arith, h.0); stored = both.1 }

-- a space, and the number
pub put-space : (l : List ℕ) (at n : ℕ) {q : ℕ} {b : List ℕ} → n < 2 ^ 64 → Laid (set l at 32) (at + 1) (decimal n) q b → Put 21 l at (spaced (n ∷ [])) q b
unfolding spaced
put-space l at n f h = rw (append-nil (decimal n)) (put-led 32 l at n (decimal-fits n f) h)

-- numbers in a row, each after a space
spaced-append : (ns ms : List ℕ) → spaced (ns ++ ms) ≡ spaced ns ++ spaced ms
unfolding spaced
spaced-append [] ms = refl
spaced-append (n ∷ ns) ms = ap (λ (l : List ℕ). 32 ∷ l) (ap (λ (l : List ℕ). decimal n ++ l) (spaced-append ns ms) ∙ sym (append_assoc (decimal n) (spaced ns) (spaced ms)))

pub spaced-join : (ns ms : List ℕ) {j k at p q : ℕ} {l a b : List ℕ} → Put j l at (spaced ns) p a → Put k a p (spaced ms) q b → Put (j + k) l at (spaced (ns ++ ms)) q b
spaced-join ns ms h k = rw (spaced-append ns ms) (put-join h k)

-- an answer: a word of two letters and its numbers
put_word : (l : List ℕ) (at x y : ℕ) → Put 2 l at (x ∷ y ∷ []) (at + 2) (set (set l at x) (at + 1) y)
put_word l at x y = record { next = refl; room = omega arith; stored = (laid_word l at x y).1 }

module _ (l : List ℕ) (at : ℕ) where
  pub put-accepted : {x : Answer} {segments dwells targets n p q : ℕ} {a b : List ℕ}
      → x ≡ Accepted segments dwells targets n
      → Put 63 (set (set l at 111) (at + 1) 107) (at + 2) (spaced (segments ∷ dwells ∷ targets ∷ [])) p a
      → Put 21 a p (spaced (n ∷ [])) q b
      → Put 86 l at (answer_text x) q b
  unfolding answer_text
  put-accepted e h k = rw e (put-join (put_word l at 111 107) (spaced-join _ _ h k))

  pub put_refused : {x : Answer} {number segment field q : ℕ} {b : List ℕ}
      → x ≡ Refused number segment field
      → Put 63 (set (set l at 110) (at + 1) 111) (at + 2) (spaced (number ∷ segment ∷ field ∷ [])) q b
      → Put 86 l at (answer_text x) q b
  unfolding answer_text
  put_refused e h = rw e (put-within (put-join (put_word l at 110 111) h) (omega arith))

  -- the line of a target, of the numbers read
  pub put-target : (b : List ℕ) {z : ℤ} {n p q : ℕ} {a c : List ℕ}
      → z ≡ signed 4 (drop (total target_widths) b)
      → n ≡ be 4 (drop (total target_widths + 4) b)
      → Put 21 l at (signed_decimal z) p a
      → Put 21 a p (spaced (n ∷ [])) q c
      → Put 43 l at (target_line b) (q + 1) (set c q 10)
  unfolding target_line
  put-target b ez en h k = rw (← ez, ← en) (put_byte (put-join h k) 10)
