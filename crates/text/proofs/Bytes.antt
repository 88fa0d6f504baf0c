-- A turn of the loop over bytes, for any set and its limit; and the two ranks, the second computed for every byte.
-- Assumes nothing.
use Rattle.std.proofs.Common.{min, ◌≡◌, ℕ, ◌+◌, ◌-◌, ◌%◌, ◌<◌, max, Bool, true, false, ◌&&◌, leb, List, [], ◌∷◌, ◌++◌, sym, refl, ap, ◌∙◌, ap₂, zero-le, arith, le-leb, leb-false, leb-true}
use mathlib.Core.Bool.{and_assoc, and-true, beq}
use borrow.Author.Tests.{lt-leb}
use lib.Bits.{bit_xor}
use Rattle.octets.proofs.Computed.{from_all, beq-eq}
use Rattle.text.specs.Text.{is_line_byte, is_text_byte, all}

-- the greater of two numbers is at most k just where both are
greater-within : (a b k : ℕ) → leb (max a b) k ≡ (leb a k && leb b k)
greater-within a b k = go (leb a k) refl (leb b k) refl
  where
    go : (x : Bool) → leb a k ≡ x → (y : Bool) → leb b k ≡ y → leb (max a b) k ≡ (x && y)
    go true h true g = le-leb (max a b) k (omega (arith, leb-true a k h, leb-true b k g))
    go true h false g = lt-leb (max a b) k (omega (arith, leb-false b k g))
    go false h y g = lt-leb (max a b) k (omega (arith, leb-false a k h))

-- a set whose bytes, and no others, have ranks up to a limit
module _ (is_in : ℕ → Bool) (limit : ℕ) where
  -- whether bytes are in the set is told by the highest of their ranks
  abbrev pub Told : List ℕ → ℕ → Type 0
  Told s highest = leb highest limit ≡ all is_in s

  all-push : (s : List ℕ) (c : ℕ) → all is_in (s ++ (c ∷ [])) ≡ (all is_in s && is_in c)
  unfolding all
  all-push [] c = and-true (is_in c)
  all-push (b ∷ s) c = rw (all-push s c) (sym (and_assoc (is_in b) (all is_in s) (is_in c)))

  -- one byte more
  pub told-more : (s : List ℕ) (highest c rank next : ℕ) → Told s highest → leb rank limit ≡ is_in c → next ≡ max highest rank → Told (s ++ (c ∷ [])) next
  told-more s highest c rank next w e more = ap (λ (n : ℕ). leb n limit) more ∙ greater-within highest rank limit ∙ ap₂ ◌&&◌ w e ∙ sym (all-push s c)

-- a byte of a line is at most 94 above the space, and no other byte is, where one below the space counts as 256 more
pub line-within : (c r : ℕ) → r < 256 → (r + 0x20) % 256 ≡ c → leb r 94 ≡ is_line_byte c
unfolding is_line_byte
line-within c r h e = go (leb 0x20 c) refl (leb c 0x7E) refl
  where
    go : (x : Bool) → leb 0x20 c ≡ x → (y : Bool) → leb c 0x7E ≡ y → leb r 94 ≡ (x && y)
    go true p true q = le-leb r 94 (omega (arith, leb-true 0x20 c p, leb-true c 0x7E q))
    go true p false q = lt-leb r 94 (omega (arith, leb-false c 0x7E q))
    go false p y q = lt-leb r 94 (omega (arith, leb-false 0x20 c p))

-- a byte of any text is at most 2 above 0x7C, or at most 2 above 0x0B with its lowest bit turned, and no other byte is: computed for every byte
pub text-within : (c : ℕ) → c < 256 → leb (min ((c + 224) % 256 - 92) ((bit_xor c 1 + 245) % 256)) 2 ≡ is_text_byte c
unfolding is_text_byte is_line_byte
text-within c h =
    beq-eq _ _ (from_all (λ n. beq (leb (min ((n + 224) % 256 - 92) ((bit_xor n 1 + 245) % 256)) 2) (is_text_byte n)) 256 0 tt c zero-le h)
