-- What the library's conversions say, in the words of `Octets`: a number's bytes, highest first.
-- Assumes nothing.
use mathlib.Core.Path.{◌≡◌, refl, sym, ap, ap₂, ◌∙◌}
use mathlib.Core.List.{List, [], ◌∷◌, ◌++◌}
use Prim.Native.Nat.{ℕ, zero, suc, ◌+◌, ◌-◌, ◌/◌, ◌%◌, ◌^◌, ◌≤◌}
use native.Mathlib.Nat.{pow-succ', div-div-eq-div-mul}
use borrow.Rule.Slice.PartMut.{put_mid}
use lib.ListN.{length}
use lib.Seq.{sets}
use Rattle.std.specs.Int.{byte_at, bytes_high_first}
use Rattle.octets.specs.Octets.{bytes}
use Rattle.octets.proofs.Laws.{length-bytes, part_stored}

-- byte k + 1 of a number is byte k of all but its lowest
higher : (k n : ℕ) → byte_at (suc k) n ≡ byte_at k (n / 256)
higher zero n = refl
higher (suc k) n = ap (λ (m : ℕ). m % 256) (ap (λ (m : ℕ). n / m) (pow-succ' 256 (suc k)) ∙ sym (div-div-eq-div-mul n 256 (256 ^ suc k)))

-- the lowest comes last
lowest : (k n : ℕ) → bytes_high_first (suc k) n ≡ bytes_high_first k (n / 256) ++ (n % 256 ∷ [])
lowest zero n = refl
lowest (suc k) n = ap₂ (λ (x : ℕ) (l : List ℕ). x ∷ l) (higher k n) (lowest k n)

-- so the library's bytes are `bytes`
pub bytes_high : (k n : ℕ) → bytes_high_first k n ≡ bytes k n
unfolding bytes
bytes_high zero n = refl
bytes_high (suc k) n = lowest k n ∙ ap (λ (l : List ℕ). l ++ (n % 256 ∷ [])) (bytes_high k (n / 256))

-- a writer that lays a number's bytes over a part of a slice stores them
pub written : (k n : ℕ) (l ys : List ℕ) (at : ℕ) → ys ≡ bytes_high_first k n → at + k ≤ length l → put_mid at (at + k - at) l ys ≡ sets l at (bytes k n)
written k n l ys at e h =
    let same : ys ≡ bytes k n = e ∙ bytes_high k n in
    part_stored ys l at k (ap length same ∙ length-bytes k n) h ∙ ap (sets l at) same
