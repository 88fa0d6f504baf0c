-- The constant words, each with the fields that it stands for: computed.
-- Assumes nothing.
use mathlib.Core.Path.{◌≡◌, ◌∙◌}
use mathlib.Core.Bool.{not, ◌&&◌}
use mathlib.Core.List.{List, [], ◌∷◌}
use Prim.Native.Nat.{ℕ, ◌≤◌, ◌<◌, ◌^◌}
use lib.Bits.{bit_and}
use lib.Dec.{T, eqb}
use Rattle.mask.specs.Fields.{announced, d32}
use Rattle.octets.specs.Octets.{between}
use Rattle.mask.specs.Mask.{is_in, is_required, is_gap, d28to30}
use Rattle.mask.proofs.Sets.{all_in, stands-for, gap_is, is_delta}

pub required-word : T (stands-for 0xFF00_03C0_0000_0000 is_required)
unfolding announced is_required
required-word = tt

pub reserved-word : T (stands-for 0xFFFF (between 50 65))
unfolding announced
reserved-word = tt

pub last_word : T (stands-for 0x1_0000 (λ n. eqb n 49))
unfolding announced
last_word = tt

pub delta-word : T (stands-for 0x6000_0000 is_delta)
unfolding announced is_in
delta-word = tt

-- the groups, with what each says of a field
module _ (m : ℕ) (h : m < 2 ^ 64) (n : ℕ) (lo : 2 ≤ n) (hi : n < 66) where
  abbrev Says : ℕ → List ℕ → Type 0
  Says w g = (r : ℕ) → announced r n ≡ (announced w n && not (announced m n) && not (eqb (bit_and m w) 0)) → announced r n ≡ is_gap m g n

  says : (w : ℕ) (g : List ℕ) → T (stands-for w (λ n. is_in n g)) → T (all_in (announced w) g) → Says w g
  says w g t u r e = e ∙ gap_is m w g t u h n lo hi

  pub d12-says : Says 0x0038_0000_0000_0000 (12 ∷ 13 ∷ 14 ∷ [])
  unfolding announced is_in
  d12-says = says _ _ tt tt

  pub d15-says : Says 0x0007_0000_0000_0000 (15 ∷ 16 ∷ 17 ∷ [])
  unfolding announced is_in
  d15-says = says _ _ tt tt

  pub d18-says : Says 0x0000_E000_0000_0000 (18 ∷ 19 ∷ 20 ∷ [])
  unfolding announced is_in
  d18-says = says _ _ tt tt

  pub d21-says : Says 0x0000_1C00_0000_0000 (21 ∷ 22 ∷ 23 ∷ [])
  unfolding announced is_in
  d21-says = says _ _ tt tt

  pub d10-says : Says 0x00C0_0000_6000_0000 (10 ∷ 11 ∷ d32 4 ∷ d32 5 ∷ [])
  unfolding announced is_in
  d10-says = says _ _ tt tt

  pub places-says : Says 0x0000_0001_8000_0000 (d32 2 ∷ d32 3 ∷ [])
  unfolding announced is_in
  places-says = says _ _ tt tt

  pub classes-says : Says 0x0000_0000_0006_0000 (d32 16 ∷ d32 17 ∷ [])
  unfolding announced is_in
  classes-says = says _ _ tt tt

  pub d28-says : Says 0x0000_0038_0000_0000 d28to30
  unfolding announced is_in
  d28-says = says _ _ tt tt
