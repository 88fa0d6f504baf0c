-- The packet as it is laid out: eight runs of stores, one behind another.
-- Assumes nothing.
use Prim.Native.Nat.{ℕ, ◌+◌, ◌-◌, ◌*◌}
use native.Mathlib.Omega.{arith}
use mathlib.Core.Path.{◌≡◌, refl, sym, ap, ◌∙◌}
use mathlib.Core.List.{List, [], ◌∷◌, ◌++◌}
use borrow.Author.Tests.{ne_eqb}
use lib.ListN.{length, replicate-append-replicate}
use lib.Seq.{sets}
use Rattle.octets.specs.Octets.{bytes}
use Rattle.octets.specs.Layout.{pad}
use Rattle.octets.proofs.Laws.{then}
use Rattle.octets.proofs.Layouts.{pad-none}
use Rattle.format.specs.Packet.{s2, segment_bytes}
use Rattle.format.specs.Samples.{zeros, spaces, packet, segment}
use Rattle.gmti_longest.specs.Longest.{asked, delta_packet, written}
use Rattle.format.proofs.Samples.{length-spelt}
use Rattle.gmti_longest.proofs.Falls.{mask, body, length-body, length-delta}

-- P3 to P10, and the type of the dwell
abbrev p3-to-type : List ℕ
p3-to-type = spaces 2 ++ zeros 1 ++ spaces 2 ++ zeros 3 ++ spaces 10 ++ zeros 8 ++ (2 ∷ [])

-- P1; P2; P3 to P10 and the type; S2; the mask; D2 to D4; D5; all else
abbrev shape : ℕ → ℕ → ℕ → List ℕ → List ℕ
shape k p2 s rest = (51 ∷ 48 ∷ []) ++ bytes 4 p2 ++ p3-to-type ++ bytes 4 s ++ bytes 8 mask ++ zeros 5 ++ bytes 2 k ++ rest

-- the packet has this shape
shape_is : (k : ℕ) → shape k (32 + length (segment 2 (body k))) (s2 (body k)) (zeros 36 ++ zeros (4 * k)) ≡ delta_packet k
unfolding delta_packet packet segment_bytes body bytes
shape_is k = refl

-- with the numbers that the program has
made : (k n : ℕ) → n ≡ 88 + 4 * k → shape k n (n - 32) (pad (n - 52) []) ≡ delta_packet k
made k n h =
    let b = body k in
    let whole : n ≡ 32 + length (segment 2 b) = omega (arith, length-spelt 2 b, length-body k) in
    let size : n - 32 ≡ s2 b = omega (arith, length-body k) in
    let left : n - 52 ≡ 36 + 4 * k = omega arith in
    let rest : pad (n - 52) [] ≡ zeros 36 ++ zeros (4 * k) = pad-none (n - 52) ∙ ap zeros left ∙ sym (replicate-append-replicate 36 (4 * k) 0) in
    ap (λ (m : ℕ). shape k m (n - 32) (pad (n - 52) [])) whole
    ∙ ap (λ (m : ℕ). shape k (32 + length (segment 2 b)) m (pad (n - 52) [])) size
    ∙ ap (shape k (32 + length (segment 2 b)) (s2 b)) rest
    ∙ shape_is k

-- the runs of stores, each in what the one before it left, lay out the packet
pub laid_out : (l : List ℕ) (k n : ℕ) {a b c d e f g h : List ℕ} → n ≡ 88 + 4 * k
    → a ≡ sets l 0 (51 ∷ 48 ∷ [])
    → b ≡ sets a 2 (bytes 4 n)
    → c ≡ sets b 6 p3-to-type
    → d ≡ sets c 33 (bytes 4 (n - 32))
    → e ≡ sets d 37 (bytes 8 mask)
    → f ≡ sets e 45 (pad 5 [])
    → g ≡ sets f 50 (bytes 2 k)
    → h ≡ sets g 52 (pad (n - 52) [])
    → h ≡ sets l 0 (delta_packet k)
unfolding bytes pad
laid_out l k n is p1 p2 p3 s2 d1 d2 d5 rest =
    let to-p2 : List ℕ = (51 ∷ 48 ∷ []) ++ bytes 4 n in
    let to_type : List ℕ = to-p2 ++ p3-to-type in
    let to-size : List ℕ = to_type ++ bytes 4 (n - 32) in
    let to-mask : List ℕ = to-size ++ bytes 8 mask in
    let to-d4 : List ℕ = to-mask ++ zeros 5 in
    let to-d5 : List ℕ = to-d4 ++ bytes 2 k in
    then to-d5 (pad (n - 52) []) l 0 52
    (then to-d4 (bytes 2 k) l 0 50
    (then to-mask (zeros 5) l 0 45
    (then to-size (bytes 8 mask) l 0 37
    (then to_type (bytes 4 (n - 32)) l 0 33
    (then to-p2 p3-to-type l 0 6
    (then (51 ∷ 48 ∷ []) (bytes 4 n) l 0 2 p1 refl p2)
    refl p3)
    refl s2)
    refl d1)
    refl d2)
    refl d5)
    refl rest
    ∙ ap (sets l 0) (made k n is)

-- what is written where nothing is asked for, and where k targets are
module _ (input l : List ℕ) {k : ℕ} (e : k ≡ asked input) where
  pub written_none : k ≡ 0 → (0 ≡ length (written input)) × (l ≡ sets l 0 (written input))
  unfolding written
  written_none h = rw (← e, h) (refl, refl)

  pub written-packet : {a : List ℕ} → (k ≡ 0 → ⊥) → a ≡ sets l 0 (delta_packet k) → (88 + 4 * k ≡ length (written input)) × (a ≡ sets l 0 (written input))
  unfolding written
  written-packet h laid = rw (← e, ne_eqb k 0 h) (sym (length-delta k), laid)
