-- Numbers of none to two bytes as the last of two bytes: one, and those of a scatterer.
-- Assumes nothing.
use mathlib.Core.Path.{◌≡◌}
use mathlib.Core.List.{List, [], ◌∷◌, ◌++◌, append-nil, append_assoc}
use Prim.Native.Nat.{ℕ, ◌+◌, ◌-◌, ◌*◌, ◌^◌, ◌≤◌}
use native.Mathlib.Omega.{arith}
use lib.ListN.{length, take, drop, length-drop}
use lib.Seq.{drop-drop}
use Rattle.octets.specs.Layout.{pad}
use Rattle.octets.proofs.Layouts.{pad-take}
use Rattle.words.specs.InnerWords.{Spells}
use Rattle.words.proofs.Words.{zeros-spelt, joined}
use Rattle.hrr.specs.Hrr.{widened}

-- the two bytes of a number of w bytes at a place of t
abbrev pub wide : ℕ → ℕ → List ℕ → List ℕ
wide w at t = pad (2 - w) [] ++ pad w (drop at t)

-- they are its bytes, behind zeros
pub wide-spelt : (w at v r : ℕ) (t : List ℕ) → w ≤ 2 → at + w ≤ length t → Spells w v (take w (drop at t)) → r ≡ 0 + v * 256 ^ (2 - w) → Spells 2 r (wide w at t)
wide-spelt w at v r t h fits hv e =
    let two : 2 - w + w ≡ 2 = omega arith in
    let both = joined (2 - w) w (zeros-spelt (2 - w)) hv e in
    rw (pad-take w (drop at t) (rw length-drop (omega arith))) (rw two at both)

-- those of the four numbers of a scatterer
pub four-wide : (m p r d : ℕ) (t : List ℕ) → (wide m 0 t ++ wide p m t) ++ (wide r (m + p) t ++ wide d (m + p + r) t) ≡ widened (m ∷ p ∷ r ∷ d ∷ []) t
unfolding widened
four-wide m p r d t =
    rw (drop-drop p m t, drop-drop r (m + p) t, append-nil) (append_assoc (wide m 0 t) (wide p m t) (wide r (m + p) t ++ wide d (m + p + r) t))
