-- The faults in the order of the document's sentence, from the order in which the code joins its words.
-- Assumes nothing.
use mathlib.Core.Path.{◌≡◌, refl}
use mathlib.Core.Bool.{Bool, true, false, not, ◌&&◌, ◌||◌, cond, or_assoc, or-false, and_assoc, and-or_distrib_right}
use mathlib.Core.List.{List, [], ◌∷◌}
use Prim.Native.Nat.{ℕ}
use lib.Dec.{eqb}
use Rattle.mask.specs.Fields.{announced, d32}
use Rattle.octets.specs.Octets.{between}
use Rattle.mask.specs.Mask.{is_required, is_reserved, d28to30, is_gap, is_gap_in, is_doubled, is_fault}

-- r: required and unset; s, p: reserved, in any version and in version 1 (v); a: set; e to k: the groups of any version,
-- and z that of version 1, which x has in version 1 alone; d: doubled
same : (r s v p a e f g h i j k x z d : Bool)
    → x ≡ (v && z)
    → (r || s && a || v && (p && a) || e || f || g || h || i || j || k || v && z || d)
    ≡ (r || (s || v && p) && a || (e || (f || (g || (h || (i || (j || (k || x))))))) || d)
same r s v p a e f g h i j k x z d q = simp (q, or_assoc, and_assoc, and-or_distrib_right)

-- a group that only some versions have
sometimes : (m n : ℕ) (g : List ℕ) (v : Bool) → is_gap_in m (cond v (g ∷ []) []) n ≡ (v && is_gap m g n)
unfolding is_gap_in
sometimes m n g true = or-false (is_gap m g n)
sometimes m n g false = refl

pub in_order : (version m n : ℕ)
    → (is_required n && not (announced m n)
    || between 50 65 n && announced m n
    || eqb version 1 && (eqb n 49 && announced m n)
    || is_gap m (12 ∷ 13 ∷ 14 ∷ []) n
    || is_gap m (15 ∷ 16 ∷ 17 ∷ []) n
    || is_gap m (18 ∷ 19 ∷ 20 ∷ []) n
    || is_gap m (21 ∷ 22 ∷ 23 ∷ []) n
    || is_gap m (10 ∷ 11 ∷ d32 4 ∷ d32 5 ∷ []) n
    || is_gap m (d32 2 ∷ d32 3 ∷ []) n
    || is_gap m (d32 16 ∷ d32 17 ∷ []) n
    || eqb version 1 && is_gap m d28to30 n
    || is_doubled m n)
    ≡ is_fault version m n
unfolding is_fault is_reserved is_gap_in
in_order version m n =
    same (is_required n && not (announced m n)) (between 50 65 n) (eqb version 1) (eqb n 49) (announced m n) _ _ _ _ _ _ _ _ (is_gap m d28to30 n) (is_doubled m n)
    (sometimes m n d28to30 (eqb version 1))
