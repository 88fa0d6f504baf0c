-- What a scatterer gives to the segment of its leader: the last bytes of each number, at most two.
-- Assumes nothing.
use mathlib.Core.Path.{◌≡◌, refl, sym, ap, ap₂, ◌∙◌}
use mathlib.Core.List.{List, [], ◌∷◌, ◌++◌}
use Prim.Native.Nat.{ℕ, zero, suc, ◌+◌, ◌-◌, ◌*◌, ◌≤◌, min}
use native.Mathlib.Nat.{zero-mul, suc-mul}
use native.Mathlib.Omega.{arith}
use lib.ListN.{length, take, drop, length-append, length-drop}
use lib.Seq.{take-take}
use Rattle.octets.specs.Layout.{total}
use Rattle.hrr.specs.Hrr.{scatterer_widths, narrowed}
use Rattle.hrr.specs.InnerScatterers.{widths_of}
use Rattle.pack_hrr.specs.InnerNarrowed.{narrowed_all}
use Rattle.pack_hrr.proofs.Narrowed.{length-narrowed}
use Rattle.format.specs.Sheet.{Record}
use Rattle.format.specs.Lengths.{record_length}
use Rattle.format.specs.Writer.{given_behind}
use Rattle.format.proofs.Segments.{part-is}
use Rattle.format.proofs.Hrr.{AllNarrow}
use Rattle.sheet_walk.specs.InnerShape.{scatterers_behind}

-- of two bytes at most two are given
least : (w : ℕ) (s : List ℕ) → drop (2 - w) s ≡ drop (2 - min 2 w) s
least w s =
    let e : 2 - w ≡ 2 - min 2 w = omega arith in
    ap (λ (n : ℕ). drop n s) e

-- and no more is looked at than two for each number
pub narrowed-front : (ws s : List ℕ) (n : ℕ) → length ws * 2 ≤ n → narrowed ws (take n s) ≡ narrowed ws s
unfolding narrowed
narrowed-front [] s n h = refl
narrowed-front (w ∷ ws) s n h =
    let two : 2 + (n - 2) ≡ n = omega arith in
    ap₂ (λ (a b : List ℕ). drop (2 - w) a ++ narrowed ws b) (take-take 2 n s (omega arith)) (ap (λ (m : ℕ). drop 2 (take m s)) (sym two) ∙ sym (part-is 2 (n - 2) s))
    ∙ ap (λ (b : List ℕ). drop (2 - w) (take 2 s) ++ b) (narrowed-front ws (drop 2 s) (n - 2) (omega arith))

-- the widths that a leader gives, and as they are spelt
abbrev pub widths_behind : Record → List ℕ
widths_behind leader = widths_of (scatterers_behind leader.body)

pub behind-narrow : (leader : Record) → AllNarrow (widths_behind leader)
behind-narrow leader = (omega arith, (omega arith, (omega arith, (omega arith, tt))))

-- numbers of which no more than two bytes are spelt are spelt as if they had two
leasts : (a b c d : ℕ) (s : List ℕ) → narrowed (a ∷ b ∷ c ∷ d ∷ []) s ≡ narrowed (min 2 a ∷ min 2 b ∷ min 2 c ∷ min 2 d ∷ []) s
unfolding narrowed
leasts a b c d s =
    ap₂ ◌++◌ (least a (take 2 s))
    (ap₂ ◌++◌ (least b (take 2 (drop 2 s)))
    (ap₂ ◌++◌ (least c (take 2 (drop 2 (drop 2 s))))
    (ap (λ (y : List ℕ). y ++ []) (least d (take 2 (drop 2 (drop 2 (drop 2 s))))))))

module _ (leader r : Record) (e : r.kind ≡ 12) where
  pub scatterer-narrowed : given_behind leader r ≡ narrowed (widths_behind leader) r.body
  unfolding given_behind scatterer_widths
  scatterer-narrowed = rw e (leasts _ _ _ _ r.body)

-- how many bytes n of them give
pub length-all : (leader : Record) (n : ℕ) (x : List ℕ) → n * record_length 12 ≤ length x → length (narrowed_all (widths_behind leader) n x) ≡ n * total (widths_behind leader)
unfolding narrowed_all
length-all leader zero x h = sym (zero-mul (total (widths_behind leader)))
length-all leader (suc n) x h =
    let ws = widths_behind leader in
    let one = length-narrowed ws (drop 1 x) (behind-narrow leader) (rw length-drop (omega arith)) in
    let rest = length-all leader n (drop (record_length 12) x) (rw length-drop (omega arith)) in
    length-append (narrowed ws (drop 1 x)) (narrowed_all ws n (drop (record_length 12) x)) ∙ omega (arith, one, rest, suc-mul n (total ws))
