-- What is known of an HRR segment to whose body no row applies, and what its records give back.
-- Assumes nothing.
use Prim.Native.Nat.{ℕ, suc, ◌+◌, ◌-◌, ◌*◌, ◌^◌, ◌≤◌}
use native.Mathlib.Nat.{le_refl, mul-le-mul}
use native.Mathlib.Omega.{arith}
use mathlib.Core.Path.{◌≡◌, refl, sym, ap, ap₂, ◌∙◌}
use mathlib.Core.Bool.{Bool, true, false, not, ◌&&◌, cond}
use mathlib.Core.List.{List, [], ◌∷◌, ◌++◌, append-nil}
use borrow.Author.Tests.{ltb-false, leb-true, eqb-true, not-true, not-false}
use lib.Dec.{ltb, leb}
use lib.ListN.{length, take, drop, length-append, length-drop}
use lib.Seq.{length-take-le, take_at, drop_at, take-add}
use Rattle.octets.specs.Octets.{between}
use Rattle.octets.specs.Layout.{pad, total}
use Rattle.octets.proofs.Laws.{be-taken}
use Rattle.octets.proofs.Layouts.{length-pad, pad-take}
use Rattle.mask.specs.Fields.{announced, taken, announced_length, announced_fields, d32}
use Rattle.mask.specs.Mask.{is_in}
use Rattle.mask.proofs.FullWidth.{length-full, announced-full}
use Rattle.hrr.specs.Hrr.{hrr_mask, mandatory, all_set, is_hrr_mask, hrr_widths, hrr_fields, H, scatterer_count, index_width, scatterer_widths, widened, narrowed, hrr_size, is_hrr_size}
use Rattle.hrr.proofs.Words.{each_set}
use Rattle.format.specs.Check.{Passed}
use Rattle.format.specs.Packet.{s2}
use Rattle.format.specs.Sheet.{Record, body_length, record_of, hrr_record, scatterer_record}
use Rattle.format.specs.Rows.{first_row, hrr_rows}
use Rattle.format.specs.Writer.{due, called_for, given, given_behind}
use Rattle.format.proofs.Rows.{first_passes, either, both}
use Rattle.format.proofs.Bodies.{record-exact}

-- ---- the mask, by row 21

-- a mask that row 21 lets pass announces each mandatory field and the magnitude
pub mandatory-announced : (mask : ℕ) → is_hrr_mask mask ≡ true → (n : ℕ) → is_in n mandatory ≡ true → announced mask n ≡ true
unfolding is_hrr_mask
mandatory-announced mask h n = each_set mask n mandatory (both (all_set mask mandatory) _ h).0

-- the bytes that those of the fields n, n + 1, .. of the widths ws take that are in a list
length_among : List ℕ → ℕ → List ℕ → ℕ
length_among ns n [] = 0
length_among ns n (w ∷ ws) = cond (is_in n ns) w 0 + length_among ns (suc n) ws

-- where they are announced, the announced fields take at least these
among-announced : (mask : ℕ) (ns : List ℕ) → ((n : ℕ) → is_in n ns ≡ true → announced mask n ≡ true)
    → (n : ℕ) (ws : List ℕ) → length_among ns n ws ≤ announced_length mask n ws
unfolding announced_length length_among
among-announced mask ns h n [] = omega arith
among-announced mask ns h n (w ∷ ws) = go (is_in n ns) refl (among-announced mask ns h (suc n) ws)
  where
    go : (x : Bool) → is_in n ns ≡ x → length_among ns (suc n) ws ≤ announced_length mask (suc n) ws
        → cond x w 0 + length_among ns (suc n) ws ≤ cond (announced mask n) w 0 + announced_length mask (suc n) ws
    go true i rest = rw (h n i) (omega arith)
    go false i rest = omega arith

-- so the fields before the scatterers take at least the 29 bytes of the mandatory ones
pub fields-long : (mask : ℕ) → is_hrr_mask mask ≡ true → 29 ≤ announced_length mask 2 hrr_widths
unfolding length_among is_in
fields-long mask h = among-announced mask mandatory (mandatory-announced mask h) 2 hrr_widths

-- ---- what the rows say of a body

-- how many scatterers it has, the bytes that the numbers of each take, and where they begin
abbrev pub count_in : List ℕ → ℕ
count_in b = scatterer_count (hrr_mask b) (hrr_fields b)

abbrev pub widths_in : List ℕ → List ℕ
widths_in b = scatterer_widths (hrr_mask b) (hrr_fields b)

abbrev pub start_in : List ℕ → ℕ
start_in b = 5 + announced_length (hrr_mask b) 2 hrr_widths

-- the mask is there and passes, the widths are those that row 22 asks for, and the length is what mask, widths and counts give
pub record IsHrr (b : List ℕ) : Type 0 where
  pub masked : 5 ≤ length b
  pub mask-passes : is_hrr_mask (hrr_mask b) ≡ true
  pub magnitude-some : 1 ≤ H 25 (hrr_fields b)
  pub magnitude-narrow : H 25 (hrr_fields b) ≤ 2
  pub phase-narrow : H 26 (hrr_fields b) ≤ 2
  pub exact : length b ≡ start_in b + count_in b * total (widths_in b)

-- by the rows in their order
pub is-hrr : (b : List ℕ) → first_row (hrr_rows b) ≡ Passed → IsHrr b
unfolding hrr_rows is_hrr_size hrr_size
is-hrr b e =
    let f = hrr_fields b in
    let nine = first_passes _ _ e in
    let twenty-one = first_passes _ _ nine.1 in
    let twenty-two = first_passes _ _ twenty-one.1 in
    let long : 10 ≤ s2 b = ltb-false _ _ nine.0 in
    let sized = both (between 1 2 (H 25 f) && not (ltb 2 (H 26 f))) _ (not-false _ twenty-two.0) in
    let narrow = both (between 1 2 (H 25 f)) _ sized.0 in
    let magnitude = both (leb 1 (H 25 f)) _ narrow.0 in
    let size : s2 b ≡ hrr_size (hrr_mask b) f = eqb-true _ _ sized.1 in
    record {
      masked = omega arith;
      mask-passes = not-false _ twenty-one.0;
      magnitude-some = leb-true _ _ magnitude.0;
      magnitude-narrow = leb-true _ _ magnitude.1;
      phase-narrow = ltb-false _ _ (not-true _ narrow.1);
      exact = omega arith;
    }

-- no width is above the two bytes that a number has on the sheet
abbrev pub AllNarrow : List ℕ → Type 0
AllNarrow [] = Unit {0}
AllNarrow (w ∷ ws) = (w ≤ 2) × AllNarrow ws

-- the widths as the code has them
pub all-narrow : {a b c d : ℕ} → (a ≤ 2) × (b ≤ 2) × (c ≤ index_width) × (d ≤ index_width) → AllNarrow (a ∷ b ∷ c ∷ d ∷ [])
all-narrow h = (h.0, (h.1, (omega (arith, h.2), (omega (arith, h.3), tt))))

-- a scatterer has four numbers
pub four-widths : (b : List ℕ) → length (widths_in b) ≡ 4
unfolding scatterer_widths
four-widths b = refl

-- the scatterers of a body to which no row applies
module _ (b : List ℕ) (h : IsHrr b) where
  -- the magnitude is announced, so that it takes the bytes that H25 says
  pub magnitude-announced : announced (hrr_mask b) (d32 1) ≡ true
  unfolding is_in
  magnitude-announced = mandatory-announced (hrr_mask b) h.mask-passes (d32 1) refl

  pub magnitude-taken : taken (hrr_mask b) (d32 1) (H 25 (hrr_fields b)) ≡ H 25 (hrr_fields b)
  magnitude-taken = rw magnitude-announced

  -- no number takes more than two bytes
  pub widths-narrow : AllNarrow (widths_in b)
  unfolding scatterer_widths
  widths-narrow = (narrow 1 h.magnitude-narrow, (narrow 2 h.phase-narrow, (narrow 3 (omega arith), (narrow 4 (omega arith), tt))))
    where
      narrow : (j : ℕ) {w : ℕ} → w ≤ 2 → taken (hrr_mask b) (d32 j) w ≤ 2
      narrow j e = either (λ (n : ℕ). n ≤ 2) (announced (hrr_mask b) (d32 j)) e (omega arith)

  -- each scatterer takes one or more
  pub scatterer-some : 1 ≤ total (widths_in b)
  unfolding total scatterer_widths
  scatterer-some = omega (arith, magnitude-taken, h.magnitude-some)

  -- so there are no more scatterers than bytes behind the mask's 5 and the 29 of the mandatory fields
  pub scatterers-few : 34 + count_in b ≤ length b
  scatterers-few =
      omega (
        arith,
        h.exact,
        fields-long (hrr_mask b) h.mask-passes,
        mul-le-mul {n₁ = count_in b} {m₁ = 1} {n₂ = count_in b} {m₂ = total (widths_in b)} (le_refl _) scatterer-some,
      )

  -- they fill the bytes behind the announced fields
  pub scatterers-fill : length (drop (start_in b) b) ≡ count_in b * total (widths_in b)
  scatterers-fill = rw length-drop (omega (arith, h.exact))

-- ---- numbers of two bytes, and the way back

-- on the sheet each has two bytes
pub length-widened : (ws b : List ℕ) → AllNarrow ws → length (widened ws b) ≡ length ws * 2
unfolding widened
length-widened [] b h = refl
length-widened (w ∷ ws) b h = simp (length-append, length-pad) (omega (arith, h.0, length-widened ws (drop w b) h.1))

-- numbers that are widened and narrowed again are the bytes that they were made of
pub narrowed-widened : (ws b : List ℕ) → AllNarrow ws → total ws ≤ length b → narrowed ws (widened ws b) ≡ take (total ws) b
unfolding widened narrowed total
narrowed-widened [] b h l = refl
narrowed-widened (w ∷ ws) b h l =
    let zeros = pad (2 - w) [] in
    let first = zeros ++ pad w b in
    let rest = widened ws (drop w b) in
    let two : length first ≡ 2 = simp (length-append, length-pad) (omega (arith, h.0)) in
    let fits : total ws ≤ length (drop w b) = rw length-drop (omega arith) in
    let number : drop (2 - w) first ≡ take w b = drop_at zeros (pad w b) (2 - w) (length-pad (2 - w) []) ∙ pad-take w b (omega arith) in
    ap₂ (λ (x y : List ℕ). drop (2 - w) x ++ narrowed ws y) (take_at first rest 2 two) (drop_at first rest 2 two)
    ∙ ap₂ (λ (x y : List ℕ). x ++ y) number (narrowed-widened ws (drop w b) h.1 fits)
    ∙ sym (take-add w (total ws) b)

-- ---- what the records say and give

-- the length of the fields at full widths
pub length-hrr-fields : (b : List ℕ) → length (hrr_fields b) ≡ 61
unfolding hrr_fields total
length-hrr-fields b = length-full (hrr_mask b) 2 hrr_widths (drop 5 b)

-- the first record of a body that has its mask
module _ (b : List ℕ) (h : 5 ≤ length b) where
  -- mask and fields fill it
  pub hrr-exact : hrr_record b ≡ record { kind = 11; body = take 5 b ++ hrr_fields b }
  unfolding hrr_record body_length
  hrr-exact =
      let n : length (take 5 b ++ hrr_fields b) ≡ body_length 11 = simp (length-append, length-take-le 5 b h, length-hrr-fields b) in
      record-exact 11 _ n

  -- the mask stands in it as in the body
  front-in-record : take 5 (hrr_record b).body ≡ take 5 b
  front-in-record = ap (λ (q : Record). take 5 q.body) hrr-exact ∙ take_at (take 5 b) (hrr_fields b) 5 (length-take-le 5 b h)

  pub mask-in-record : hrr_mask (hrr_record b).body ≡ hrr_mask b
  unfolding hrr_mask
  mask-in-record = ap (λ (q : Record). hrr_mask q.body) hrr-exact ∙ ap (λ (n : ℕ). n * 2 ^ 24) (be-taken 5 b (hrr_fields b) h)

  -- and the fields at full widths behind it
  pub fields-in-record : drop 5 (hrr_record b).body ≡ hrr_fields b
  fields-in-record = ap (λ (q : Record). drop 5 q.body) hrr-exact ∙ drop_at (take 5 b) (hrr_fields b) 5 (length-take-le 5 b h)

  -- so it calls for as many scatterers as the body has, and tells their widths
  pub hrr-calls : called_for (hrr_record b) ≡ due 12 (count_in b)
  unfolding called_for hrr_record record_of
  hrr-calls = ap₂ (λ (m : ℕ) (f : List ℕ). due 12 (scatterer_count m f)) mask-in-record fields-in-record

  pub widths-in-record : scatterer_widths (hrr_mask (hrr_record b).body) (drop 5 (hrr_record b).body) ≡ widths_in b
  widths-in-record = ap₂ scatterer_widths mask-in-record fields-in-record

  -- and gives the mask and the announced fields
  pub hrr-given : start_in b ≤ length b → given (hrr_record b) ≡ take (start_in b) b
  unfolding given hrr_record record_of hrr_fields
  hrr-given l =
      let mask = hrr_mask b in
      let size = announced_length mask 2 hrr_widths in
      let fields : announced_fields mask 2 hrr_widths (hrr_fields b) ≡ take size (drop 5 b) =
      ap (announced_fields mask 2 hrr_widths) (sym (append-nil (hrr_fields b))) ∙ announced-full mask 2 hrr_widths (drop 5 b) [] (rw length-drop (omega arith)) in
      ap₂ (λ (x y : List ℕ). x ++ y) front-in-record
      (ap₂ (λ (m : ℕ) (y : List ℕ). announced_fields m 2 hrr_widths y) mask-in-record fields-in-record ∙ fields)
      ∙ sym (take-add 5 size b)

-- the record of a scatterer with four narrow numbers
module _ (ws t : List ℕ) (four : length ws ≡ 4) (h : AllNarrow ws) where
  -- they fill it
  pub scatterer-exact : scatterer_record ws t ≡ record { kind = 12; body = widened ws t }
  unfolding scatterer_record body_length
  scatterer-exact = record-exact 12 _ (length-widened ws t h ∙ ap (λ (n : ℕ). n * 2) four)

  -- and it gives the bytes that it was made of, behind a record that tells their widths
  pub scatterer-given : (leader : Record) → scatterer_widths (hrr_mask leader.body) (drop 5 leader.body) ≡ ws → total ws ≤ length t
      → given_behind leader (scatterer_record ws t) ≡ take (total ws) t
  unfolding given_behind scatterer_record record_of
  scatterer-given leader e l =
      ap (λ (v : List ℕ). narrowed v (scatterer_record ws t).body) e
      ∙ ap (λ (q : Record). narrowed ws q.body) scatterer-exact
      ∙ narrowed-widened ws t h l
