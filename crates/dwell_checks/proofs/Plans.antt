-- The plan of a dwell, and what is known of it where no row applies to the dwell.
-- Assumes nothing.
use Prim.Native.Nat.{ℕ, ◌+◌, ◌-◌, ◌*◌, ◌≤◌}
use native.Mathlib.Omega.{arith}
use mathlib.Core.Path.{◌≡◌, refl, sym, ap, subst, ◌∙◌}
use mathlib.Core.Bool.{Bool, true, false, not, ◌||◌}
use mathlib.Core.List.{List}
use lib.Dec.{ltb, eqb}
use borrow.Author.Tests.{le-ltb, eq-eqb, ne_eqb}
use lib.ListN.{length, drop, length-drop}
use borrow.Rule.Slice.PartMut.{mid_of}
use Rattle.octets.proofs.Parts.{tail-is}
use Rattle.mask.specs.Fields.{announced_length, dwell_widths, dwell_size}
use Rattle.mask.specs.InnerFields.{Required}
use Rattle.format.specs.declared.Area.{Area}
use Rattle.format.specs.Check.{Passed}
use Rattle.format.specs.Packet.{s2}
use Rattle.format.specs.Dwell.{mask_of, dwell_fields, target_count, target_length, targets_of, area_of}
use Rattle.format.specs.Rows.{first_row, targets_rows}
use Rattle.format.proofs.Dwells.{IsDwell}
use Rattle.dwell_checks.specs.declared.Plan.{Plan}
use Rattle.dwell_checks.specs.InnerPlan.{Headed, Bounded, Holds, plan_of}
use Rattle.dwell_checks.proofs.Numbers.{required-length}

-- a plan by its parts
pub plan-is : (b : List ℕ) {mask start each count : ℕ} {area : Area}
    → mask ≡ mask_of b → start ≡ 8 + announced_length mask 2 dwell_widths → each ≡ target_length mask → count ≡ target_count b → area ≡ area_of (dwell_fields b)
    → ◌≡◌ {A = Plan} (record { mask = mask; start = start; each = each; count = count; area = area }) (plan_of b)
plan-is b hm hs he hc ha = rw (hs, he, hc, ha, hm)

-- the targets as they stand from where the plan says
pub targets_are : (b : List ℕ) (p : Plan) → p ≡ plan_of b → mid_of p.start (length b - p.start) b ≡ targets_of b
unfolding targets_of
targets_are b p e = tail-is p.start b ∙ ap (λ (q : Plan). drop q.start b) e

-- so the plan's targets lie there
pub targets-there : (b : List ℕ) (p : Plan) → p ≡ plan_of b → Bounded p.area → p.start + p.count * p.each ≤ length b → Holds p p.count (mid_of p.start (length b - p.start) b)
targets-there b p e bounded h =
    (ap (λ (q : Plan). q.each) e ∙ sym (ap (λ (q : Plan). target_length q.mask) e), rw (tail-is p.start b, length-drop p.start b) (omega arith), bounded)

-- row 12: a length that is what mask and D5 give, and one that is not
module _ (b : List ℕ) (required : Required (mask_of b)) where
  abbrev row12 : Bool
  row12 = ltb (s2 b) 48 || not (eqb (s2 b) (dwell_size (mask_of b) (target_count b)))

  abbrev right : ℕ
  right = 8 + announced_length (mask_of b) 2 dwell_widths + target_count b * target_length (mask_of b)

  pub targets-within : (p : Plan) → p ≡ plan_of b → length b ≡ right → p.start + p.count * p.each ≤ length b
  targets-within p e h = rw e (omega arith)

  pub right-size : length b ≡ right → row12 ≡ false
  unfolding dwell_size
  right-size e = rw (le-ltb (s2 b) 48 (omega (arith, required-length (mask_of b) required)), eq-eqb (s2 b) (dwell_size (mask_of b) (target_count b)) (omega arith))

  pub wrong_size : (length b ≡ right → ⊥) → row12 ≡ true
  unfolding dwell_size
  wrong_size n = rw (ne_eqb (s2 b) (dwell_size (mask_of b) (target_count b)) (λ e. n (omega arith))) (go (ltb (s2 b) 48))
    where
      go : (t : Bool) → (t || true) ≡ true
      go true = refl
      go false = refl

-- a dwell to which no row applies has its announced fields
module _ (b : List ℕ) (k : IsDwell b) where
  pub headed : {m : ℕ} → m ≡ mask_of b → Headed m b
  headed e = subst (λ (m : ℕ). Headed m b) (sym e) (refl, k.required, omega (arith, k.exact))

  -- its targets lie where the plan says, and no row applies to them
  module _ (p : Plan) (e : p ≡ plan_of b) where
    pub start-within : p.start ≤ length b
    start-within = omega (arith, targets-within b k.required p e k.exact)

    pub targets-stand : Bounded p.area → Holds p p.count (mid_of p.start (length b - p.start) b)
    targets-stand h = targets-there b p e h (targets-within b k.required p e k.exact)

    pub targets-pass : first_row (targets_rows p.mask p.area p.count (mid_of p.start (length b - p.start) b)) ≡ Passed
    targets-pass = rw (targets_are b p e, e) k.targets
