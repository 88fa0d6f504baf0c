-- `gmti_editions::new_row` meets its contract. What is new in a segment, by its type.
-- Assumes nothing.
use Prim.Native.Nat.{ℕ}
use native.Mathlib.Omega.{arith}
use mathlib.Core.Path.{◌≡◌, sym, ap, ◌∙◌}
use mathlib.Core.List.{[], ◌∷◌}
use borrow.Author.Tests.{eq-eqb, ne_eqb}
use lib.ListN.{get_or}
use Rattle.octets.specs.Layout.{total, value}
use Rattle.octets.proofs.Laws.{one_byte}
use Rattle.mask.specs.Mask.{new_in_mask}
use Rattle.format.specs.Packet.{J}
use Rattle.format.specs.Dwell.{mask_of}
use Rattle.format.specs.Edition.{is_new_mode}
use Rattle.format.specs.Rows.{naming, first_row}
use Rattle.gmti_editions.proofs.Seeking.{new-type, new-dwell, new-mode, nothing-new}
use Rattle.gmti_editions.proofs.new_row.Goals as goal
use Rattle.gmti_editions.proofs.new_row.Goals.{Start, else-segment_type-eq5-via-then-segment_type-eq5+else-is_new_mode, else-segment_type-eq5-via-else-segment_type-eq5}

-- J14 is the byte that the code reads
mode-is : (s : Start) → is_new_mode (J 14 s.args.b.now) ≡ is_new_mode (get_or s.args.b.now 45 0)
unfolding value total
mode-is s = ap is_new_mode (one_byte 45 s.args.b.now)

pub returns-then-segment_type-eq3 : goal.returns-then-segment_type-eq3
returns-then-segment_type-eq3 c =
    c.row.ensures
    ∙ new-type _ c.args.b.now c.if-segment_type-eq3.true

pub get_u64-requires : goal.get_u64-requires
get_u64-requires c = omega (arith, c.requires.0 c.if-segment_type-eq2.true)

pub returns-then-segment_type-eq2 : goal.returns-then-segment_type-eq2
unfolding mask_of
returns-then-segment_type-eq2 c =
    new-dwell _ c.args.b.now c.if-segment_type-eq2.true
    (c.naming_row.ensures ∙ ap (λ (n : ℕ). first_row (naming 15 n ∷ [])) (c.new_in_mask-field.ensures ∙ ap new_in_mask c.get_u64.ensures))

pub bounds-b-45 : goal.bounds-b-45
bounds-b-45 c = omega (arith, c.requires.1 c.if-segment_type-eq5.true)

pub returns-then-is_new_mode : goal.returns-then-is_new_mode
returns-then-is_new_mode c =
    c.naming.ensures
    ∙ new-mode _ c.args.b.now c.if-segment_type-eq5.true (mode-is (goal.at.returns-then-is_new_mode c).Start ∙ sym c.is_new_mode.ensures ∙ c.if-is_new_mode.true)

pub returns : goal.returns
returns c =
    let t = c.args.segment_type in
    nothing-new t c.args.b.now c.if-segment_type-eq3.false c.if-segment_type-eq2.false
    (elim c.else-segment_type-eq5.branch [
      | else-segment_type-eq5-via-then-segment_type-eq5+else-is_new_mode w ↦ rw (eq-eqb t 5 w.if-segment_type-eq5.true) (mode-is (goal.at.returns c).Start ∙ sym w.is_new_mode.ensures ∙ w.if-is_new_mode.false)
      | else-segment_type-eq5-via-else-segment_type-eq5 w ↦ rw (ne_eqb t 5 w.if-segment_type-eq5.false)
    ])
