-- What is known of a dwell to whose body no row applies.
-- Assumes nothing.
use Prim.Native.Nat.{ℕ, ◌+◌, ◌*◌, ◌≤◌}
use native.Mathlib.Omega.{arith}
use mathlib.Core.Path.{◌≡◌}
use mathlib.Core.Bool.{true}
use borrow.Author.Tests.{ltb-false, eqb-true, not-false}
use lib.Dec.{ltb}
use mathlib.Core.List.{List}
use lib.ListN.{length}
use Rattle.mask.specs.Fields.{announced, announced_length, dwell_size, dwell_widths}
use Rattle.mask.specs.Mask.{is_required}
use Rattle.mask.proofs.Unfaulted.{required-announced}
use Rattle.format.specs.declared.Reading.{Reading}
use Rattle.format.specs.Check.{Passed}
use Rattle.format.specs.Packet.{s2}
use Rattle.format.specs.Dwell.{mask_of, dwell_fields, target_count, targets_of, target_length, area_of}
use Rattle.format.specs.Rows.{first_row, targets_rows, dwell_rows}
use Rattle.format.proofs.Rows.{first_passes, neither}

-- its mask has every required field, it is long enough for them, its length is what mask and D5 give, and no row applies to its targets
pub record IsDwell (b : List ℕ) : Type 0 where
  pub required : (n : ℕ) → is_required n ≡ true → announced (mask_of b) n ≡ true
  pub long : 43 ≤ length b
  pub exact : length b ≡ 8 + announced_length (mask_of b) 2 dwell_widths + target_count b * target_length (mask_of b)
  pub targets : first_row (targets_rows (mask_of b) (area_of (dwell_fields b)) (target_count b) (targets_of b)) ≡ Passed

-- by the rows in their order
pub is-dwell : (r : Reading) (b : List ℕ) → first_row (dwell_rows r b) ≡ Passed → IsDwell b
unfolding dwell_rows dwell_size
is-dwell r b e =
    let nine = first_passes _ _ e in
    let eleven = first_passes _ _ nine.1 in
    let fifteen = first_passes _ _ eleven.1 in
    let twelve = first_passes _ _ fifteen.1 in
    let four = first_passes _ _ twelve.1 in
    let five = first_passes _ _ four.1 in
    let sizes = neither (ltb (s2 b) 48) _ twelve.0 in
    let z : s2 b ≡ dwell_size (mask_of b) (target_count b) = eqb-true _ _ (not-false _ sizes.1) in
    let h : 48 ≤ s2 b = ltb-false _ _ sizes.0 in
    record {
      required = required-announced r.version (mask_of b) (eqb-true _ _ (not-false _ eleven.0));
      long = omega arith;
      exact = omega arith;
      targets = five.1;
    }
