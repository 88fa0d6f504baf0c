-- `dwell_checks::target_count` meets its contract. D5 is announced, behind D2 to D4.
-- Assumes nothing.
use mathlib.Core.Path.{refl, sym, ap}
use Prim.Native.Nat.{ℕ, ◌+◌}
use lib.Dec.{lit≤, lit<}
use Rattle.mask.specs.Fields.{dwell_widths}
use Rattle.mask.specs.Mask.{is_required}
use Rattle.mask.proofs.Places.{value_there}
use Rattle.format.specs.Dwell.{mask_of, dwell_fields, target_count}
use Rattle.dwell_checks.proofs.Numbers.{before-5}
use Rattle.dwell_checks.proofs.target_count.Goals as goal

pub returns : goal.returns
unfolding is_required dwell_fields target_count
returns c =
    let b = c.args.b.now in
    let h = c.requires.0 in
    value_there (mask_of b) 2 5 dwell_widths (lit≤ tt) (lit< tt) b 8 13 (h 5 refl) (sym (ap (λ (m : ℕ). 8 + m) (before-5 (mask_of b) h))) c.get_u16.ensures
