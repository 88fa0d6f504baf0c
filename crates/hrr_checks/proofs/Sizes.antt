-- Row 22 by what is read of a body: whether it has its announced fields, the two widths, and the size.
-- Assumes nothing.
use mathlib.Core.Path.{◌≡◌}
use mathlib.Core.Bool.{true, false, not, ◌&&◌, and-false}
use mathlib.Core.List.{List}
use Prim.Native.Nat.{ℕ, ◌+◌, ◌*◌}
use native.Mathlib.Omega.{arith}
use borrow.Author.Tests.{eq-eqb, ne_eqb}
use lib.Dec.{ltb}
use lib.ListN.{length, drop}
use Rattle.octets.specs.Octets.{between}
use Rattle.octets.specs.Layout.{total}
use Rattle.mask.specs.Fields.{announced_length}
use Rattle.hrr.specs.Hrr.{hrr_mask, hrr_widths, hrr_fields, H, scatterer_count, scatterer_widths, hrr_size, is_hrr_size}
use Rattle.format.specs.Check.{Passed, Failed}
use Rattle.format.specs.Packet.{s2}
use Rattle.format.specs.Rows.{first_row, hrr_rows}

module _ (b : List ℕ) where
  abbrev mask : ℕ
  mask = hrr_mask b

  abbrev f : List ℕ
  f = hrr_fields b

  -- row 22 applies where the size is another than what mask, widths and counts give
  pub wrong_size : (length b ≡ 5 + announced_length mask 2 hrr_widths + scatterer_count mask f * total (scatterer_widths mask f) → ⊥)
      → Failed 22 0 ≡ first_row (drop 2 (hrr_rows b))
  unfolding first_row hrr_rows is_hrr_size hrr_size
  wrong_size h =
      rw (ne_eqb (s2 b) (hrr_size mask f) (λ e. h (omega arith)), and-false (between 1 2 (H 25 f) && not (ltb 2 (H 26 f))))

  -- or where one of the widths is wrong
  pub wrong-widths : (between 1 2 (H 25 f) && not (ltb 2 (H 26 f))) ≡ false → Failed 22 0 ≡ first_row (drop 2 (hrr_rows b))
  unfolding first_row hrr_rows is_hrr_size
  wrong-widths h = rw h

  -- and else it does not
  pub right-size : (between 1 2 (H 25 f) && not (ltb 2 (H 26 f))) ≡ true
      → length b ≡ 5 + announced_length mask 2 hrr_widths + scatterer_count mask f * total (scatterer_widths mask f)
      → Passed ≡ first_row (drop 2 (hrr_rows b))
  unfolding first_row hrr_rows is_hrr_size hrr_size
  right-size h e = rw (h, eq-eqb (s2 b) (hrr_size mask f) (omega arith))
