-- A longitude on a sheet is below a full circle: whatever the bytes, it is at most 359999999 microdegrees.
-- Assumes nothing.
use Prim.Native.Nat.{ℕ, ◌^◌, ◌≤◌, ◌<◌}
use mathlib.Core.List.{List}
use Rattle.octets.specs.Octets.{Bytes}
use Rattle.octets.specs.Layout.{offset, value}
use Rattle.octets.proofs.Laws.{be-lt}
use Rattle.octets.proofs.ByteLists.{drop-bytes}
use Rattle.mask.specs.Fields.{announced, target_widths, d32}
use Rattle.mask.proofs.FullWidth.{full-bytes}
use Rattle.position.specs.Position.{longitude_micro}
use Rattle.position.proofs.Longitudes.{sum_below, micro-below}
use Rattle.format.specs.declared.Area.{Area}
use Rattle.format.specs.Dwell.{target_fields, D32, D32±, longitude}
use Rattle.format.proofs.Rows.{either}
use lib.ListN.{drop}

-- the target at the front of t, of a dwell with this mask and area
module _ (mask : ℕ) (area : Area) (t : List ℕ) (b : Bytes t) where
  -- "D32.3", which has 4 bytes
  stored-below : D32 3 (target_fields mask t) < 2 ^ 32
  unfolding value target_fields
  stored-below =
      let at = offset (d32 1) target_widths (d32 3) in
      be-lt 4 (drop at (target_fields mask t)) (drop-bytes at (target_fields mask t) (full-bytes mask (d32 1) target_widths t b))

  -- "else D32.5 × D11 + D25, reduced to 0 to 2^32−1"
  steps-below : longitude mask area (target_fields mask t) < 2 ^ 32
  unfolding longitude
  steps-below =
      either (λ (n : ℕ). n < 2 ^ 32) (announced mask (d32 3)) stored-below (sum_below (D32± 5 (target_fields mask t)) area.d11.0 area.d25.0)

  -- so in microdegrees, as a target's record has it
  pub longitude-below : longitude_micro (longitude mask area (target_fields mask t)) ≤ 359999999
  longitude-below = micro-below (longitude mask area (target_fields mask t)) steps-below
