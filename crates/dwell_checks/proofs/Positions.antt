-- What positions take from the dwell, a target's position, and the rows of one target, from the numbers that were read.
-- Assumes nothing.
use mathlib.Core.Path.{◌≡◌, ap, ◌∙◌}
use mathlib.Core.Bool.{Bool, true, false, cond, not}
use mathlib.Core.List.{List}
use Prim.Native.Nat.{ℕ}
use lib.Dec.{ltb}
use lib.IntN.{ℤ, negsuc}
use lib.Signed.{lt_z}
use Rattle.mask.specs.Fields.{announced}
use Rattle.position.specs.Position.{latitude_sum, longitude_sum, is_latitude}
use Rattle.format.specs.declared.Area.{Area}
use Rattle.format.specs.Check.{Passed, Failed}
use Rattle.format.specs.Dwell.{D, D±, D32, D32±, area_of, latitude, longitude, target_fields}
use Rattle.format.specs.Rows.{first_row, target_rows}

-- the area of a dwell whose fields at full widths are f
pub area-is : (f : List ℕ) {x z : ℤ} {y u : ℕ} → x ≡ D± 10 f → y ≡ D 11 f → z ≡ D± 24 f → u ≡ D 25 f
    → ◌≡◌ {A = Area} (record { d10 = record { 0 = x }; d11 = record { 0 = y }; d24 = record { 0 = z }; d25 = record { 0 = u } }) (area_of f)
unfolding area_of
area-is f ex ey ez eu = rw (ex, ey, ez, eu)

-- a target whose fields at full widths are f: its own position where that is announced, else the sum with its deltas
module _ (mask : ℕ) (area : Area) (f : List ℕ) where
  pub latitude-there : {z : ℤ} → announced mask 33 ≡ true → z ≡ D32± 2 f → z ≡ latitude mask area f
  unfolding latitude
  latitude-there e h = rw e h

  pub latitude-summed : {d z : ℤ} → announced mask 33 ≡ false → d ≡ D32± 4 f → z ≡ latitude_sum d area.d10.0 area.d24.0 → z ≡ latitude mask area f
  unfolding latitude
  latitude-summed e h s = rw e (s ∙ ap (λ (v : ℤ). latitude_sum v area.d10.0 area.d24.0) h)

  pub longitude-there : {z : ℕ} → announced mask 34 ≡ true → z ≡ D32 3 f → z ≡ longitude mask area f
  unfolding longitude
  longitude-there e h = rw e h

  pub longitude-summed : {d : ℤ} {z : ℕ} → announced mask 34 ≡ false → d ≡ D32± 5 f → z ≡ longitude_sum d area.d11.0 area.d25.0 → z ≡ longitude mask area f
  unfolding longitude
  longitude-summed e h s = rw e (s ∙ ap (λ (v : ℤ). longitude_sum v area.d11.0 area.d25.0) h)

-- the rows of the target at the front of t, by the results of their tests
pub rows_are : (mask : ℕ) (area : Area) (t : List ℕ) {p q r s : Bool}
    → lt_z (D32± 6 (target_fields mask t)) (negsuc 999) ≡ p → ltb 100 (D32 11 (target_fields mask t)) ≡ q → ltb 5000 (D32 15 (target_fields mask t)) ≡ r
    → not (is_latitude (latitude mask area (target_fields mask t))) ≡ s
    → first_row (target_rows mask area t) ≡ cond p (Failed 13 37) (cond q (Failed 13 42) (cond r (Failed 13 46) (cond s (Failed 14 35) Passed)))
unfolding first_row target_rows
rows_are mask area t ep eq er es = rw (ep, eq, er, es)
