-- A turn of the loops that compare batch by batch: where a batch differs the whole differs, and where it is the same the others decide.
-- Assumes nothing.
use Prim.Native.Nat.{ℕ, ◌+◌, ◌-◌, ◌*◌, ◌≤◌}
use native.Mathlib.Nat.{mul-le-mul_right, add-mul, zero-mul}
use native.Mathlib.Omega.{arith}
use mathlib.Core.Path.{◌≡◌, refl, sym, ap, ap₂, ◌∙◌}
use mathlib.Core.Bool.{Bool, true, false}
use mathlib.Core.List.{List, [], ◌∷◌, ◌++◌}
use lib.ListN.{length, take, drop, drop_of_length-le}
use lib.Seq.{sets, drop-drop}
use Rattle.octets.proofs.Parts.{tail-is}
use Rattle.format.specs.declared.Area.{Area}
use Rattle.format.specs.Dwell.{target_length}
use Rattle.format.specs.Check.{Passed}
use Rattle.octets.specs.Layout.{total}
use Rattle.format.specs.Sheet.{Record, target_records, scatterer_records, record_bytes}
use Rattle.format.specs.Rows.{first_row, targets_rows}
use Rattle.format.specs.Writer.{is_same}
use Rattle.format.proofs.Lengths.{bytes-append}
use Rattle.dwell_records.proofs.Targets.{targets-append, rows_append}
use Rattle.hrr_records.proofs.Scatterers.{scatterers-append}
use Rattle.readback.proofs.Fronts.{part-differs, part_same, told-window}

-- no bytes
empty : (y : List ℕ) → length y ≡ 0 → y ≡ []
empty [] h = refl
empty (a ∷ y) h = absurd (omega arith)

-- ---- followers that each take as many bytes: targets, scatterers and full pieces

-- n of them from t on have the records rs n t; each takes `each` bytes there, and its record `size` on the sheet
module _ (rs : ℕ → List ℕ → List Record) (each size : ℕ)
    (append : (j k : ℕ) (t : List ℕ) → rs (j + k) t ≡ rs j t ++ rs k (drop (j * each) t))
    (long : (k : ℕ) (t : List ℕ) → length (record_bytes (rs k t)) ≡ k * size) where
  -- k of them, behind so many that are done
  module _ (t : List ℕ) (count done k : ℕ) (some : done + k ≤ count) where
    -- those behind the first n
    abbrev from : ℕ → List ℕ
    from n = drop (n * each) t

    onward : drop (k * each) (from done) ≡ from (done + k)
    onward = drop-drop (k * each) (done * each) t ∙ ap (λ (n : ℕ). drop n t) (sym (add-mul done k each))

    counts : count - done ≡ k + (count - (done + k))
    counts = omega arith

    -- they lie within, and so do their records
    pub batch-within : {n : ℕ} (w : ℕ) → count * w ≤ n → done * w + k * w ≤ n
    batch-within w h = omega (arith, mul-le-mul_right {m = done + k} {n = count} w some, add-mul done k w)

    -- their records, and those behind them
    abbrev batch : List ℕ
    batch = record_bytes (rs k (from done))

    abbrev later : List ℕ
    later = record_bytes (rs (count - (done + k)) (from (done + k)))

    both : record_bytes (rs (count - done) (from done)) ≡ batch ++ later
    both =
        ap (λ (n : ℕ). record_bytes (rs n (from done))) counts
        ∙ ap record_bytes (append k (count - (done + k)) (from done))
        ∙ bytes-append (rs k (from done)) _
        ∙ ap (λ (y : List ℕ). batch ++ record_bytes (rs (count - (done + k)) y)) onward

    -- compared with their part of x
    module _ (x : List ℕ) {r : Bool} (whole : count * size ≡ length x)
        (told : r ≡ is_same batch (take (done * size + k * size - done * size) (drop (done * size) x))) where
      fits : done * size + k * size ≤ length x
      fits = batch-within size (omega (arith, whole))

      pub some-differ : r ≡ false → false ≡ is_same (record_bytes (rs (count - done) (from done))) (drop (done * size) x)
      some-differ e =
          part-differs batch later x (done * size) (k * size) (long k (from done)) fits told e
          ∙ sym (ap (λ (y : List ℕ). is_same y (drop (done * size) x)) both)

      pub some_same : r ≡ true → is_same later (drop ((done + k) * size) x) ≡ is_same (record_bytes (rs (count - done) (from done))) (drop (done * size) x)
      some_same e =
          ap (λ (n : ℕ). is_same later (drop n x)) (add-mul done k size)
          ∙ part_same batch later x (done * size) (k * size) (long k (from done)) fits told e
          ∙ sym (ap (λ (y : List ℕ). is_same y (drop (done * size) x)) both)

    -- so where they stand in the window
    module _ (x w₀ w : List ℕ) {r : Bool} (whole : count * size ≡ length x) (room : k * size ≤ length w₀)
        (filled : w ≡ sets w₀ 0 (record_bytes (rs k (take (length t - done * each) (from done)))))
        (told : r ≡ is_same (take (length (take (done * size + k * size - done * size) (drop (done * size) x))) w) (take (done * size + k * size - done * size) (drop (done * size) x))) where
      told-batch : r ≡ is_same batch (take (done * size + k * size - done * size) (drop (done * size) x))
      told-batch =
          let laid = filled ∙ ap (λ (y : List ℕ). sets w₀ 0 (record_bytes (rs k y))) (tail-is (done * each) t) in
          told-window batch x w₀ w (done * size) (k * size) laid (long k (from done)) room (batch-within size (omega (arith, whole))) told

      pub batch-differs : r ≡ false → false ≡ is_same (record_bytes (rs (count - done) (from done))) (drop (done * size) x)
      batch-differs = some-differ x whole told-batch

      pub batch-same : r ≡ true → is_same later (drop ((done + k) * size) x) ≡ is_same (record_bytes (rs (count - done) (from done))) (drop (done * size) x)
      batch-same = some_same x whole told-batch

  -- none are left, and nothing of x
  pub batch-end : (n m : ℕ) (t x : List ℕ) → n ≡ 0 → length x ≤ m → is_same (record_bytes (rs n t)) (drop m x) ≡ true
  unfolding is_same
  batch-end n m t x e h = ap₂ is_same (empty (record_bytes (rs n t)) (long n t ∙ ap (λ (i : ℕ). i * size) e ∙ zero-mul size)) (drop_of_length-le x h)

-- the rows of targets: none applies to those of a batch, and none to those behind it
pub batch-rows : (mask each : ℕ) (area : Area) (t : List ℕ) (count done k : ℕ) → each ≡ target_length mask → done + k ≤ count
    → first_row (targets_rows mask area (count - done) (drop (done * each) t)) ≡ Passed
    → (first_row (targets_rows mask area k (drop (done * each) t)) ≡ Passed) × (first_row (targets_rows mask area (count - (done + k)) (drop ((done + k) * each) t)) ≡ Passed)
batch-rows mask each area t count done k length_is some e =
    let counts : count - done ≡ k + (count - (done + k)) = omega arith in
    let p = rows_append mask area k (count - (done + k)) (drop (done * each) t) (sym (ap (λ (n : ℕ). first_row (targets_rows mask area n (drop (done * each) t))) counts) ∙ e) in
    let onward : drop (k * target_length mask) (drop (done * each) t) ≡ drop ((done + k) * each) t =
    ap (λ (u : ℕ). drop (k * u) (drop (done * each) t)) (sym length_is) ∙ drop-drop (k * each) (done * each) t ∙ ap (λ (n : ℕ). drop n t) (sym (add-mul done k each)) in
    (p.0, sym (ap (λ (y : List ℕ). first_row (targets_rows mask area (count - (done + k)) y)) onward) ∙ p.1)

-- targets, and scatterers, as such followers
pub targets-joined : (mask each : ℕ) (area : Area) → each ≡ target_length mask → (j k : ℕ) (t : List ℕ)
    → target_records mask area (j + k) t ≡ target_records mask area j t ++ target_records mask area k (drop (j * each) t)
targets-joined mask each area e j k t =
    targets-append mask area j k t ∙ ap (λ (u : ℕ). target_records mask area j t ++ target_records mask area k (drop (j * u) t)) (sym e)

pub scatterers-joined : (ws : List ℕ) (each : ℕ) → each ≡ total ws → (j k : ℕ) (t : List ℕ)
    → scatterer_records ws (j + k) t ≡ scatterer_records ws j t ++ scatterer_records ws k (drop (j * each) t)
scatterers-joined ws each e j k t =
    scatterers-append ws j k t ∙ ap (λ (u : ℕ). scatterer_records ws j t ++ scatterer_records ws k (drop (j * u) t)) (sym e)
