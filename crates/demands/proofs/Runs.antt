-- So many records of one kind in a row: the targets of a dwell, the scatterers of an HRR segment, the pieces of a text or an opaque body.
-- Assumes nothing.
use Prim.Native.Nat.{ℕ, zero, suc}
use mathlib.Core.Path.{◌≡◌, refl}
use mathlib.Core.List.{List, [], ◌∷◌}
use Rattle.format.specs.declared.Area.{Area}
use Rattle.format.specs.Sheet.{Record, record_of, target_record, target_records, scatterer_record, scatterer_records, piece_record, piece_records}

pub data Run (kind : ℕ) : ℕ → List Record → Type 0 where
  run_end : Run kind 0 []
  run_more : {n : ℕ} {q : Record} {qs : List Record} → q.kind ≡ kind → Run kind n qs → Run kind (suc n) (q ∷ qs)

pub targets-run : (mask : ℕ) (area : Area) (n : ℕ) (t : List ℕ) → Run 4 n (target_records mask area n t)
unfolding target_records target_record record_of
targets-run mask area zero t = run_end
targets-run mask area (suc n) t = run_more refl (targets-run mask area n _)

pub scatterers-run : (ws : List ℕ) (n : ℕ) (t : List ℕ) → Run 12 n (scatterer_records ws n t)
unfolding scatterer_records scatterer_record record_of
scatterers-run ws zero t = run_end
scatterers-run ws (suc n) t = run_more refl (scatterers-run ws n _)

pub pieces-run : (n : ℕ) (b : List ℕ) → Run 6 n (piece_records n b)
unfolding piece_records piece_record record_of
pieces-run zero b = run_end
pieces-run (suc n) b = run_more refl (pieces-run n _)
