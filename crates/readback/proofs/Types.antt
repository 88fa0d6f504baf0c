-- A segment's records compared: those that fit into the window as the reader lays them out, and longer ones by the segment's type.
-- Assumes nothing.
use Prim.Native.Nat.{ℕ, ◌≤◌, ◌<◌}
use native.Mathlib.Omega.{arith}
use mathlib.Core.Path.{◌≡◌, refl, sym, ap, ◌∙◌}
use mathlib.Core.Bool.{Bool, false, true≢false}
use mathlib.Core.List.{List, [], ◌∷◌, ◌++◌}
use lib.ListN.{length, take}
use lib.Seq.{sets}
use Rattle.format.specs.declared.Reading.{Reading}
use Rattle.format.specs.Edition.{is_hrr}
use Rattle.format.specs.Sheet.{Record, opaque_records, segment_records, record_bytes}
use Rattle.format.specs.Writer.{is_same}
use Rattle.format.proofs.Types.{by_number}
use Rattle.format.proofs.Lengths.{bytes-append, records_of, length-segment}
use Rattle.segments.specs.InnerWalk.{bytes_of}
use Rattle.readback.specs.InnerWindow.{window_length}
use Rattle.readback.proofs.Fronts.{front-is}

-- laid out in the window, as many bytes as x has
pub filled-same : (a x w₀ w : List ℕ) {s : Bool} → w ≡ sets w₀ 0 a → length a ≡ length x → length x ≤ length w₀ → s ≡ is_same (take (length x) w) x → s ≡ is_same a x
filled-same a x w₀ w filled long room told = told ∙ ap (λ (u : List ℕ). is_same u x) (front-is a w₀ w (length x) filled long room)

-- the first record laid out in the window, and others that are compared behind it
pub behind-same : (first : Record) (rest : List Record) (y x w₀ w : List ℕ) (n : ℕ) {s : Bool} → w ≡ sets w₀ 0 (record_bytes (first ∷ [])) → length (record_bytes (first ∷ [])) ≡ n → n ≤ length w₀
    → s ≡ is_same (take n w ++ record_bytes rest) x → y ≡ record_bytes (first ∷ rest) → s ≡ is_same y x
behind-same first rest y x w₀ w n filled long room told e =
    told
    ∙ ap (λ (u : List ℕ). is_same (u ++ record_bytes rest) x) (front-is (record_bytes (first ∷ [])) w₀ w n filled long room)
    ∙ sym (ap (λ (u : List ℕ). is_same u x) (e ∙ bytes-append (first ∷ []) rest))

-- a segment with records that do not fit, and that are no dwell's, no HRR segment's and no text's, is opaque
pub longer-is : (r : Reading) (b : List ℕ) (t : ℕ) → window_length < length (bytes_of r t b) → (t ≡ 2 → ⊥) → is_hrr r t ≡ false → (t ≡ 6 → ⊥) → bytes_of r t b ≡ record_bytes (opaque_records t b)
unfolding segment_records is_hrr
longer-is r b t h =
    by_number r (λ (k : ℕ). window_length < records_of r k b → (k ≡ 2 → ⊥) → is_hrr r k ≡ false → (k ≡ 6 → ⊥) → bytes_of r k b ≡ record_bytes (opaque_records k b))
    (λ l _ _ _. absurd (omega arith)) (λ _ n _ _. absurd (n refl)) (λ h3 _ _ n _. absurd (true≢false (sym h3 ∙ n))) (λ l _ _ _. absurd (omega arith)) (λ _ _ _ n. absurd (n refl)) (λ l _ _ _. absurd (omega arith)) (λ l _ _ _. absurd (omega arith))
    (λ k h1 h2 h3 h5 h6 h10 h13 _ _ _ _. rw (h1, h2, h3, h5, h6, h10, h13))
    t
    (omega (arith, h, length-segment r t b))
