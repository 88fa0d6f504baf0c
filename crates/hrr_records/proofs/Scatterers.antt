-- The record of a scatterer, laid out by stores, and the loops over scatterers.
-- Assumes nothing.
use mathlib.Core.Path.{◌≡◌, refl, ap, ◌∙◌}
use mathlib.Core.List.{List, [], ◌∷◌, ◌++◌}
use Prim.Native.Nat.{ℕ, suc, ◌+◌, ◌-◌, ◌*◌}
use lib.ListN.{length, drop}
use lib.Seq.{sets}
use borrow.Rule.Slice.PartMut.{mid_of, put_mid}
use Rattle.octets.specs.Layout.{total}
use Rattle.hrr.specs.Hrr.{widened}
use Rattle.format.specs.Sheet.{body_length, scatterer_record, scatterer_records, record_bytes}
use Rattle.format.specs.Lengths.{record_length}
use Rattle.format.proofs.Lengths.{length-one}
use Rattle.format.proofs.Hrr.{AllNarrow, length-widened}
use Rattle.records.proofs.Laid.{record-laid, full_body, records-next, records-append, part-laid}

-- ---- one scatterer

-- its numbers, widened, fill the body
module _ (ws t l : List ℕ) (four : length ws ≡ 4) (narrow : AllNarrow ws) where
  eight : length (widened ws t) ≡ 8
  eight = length-widened ws t narrow ∙ ap (λ (n : ℕ). n * 2) four

  pub scatterer-laid : {x w : List ℕ} → x ≡ sets l 0 (12 ∷ []) → w ≡ sets x 1 (widened ws t) → w ≡ sets l 0 (record_bytes (scatterer_record ws t ∷ []))
  unfolding scatterer_record body_length
  scatterer-laid hx hw = record-laid 12 (widened ws t) (widened ws t) l (full_body 12 _ eight) hx hw

-- ---- scatterers in a row

module _ (ws : List ℕ) where
  -- the next of several
  scatterer-step : (n : ℕ) (t : List ℕ) → scatterer_records ws (suc n) t ≡ scatterer_record ws t ∷ scatterer_records ws n (drop (total ws) t)
  unfolding scatterer_records
  scatterer-step n t = refl

  -- the length of one's record
  length-of-scatterer : (t : List ℕ) → length (record_bytes (scatterer_record ws t ∷ [])) ≡ record_length 12
  unfolding scatterer_record body_length
  length-of-scatterer t = length-one 12 _

  -- the loop: once the one at p is stored at q, in a part of the memory that is lent, what is left to store still gives all of them
  pub scatterers-next : (n k p q each : ℕ) (t o all : List ℕ) {part : List ℕ}
      → n ≡ suc k → each ≡ total ws → part ≡ sets (mid_of q (length o - q) o) 0 (record_bytes (scatterer_record ws (mid_of p (length t - p) t) ∷ []))
      → sets o q (record_bytes (scatterer_records ws n (drop p t))) ≡ all
      → sets (put_mid q (length o - q) o part) (q + record_length 12) (record_bytes (scatterer_records ws k (drop (p + each) t))) ≡ all
  scatterers-next n k p q each t o all {part} hn he hp e =
      ap (λ (u : ℕ). sets (put_mid q (length o - q) o part) (q + record_length 12) (record_bytes (scatterer_records ws k (drop (p + u) t)))) he
      ∙ records-next (scatterer_record ws) (scatterer_records ws) (total ws) (record_length 12) scatterer-step length-of-scatterer n k p q t o all hn
      (part-laid (λ (x : List ℕ). record_bytes (scatterer_record ws x ∷ [])) t o p q hp) e

  -- at the end none are left to store
  pub scatterers-last : (n p q : ℕ) (t o all : List ℕ) → n ≡ 0 → sets o q (record_bytes (scatterer_records ws n (drop p t))) ≡ all → o ≡ all
  unfolding scatterer_records record_bytes
  scatterers-last n p q t o all hn e = rw hn at e

  -- the first j of several, and those behind them
  pub scatterers-append : (j k : ℕ) (t : List ℕ) → scatterer_records ws (j + k) t ≡ scatterer_records ws j t ++ scatterer_records ws k (drop (j * total ws) t)
  unfolding scatterer_records
  scatterers-append = records-append (scatterer_record ws) (scatterer_records ws) (total ws) (record_length 12) scatterer-step length-of-scatterer (λ t. refl)
