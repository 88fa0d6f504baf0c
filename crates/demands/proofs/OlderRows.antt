-- One segment that the Edition 3 reading passes: the Edition 1 reading of it answers what is new in it, and passes where nothing is.
-- Assumes nothing.
use Prim.Native.Nat.{ℕ}
use mathlib.Core.Path.{◌≡◌, ◌∙◌}
use mathlib.Core.Bool.{true, cond, ◌&&◌}
use mathlib.Core.List.{List, [], ◌∷◌}
use lib.Dec.{eqb}
use Rattle.mask.specs.Mask.{new_in_mask}
use Rattle.format.specs.declared.Reading.{Reading}
use Rattle.format.specs.Check.{Passed}
use Rattle.format.specs.Packet.{type_at, body_at, J}
use Rattle.format.specs.Dwell.{mask_of}
use Rattle.format.specs.Edition.{is_older, is_hrr, is_new_mode}
use Rattle.format.specs.Rows.{Row, row, naming, first_row, dwell_rows, job_rows, body_rows, segment_rows}
use Rattle.format.specs.New.{new_rows}
use Rattle.format.proofs.Types.{by_number}
use Rattle.format.proofs.Rows.{first_passes, segment-passes}

-- behind a row that does not apply, the rows that follow decide
behind : (r : Row) (rs qs : List Row) → first_row (r ∷ rs) ≡ Passed → first_row (r ∷ qs) ≡ first_row qs
unfolding first_row
behind r rs qs e = rw (first_passes r rs e).0

-- before rows that decide alike, a row leaves them deciding alike
before : (r : Row) (rs qs : List Row) → first_row rs ≡ first_row qs → first_row (r ∷ rs) ≡ first_row (r ∷ qs)
unfolding first_row
before r rs qs e = rw e

-- before rows that do not apply, a row decides alone
alone : (r : Row) (rs : List Row) → first_row rs ≡ Passed → first_row (r ∷ rs) ≡ first_row (r ∷ [])
unfolding first_row
alone r rs e = before r rs [] e

-- what new_rows tells of a segment's type and body, but for its type 3
abbrev new_body : ℕ → List ℕ → List Row
new_body t b = naming 15 (cond (eqb t 2) (new_in_mask (mask_of b)) 0) ∷ row 15 14 (eqb t 5 && is_new_mode (J 14 b)) ∷ []

-- r1 is the older reading of a packet that r3 reads too
module _ (r1 r3 : Reading) (older : is_older r1 ≡ true) (same : r1.version ≡ r3.version) where
  -- a dwell that passes has only its mask's new things to tell
  dwell-new : (b : List ℕ) → first_row (dwell_rows r3 b) ≡ Passed → first_row (dwell_rows r1 b) ≡ first_row (naming 15 (new_in_mask (mask_of b)) ∷ [])
  unfolding dwell_rows
  dwell-new b e =
      let nine = first_passes _ _ e in
      let eleven = first_passes _ _ nine.1 in
      let fifteen = first_passes _ _ eleven.1 in
      rw (older, same) (behind _ _ _ e ∙ behind _ _ _ nine.1 ∙ alone _ _ fifteen.1)

  -- and a job definition only its J14
  job-new : (b : List ℕ) → first_row (job_rows r3 b) ≡ Passed → first_row (job_rows r1 b) ≡ first_row (row 15 14 (is_new_mode (J 14 b)) ∷ [])
  unfolding job_rows
  job-new b e =
      let nine = first_passes _ _ e in
      rw older (behind _ _ _ e ∙ behind _ _ _ nine.1)

  -- so each body that passes has only its new things to tell
  body_new : (t : ℕ) (b : List ℕ) → first_row (body_rows r3 t b) ≡ Passed → first_row (body_rows r1 t b) ≡ first_row (new_body t b)
  unfolding body_rows is_hrr first_row
  body_new t b =
      by_number r3 (λ (t : ℕ). first_row (body_rows r3 t b) ≡ Passed → first_row (body_rows r1 t b) ≡ first_row (new_body t b))
      (λ p. p) (dwell-new b) (λ h3 p. rw (same, h3) (rw h3 at p)) (job-new b) (λ p. p) (λ p. p) (λ p. p)
      (λ t h1 h2 h3 h5 h6 h10 h13 p. rw (h1, h2, same, h3, h5, h6, h10, h13))
      t

  -- the first row of the older reading of a segment that passes is the first thing that is new in it
  pub segment-new : (l : List ℕ) → first_row (segment_rows r3 l) ≡ Passed
      → first_row (segment_rows r1 l) ≡ first_row (new_rows (record { type = type_at l; body = body_at l }))
  unfolding segment_rows new_rows
  segment-new l e =
      let six = first_passes _ _ e in
      let seven = first_passes _ _ six.1 in
      let body = body_new (type_at l) (body_at l) (segment-passes r3 l e).body in
      rw older (behind _ _ _ e ∙ behind _ _ _ six.1 ∙ behind _ _ _ seven.1 ∙ before _ _ _ body)
