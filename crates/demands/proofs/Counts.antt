-- The counts of a reading are those of its sheet: its segments and targets are its records of the kinds for them, its dwells the different
-- pairs of D2 and D3 on them.
-- Assumes nothing.
use Prim.Native.Nat.{ℕ, suc, ◌+◌, ◌*◌, ◌≤◌}
use native.Mathlib.Nat.{zero-add, add-zero, add_assoc, zero-mul}
use native.Mathlib.Omega.{arith}
use mathlib.Core.Path.{◌≡◌, refl, sym, ap, ap₂, ◌∙◌}
use mathlib.Core.Bool.{Bool, true, false, cond}
use mathlib.Core.List.{List, [], ◌∷◌, ◌++◌}
use lib.Dec.{eqb}
use lib.ListN.{length, drop, length-drop}
use Rattle.distinct.specs.Distinct.{without_repeats}
use Rattle.format.specs.declared.Settings.{Settings}
use Rattle.format.specs.declared.Reading.{Reading}
use Rattle.format.specs.Packet.{Segment}
use Rattle.format.specs.Dwell.{target_count, Pair, is_same_pair}
use Rattle.format.specs.Edition.{is_hrr}
use Rattle.format.specs.Sheet.{Record, record_of, header_record, dwell_record, dwell_records, hrr_record, hrr_records, text_records, opaque_records, job_records, segment_records, packet_records}
use Rattle.format.specs.Reader.{dwells_in, targets_in, reading_of, parsed, sheet}
use Rattle.format.proofs.Types.{by_number}
use Rattle.format.proofs.Records.{listed-sheet}
use Rattle.format.proofs.Segments.{AllSound, parse-sound}
use Rattle.demands.specs.Counts.{count, is_kind, is_leader, pairs_on}
use Rattle.demands.specs.Demands.{Counted}
use Rattle.demands.proofs.Runs.{Run, run_end, run_more, targets-run, scatterers-run, pieces-run}
use Rattle.demands.proofs.Pairs.{pairs-are}

-- a count goes on over records after others
count-append : (f : Record → Bool) (rs qs : List Record) → count f (rs ++ qs) ≡ count f rs + count f qs
unfolding count
count-append f [] qs = sym (zero-add (count f qs))
count-append f (r ∷ rs) qs = ap (λ (n : ℕ). cond (f r) 1 0 + n) (count-append f rs qs) ∙ sym (add_assoc (cond (f r) 1 0) (count f rs) (count f qs))

-- a count that goes by the kind of a record, leaves out pieces and scatterers, and takes either all or none of the records that begin a
-- segment other than a dwell (c)
module _ (g : ℕ → Bool) (c : Bool) (piece : g 6 ≡ false) (scatterer : g 12 ≡ false)
    (mission : g 2 ≡ c) (text : g 5 ≡ c) (other : g 7 ≡ c) (job : g 8 ≡ c) (test : g 9 ≡ c) (location : g 10 ≡ c) (hrr : g 11 ≡ c) where
  abbrev counts : List Record → ℕ
  counts rs = count (λ (q : Record). g q.kind) rs

  -- records of one kind count alike
  count-run : {kind n : ℕ} {qs : List Record} → Run kind n qs → counts qs ≡ n * cond (g kind) 1 0
  unfolding count
  count-run {kind} run_end = sym (zero-mul (cond (g kind) 1 0))
  count-run {kind} (run_more {n} e a) = rw (e, count-run a) (omega arith)

  -- a record by itself
  alone : (k : ℕ) (b : List ℕ) → g k ≡ c → counts (record_of k b ∷ []) ≡ cond c 1 0
  unfolding count record_of
  alone k b e = rw e (add-zero (cond c 1 0))

  -- a record before some that are left out
  before-run : (k : ℕ) (b : List ℕ) {kind n : ℕ} {qs : List Record} → g k ≡ c → g kind ≡ false → Run kind n qs → counts (record_of k b ∷ qs) ≡ cond c 1 0
  unfolding count record_of
  before-run k b {kind} {n} e h a = rw (e, count-run a, h) (omega arith)

  -- a dwell and its targets
  count-dwell : (r : Reading) (b : List ℕ) → counts (dwell_records r b) ≡ cond (g 3) 1 0 + target_count b * cond (g 4) 1 0
  unfolding count dwell_records dwell_record record_of
  count-dwell r b = ap (λ (m : ℕ). cond (g 3) 1 0 + m) (count-run (targets-run _ _ _ _))

  -- any segment
  counts-segment : (r : Reading) (s : Segment) → counts (segment_records r s) ≡ cond (eqb s.type 2) (cond (g 3) 1 0 + target_count s.body * cond (g 4) 1 0) (cond c 1 0)
  unfolding segment_records is_hrr hrr_records hrr_record job_records text_records opaque_records
  counts-segment r s =
      by_number r (λ (t : ℕ). counts (segment_records r (record { type = t; body = s.body })) ≡ cond (eqb t 2) (cond (g 3) 1 0 + target_count s.body * cond (g 4) 1 0) (cond c 1 0))
      (alone 2 _ mission)
      (count-dwell r s.body)
      (λ h3. rw h3 (before-run 11 _ hrr scatterer (scatterers-run _ _ _)))
      (alone 8 _ job)
      (before-run 5 _ text piece (pieces-run _ _))
      (alone 9 _ test)
      (alone 10 _ location)
      (λ t h1 h2 h3 h5 h6 h10 h13. rw (h1, h2, h3, h5, h6, h10, h13) (before-run 7 _ other piece (pieces-run _ _)))
      s.type

module _ (r : Reading) where
  -- each segment has one record that begins it
  leaders-are : (ss : List Segment) → count is_leader (packet_records r ss) ≡ length ss
  unfolding count packet_records
  leaders-are [] = refl
  leaders-are (s ∷ ss) =
      let e : 1 + length ss ≡ suc (length ss) = omega arith in
      count-append is_leader (segment_records r s) (packet_records r ss)
      ∙ ap₂ (λ (x y : ℕ). x + y) (counts-segment (λ k. is_leader (record { kind = k; body = [] })) true refl refl refl refl refl refl refl refl refl r s ∙ one (eqb s.type 2)) (leaders-are ss)
      ∙ e
    where
      one : (b : Bool) → cond b (1 + target_count s.body * 0) 1 ≡ 1
      one true = omega arith
      one false = refl

  -- and so many targets as it says
  targets_are : (ss : List Segment) → count (is_kind 4) (packet_records r ss) ≡ targets_in ss
  unfolding count packet_records targets_in
  targets_are [] = refl
  targets_are (s ∷ ss) =
      count-append (is_kind 4) (segment_records r s) (packet_records r ss)
      ∙ ap₂ (λ (x y : ℕ). x + y) (counts-segment (λ k. eqb k 4) false refl refl refl refl refl refl refl refl refl r s ∙ all (eqb s.type 2)) (targets_are ss)
    where
      all : (b : Bool) → cond b (0 + target_count s.body * 1) 0 ≡ cond b (target_count s.body) 0
      all true = omega arith
      all false = refl

-- the counts of a reading's segments are those of the records of its sheet, where the packet is not too long
pub counts-are : (settings : Settings) (l : List ℕ) → length l ≤ 65536
    → Counted (sheet settings l) (length (parsed settings l).segments) (dwells_in (parsed settings l).segments) (targets_in (parsed settings l).segments) (length (sheet settings l))
unfolding count pairs_on header_record record_of parsed dwells_in
counts-are settings l short =
    let r = reading_of settings l in
    let ss = (parsed settings l).segments in
    let sound : AllSound r ss = parse-sound r (length (drop 32 l)) (drop 32 l) (rw length-drop (omega arith)) in
    record {
      segments_are = rw (listed-sheet settings l) (sym (zero-add _ ∙ leaders-are r ss));
      dwells_are = rw (listed-sheet settings l) (ap (λ (ps : List Pair). length (without_repeats is_same_pair ps)) (sym (pairs-are r ss sound)));
      targets_are = rw (listed-sheet settings l) (sym (zero-add _ ∙ targets_are r ss));
      length_is = refl;
    }
