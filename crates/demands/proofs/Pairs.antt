-- The pairs of D2 and D3 on the records of a packet are those of its segments: a dwell's record has them as its segment has, since what is
-- withheld, D27, stands behind them, and no other record has any. And those that are counted are each pair once.
-- Assumes nothing.
use Prim.Native.Nat.{ℕ, ◌+◌, ◌≤◌}
use native.Mathlib.Omega.{arith}
use mathlib.Core.Path.{◌≡◌, refl, ap, ap₂, ◌∙◌}
use mathlib.Core.Bool.{Bool, true, false, ◌&&◌, cond}
use mathlib.Core.List.{List, [], ◌∷◌, ◌++◌, append_assoc}
use borrow.Author.Tests.{eqb-true, eq-eqb}
use lib.Dec.{eqb, lit≤}
use lib.ListN.{length, take, drop, length-append}
use lib.Seq.{length-take-le, drop_at}
use Rattle.octets.specs.Layout.{width, offset, total}
use Rattle.octets.proofs.Layouts.{length-zeroed, field-front, field-kept, same-value}
use Rattle.distinct.proofs.Laws.{same-members, none_twice}
use Rattle.mask.specs.Fields.{dwell_widths}
use Rattle.format.specs.declared.Reading.{Reading}
use Rattle.format.specs.Check.{Passed}
use Rattle.format.specs.Packet.{Segment}
use Rattle.format.specs.Dwell.{dwell_fields, D, Pair, pair_of, is_same_pair}
use Rattle.format.specs.Edition.{is_older, is_hrr, shown, mark}
use Rattle.format.specs.Sheet.{Record, body_length, record_of, dwell_record, dwell_records, hrr_record, hrr_records, text_records, opaque_records, job_records, segment_records, packet_records}
use Rattle.format.specs.Rows.{first_row, dwell_rows, body_rows}
use Rattle.format.specs.Reader.{pairs_in}
use Rattle.format.proofs.Rows.{either, both}
use Rattle.format.proofs.Types.{by_number}
use Rattle.format.proofs.Bodies.{record-exact, length-dwell}
use Rattle.format.proofs.Dwells.{is-dwell}
use Rattle.format.proofs.Segments.{AllSound}
use Rattle.demands.specs.Counts.{pairs_on}
use Rattle.demands.specs.Demands.{DifferentPairs}
use Rattle.demands.proofs.Runs.{Run, run_end, run_more, targets-run, scatterers-run, pieces-run}

-- ---- a dwell's record

module _ (r : Reading) (b : List ℕ) where
  -- D2 to D31 as they are shown
  abbrev shown_fields : List ℕ
  shown_fields = shown r 2 dwell_widths 27 (dwell_fields b)

  -- they are as long
  length-shown : length shown_fields ≡ 78
  unfolding shown total
  length-shown =
      let n = length-dwell b in
      either (λ (f : List ℕ). length f ≡ 78) (is_older r) (length-zeroed 2 dwell_widths 27 (dwell_fields b) (omega arith) ∙ n) n

  -- and a number before D27 is as it was
  shown-kept : (n : ℕ) → offset 2 dwell_widths n + width 2 dwell_widths n ≤ offset 2 dwell_widths 27 → D n shown_fields ≡ D n (dwell_fields b)
  unfolding shown total
  shown-kept n h =
      let long : 69 ≤ length (dwell_fields b) = omega (arith, length-dwell b) in
      either (λ (f : List ℕ). D n f ≡ D n (dwell_fields b)) (is_older r) (same-value 2 dwell_widths n _ _ (field-kept 2 dwell_widths n 27 _ (dwell_fields b) h long)) refl

  module _ (long : 8 ≤ length b) where
    -- behind the mask the record has what is shown, and the mark
    shown-behind-mask : drop 8 (dwell_record r b).body ≡ shown_fields ++ mark r ∷ []
    unfolding dwell_record body_length
    shown-behind-mask =
        let a : length (take 8 b) ≡ 8 = length-take-le 8 b long in
        let n : length (take 8 b ++ shown_fields ++ mark r ∷ []) ≡ body_length 3 = simp (length-append, a, length-shown) in
        ap (λ (q : Record). drop 8 q.body) (record-exact 3 _ n)
        ∙ ap (drop 8) (append_assoc (take 8 b) shown_fields (mark r ∷ []))
        ∙ drop_at (take 8 b) (shown_fields ++ mark r ∷ []) 8 a

    -- so a number before D27 is that of the segment
    record-kept : (n : ℕ) → offset 2 dwell_widths n + width 2 dwell_widths n ≤ offset 2 dwell_widths 27 → D n (drop 8 (dwell_record r b).body) ≡ D n (dwell_fields b)
    unfolding total
    record-kept n h =
        let within : offset 2 dwell_widths n + width 2 dwell_widths n ≤ length shown_fields = omega (arith, length-shown) in
        ap (D n) shown-behind-mask ∙ same-value 2 dwell_widths n _ _ (field-front 2 dwell_widths n shown_fields (mark r ∷ []) within) ∙ shown-kept n h

    -- above all D2 and D3
    record-pair : pair_of (drop 8 (dwell_record r b).body) ≡ pair_of (dwell_fields b)
    unfolding total
    record-pair = ap₂ (λ (d2 d3 : ℕ). record { d2 = d2; d3 = d3 }) (record-kept 2 (lit≤ tt)) (record-kept 3 (lit≤ tt))

-- ---- the records of a packet

-- the pairs of records after others
pairs-append : (rs qs : List Record) → pairs_on (rs ++ qs) ≡ pairs_on rs ++ pairs_on qs
unfolding pairs_on
pairs-append [] qs = refl
pairs-append (q ∷ rs) qs = go (eqb q.kind 3) (pairs-append rs qs)
  where
    go : (t : Bool) → pairs_on (rs ++ qs) ≡ pairs_on rs ++ pairs_on qs
        → cond t (pair_of (drop 8 q.body) ∷ pairs_on (rs ++ qs)) (pairs_on (rs ++ qs)) ≡ cond t (pair_of (drop 8 q.body) ∷ pairs_on rs) (pairs_on rs) ++ pairs_on qs
    go true e = ap (λ (ps : List Pair). pair_of (drop 8 q.body) ∷ ps) e
    go false e = e

-- records of another kind than a dwell's have none
run-without : {kind n : ℕ} {qs : List Record} → eqb kind 3 ≡ false → Run kind n qs → pairs_on qs ≡ []
unfolding pairs_on
run-without h run_end = refl
run-without h (run_more e a) = rw (e, h) (run-without h a)

module _ (r : Reading) where
  -- a dwell has one
  dwell-pair : (b : List ℕ) → first_row (dwell_rows r b) ≡ Passed → pairs_on (dwell_records r b) ≡ pair_of (dwell_fields b) ∷ []
  unfolding pairs_on dwell_records dwell_record record_of
  dwell-pair b p =
      let long : 8 ≤ length b = omega (arith, (is-dwell r b p).long) in
      ap₂ (λ (q : Pair) (qs : List Pair). q ∷ qs) (record-pair r b long) (run-without refl (targets-run _ _ _ _))

  -- any other segment has none
  segment-pairs : (s : Segment) → first_row (body_rows r s.type s.body) ≡ Passed → pairs_on (segment_records r s) ≡ cond (eqb s.type 2) (pair_of (dwell_fields s.body) ∷ []) []
  unfolding pairs_on segment_records body_rows is_hrr hrr_records hrr_record job_records text_records opaque_records record_of
  segment-pairs s =
      let b = s.body in
      by_number r (λ (t : ℕ). first_row (body_rows r t b) ≡ Passed → pairs_on (segment_records r (record { type = t; body = b })) ≡ cond (eqb t 2) (pair_of (dwell_fields b) ∷ []) [])
      (λ p. refl)
      (dwell-pair b)
      (λ h3 p. rw h3 (run-without refl (scatterers-run _ _ _)))
      (λ p. refl)
      (λ p. run-without refl (pieces-run _ _))
      (λ p. refl)
      (λ p. refl)
      (λ t h1 h2 h3 h5 h6 h10 h13 p. rw (h1, h2, h3, h5, h6, h10, h13) (run-without refl (pieces-run _ _)))
      s.type

  -- so the records of all segments have the pairs of the dwells
  pub pairs-are : (ss : List Segment) → AllSound r ss → pairs_on (packet_records r ss) ≡ pairs_in ss
  unfolding pairs_on packet_records pairs_in
  pairs-are [] h = refl
  pairs-are (s ∷ ss) h =
      pairs-append (segment_records r s) (packet_records r ss)
      ∙ ap₂ (λ (x y : List Pair). x ++ y) (segment-pairs s h.0.rows) (pairs-are ss h.1)
      ∙ one (eqb s.type 2)
    where
      one : (t : Bool) → cond t (pair_of (dwell_fields s.body) ∷ []) [] ++ pairs_in ss ≡ cond t (pair_of (dwell_fields s.body) ∷ pairs_in ss) (pairs_in ss)
      one true = refl
      one false = refl

-- ---- what lets the count be believed

-- the same pair is an equal one
equal : (p q : Pair) → is_same_pair p q ≡ true → p ≡ q
unfolding is_same_pair
equal p q e =
    let tests = both (eqb p.d2 q.d2) (eqb p.d3 q.d3) e in
    ap₂ (λ (d2 d3 : ℕ). record { d2 = d2; d3 = d3 }) (eqb-true p.d2 q.d2 tests.0) (eqb-true p.d3 q.d3 tests.1)

pub different-pairs : DifferentPairs
unfolding is_same_pair
different-pairs = record {
  same_are_equal = equal;
  equal_are_same = λ p. ap₂ ◌&&◌ (eq-eqb p.d2 p.d2 refl) (eq-eqb p.d3 p.d3 refl);
  all_of_them = same-members is_same_pair equal;
  none_twice = none_twice is_same_pair equal;
}
