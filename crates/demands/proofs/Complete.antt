-- The records of a packet's segments have the shape that the writer asks for: after each stands just what it calls for, and none is
-- a header.
-- Assumes nothing.
use Prim.Native.Nat.{ℕ, zero, suc, ◌+◌, ◌-◌, ◌*◌, ◌/◌, ◌≤◌, ◌<◌, min}
use native.Mathlib.Nat.{mod-eq_of_lt}
use native.Mathlib.Omega.{arith}
use mathlib.Core.Path.{◌≡◌, refl, sym, ap, ◌∙◌}
use mathlib.Core.Bool.{Bool, true, false, not, ◌&&◌}
use mathlib.Core.List.{List, [], ◌∷◌, ◌++◌, append-nil}
use lib.Dec.{eqb}
use lib.ListN.{length, take, drop, length-drop}
use lib.Seq.{length-take-le, drop-append-le, drop_at}
use Rattle.octets.specs.Octets.{be, bytes}
use Rattle.octets.specs.Layout.{pad, total, value}
use Rattle.octets.proofs.Laws.{be-bytes}
use Rattle.format.specs.declared.Reading.{Reading}
use Rattle.format.specs.Packet.{Segment}
use Rattle.format.specs.Dwell.{D, dwell_fields, target_count}
use Rattle.format.specs.Edition.{is_older}
use Rattle.format.specs.Sheet.{Record, body_length, record_of, dwell_record, piece_record, piece_records, piece_count, pieces_of, dwell_records, hrr_record, hrr_records, text_records, opaque_records, job_records, segment_records, packet_records}
use Rattle.format.specs.Writer.{no_header, due, called_for, is_complete}
use Rattle.format.proofs.Records.{by-type}
use Rattle.format.proofs.Followers.{follows, begins, complete, none_left}
use Rattle.format.proofs.Segments.{Sound, AllSound, by_rows}
use Rattle.octets.proofs.Laws.{be-front}
use Rattle.format.proofs.Dwells.{is-dwell}
use Rattle.format.proofs.Bodies.{text-length, length-dwell, dwell-exact, text-exact, opaque-exact}
use Rattle.format.proofs.Hrr.{count_in, is-hrr, hrr-calls}
use Rattle.demands.proofs.Runs.{Run, run_end, run_more, targets-run, scatterers-run, pieces-run}

-- nothing is called for, and nothing lacks
abbrev pub Complete : List Record → Type 0
Complete rs = is_complete (due 0 0) rs ≡ true

-- so many targets or scatterers are had where they are called for
run-complete : {kind n : ℕ} {qs : List Record} (rs : List Record) → eqb kind 6 ≡ false → Run kind n qs → Complete rs → is_complete (due kind n) (qs ++ rs) ≡ true
run-complete {kind} rs h run_end c = none_left kind rs c
run-complete {kind} rs h (run_more {n} e a) c =
    let left : suc n - 1 ≡ n = omega arith in
    complete (follows (omega arith) e (rw (e, h)) (rw (h, left) (run-complete rs h a c)))

-- so are pieces of so many bytes
pieces-from : (n : ℕ) (b : List ℕ) (rs : List Record) → length b ≤ n * 32 → n * 32 < length b + 32 → Complete rs
    → is_complete (due 6 (length b)) (piece_records n b ++ rs) ≡ true
unfolding piece_records piece_record record_of body_length pad
pieces-from zero b rs h k c = let e : length b ≡ 0 = omega arith in rw e (none_left 6 rs c)
pieces-from (suc n) b rs h k c =
    let e : length b - min 32 (length b) ≡ length (drop 32 b) = omega (arith, length-drop 32 b) in
    complete (follows (omega arith) refl refl (rw e (pieces-from n (drop 32 b) rs (rw length-drop (omega arith)) (rw length-drop (omega arith)) c)))

-- and all the pieces of a body
pieces-complete : (b : List ℕ) (rs : List Record) → Complete rs → is_complete (due 6 (length b)) (pieces_of b ++ rs) ≡ true
unfolding piece_count
pieces-complete b rs c = pieces-from ((length b + 31) / 32) b rs (omega arith) (omega arith) c

-- ---- what the first record of each type calls for

-- a dwell's record calls for the dwell's targets
dwell-calls : (b : List ℕ) → 8 ≤ length b → D 5 (drop 8 (take 8 b ++ (dwell_fields b ++ 1 ∷ []))) ≡ target_count b
unfolding target_count value total
dwell-calls b h =
    let f = dwell_fields b in
    let n : length f ≡ 78 = length-dwell b in
    let m : 2 ≤ length (drop 5 f) = rw length-drop (omega arith) in
    ap (λ (x : List ℕ). be 2 (drop 5 x)) (drop_at (take 8 b) (f ++ 1 ∷ []) 8 (length-take-le 8 b h))
    ∙ ap (be 2) (drop-append-le 5 f (1 ∷ []) (omega arith)) ∙ be-front 2 (drop 5 f) (1 ∷ []) m

-- a length of at most 65,536 in 4 bytes
length_back : (n : ℕ) → n ≤ 65536 → be 4 (bytes 4 n) ≡ n
length_back n h = ap (be 4) (sym (append-nil (bytes 4 n))) ∙ be-bytes 4 n [] ∙ mod-eq_of_lt (omega arith)

-- ---- the records of a segment, before others that are complete
module _ (r : Reading) (s : Segment) (rs : List Record) (c : Complete rs) where
  -- a dwell with its targets
  dwell-complete : is_older r ≡ false → 8 ≤ length s.body → Complete (dwell_records r s.body ++ rs)
  unfolding dwell_records called_for
  dwell-complete o h =
      rw (dwell-exact r s.body o h) (complete (begins refl refl (rw (dwell-calls s.body h) (run-complete rs refl (targets-run _ _ (target_count s.body) _) c))))

  -- an HRR segment with its scatterers
  hrr-complete : 5 ≤ length s.body → Complete (hrr_records s.body ++ rs)
  unfolding hrr_records hrr_record record_of
  hrr-complete h =
      complete (begins refl refl (rw (hrr-calls s.body h) (run-complete rs refl (scatterers-run _ (count_in s.body) _) c)))

  -- a text with its pieces
  text-complete : 20 ≤ length s.body → length s.body ≤ 65536 → Complete (text_records s.body ++ rs)
  unfolding text_records called_for
  text-complete h k =
      let b = s.body in
      let n : length b - 20 ≤ 65536 = omega arith in
      let e : be 4 (drop 20 (take 20 b ++ bytes 4 (length b - 20))) ≡ length (drop 20 b) =
      ap (be 4) (drop_at (take 20 b) (bytes 4 (length b - 20)) 20 (length-take-le 20 b h)) ∙ length_back (length b - 20) n ∙ sym (length-drop 20 b) in
      rw (text-exact b (length b - 20) h) (complete (begins refl refl (rw e (pieces-complete (drop 20 b) rs c))))

  -- an opaque segment with its pieces
  opaque-complete : length s.body ≤ 65536 → Complete (opaque_records s.type s.body ++ rs)
  unfolding opaque_records called_for
  opaque-complete h =
      rw (opaque-exact s.type (length s.body)) (complete (begins refl refl (rw (length_back (length s.body) h) (pieces-complete s.body rs c))))

  -- any segment
  pub segment-complete : is_older r ≡ false → Sound r s → Complete (segment_records r s ++ rs)
  unfolding job_records record_of called_for
  segment-complete o w =
      by_rows (λ (qs : List Record). Complete (qs ++ rs)) r s w.rows
      (λ t e. complete (begins refl refl c))
      (λ t e. dwell-complete o (omega (arith, (is-dwell r s.body e).exact)))
      (λ t e. hrr-complete (is-hrr s.body e).masked)
      (λ t e. complete (begins refl refl c))
      (λ t e. text-complete (text-length s.body e) w.short)
      (λ t e. complete (begins refl refl c))
      (λ t e. complete (begins refl refl c))
      (opaque-complete w.short)

-- all segments, one after another
pub packet-complete : (r : Reading) (ss : List Segment) → is_older r ≡ false → AllSound r ss → Complete (packet_records r ss)
unfolding packet_records is_complete
packet-complete r [] o w = refl
packet-complete r (s ∷ ss) o w = segment-complete r s (packet_records r ss) (packet-complete r ss o w.1) o w.0

-- ---- none of them is a header

-- records after others
no-header-append : (rs qs : List Record) → no_header rs ≡ true → no_header qs ≡ true → no_header (rs ++ qs) ≡ true
unfolding no_header
no-header-append [] qs h k = k
no-header-append (r ∷ rs) qs h k = go (eqb r.kind 1) h (no-header-append rs qs)
  where
    go : (b : Bool) → (not b && no_header rs) ≡ true → (no_header rs ≡ true → no_header qs ≡ true → no_header (rs ++ qs) ≡ true) → (not b && no_header (rs ++ qs)) ≡ true
    go true h i = h
    go false h i = i h k

-- records of another kind
run-no-header : {kind n : ℕ} {qs : List Record} → eqb kind 1 ≡ false → Run kind n qs → no_header qs ≡ true
unfolding no_header
run-no-header h run_end = refl
run-no-header h (run_more e a) = rw (e, h) (run-no-header h a)

-- all the records of segments
pub packet-no-header : (r : Reading) (ss : List Segment) → no_header (packet_records r ss) ≡ true
unfolding packet_records no_header dwell_records dwell_record hrr_records hrr_record job_records text_records opaque_records record_of
packet-no-header r [] = refl
packet-no-header r (s ∷ ss) =
    no-header-append (segment_records r s) (packet_records r ss)
    (by-type (λ (qs : List Record). no_header qs ≡ true) r s
    refl
    (run-no-header refl (targets-run _ _ _ _))
    (run-no-header refl (scatterers-run _ _ _))
    refl
    (run-no-header refl (pieces-run _ _))
    refl
    refl
    (run-no-header refl (pieces-run _ _)))
    (packet-no-header r ss)
