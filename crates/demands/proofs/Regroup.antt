-- The records of a segment where nothing is withheld, regrouped, are that segment again.
-- Assumes nothing.
use Prim.Native.Nat.{ℕ, zero, suc, ◌+◌, ◌-◌, ◌*◌, ◌/◌, ◌≤◌, min}
use native.Mathlib.Nat.{zero-mul}
use native.Mathlib.Omega.{arith}
use mathlib.Core.Path.{◌≡◌, refl, sym, ap, ap₂, ◌∙◌}
use mathlib.Core.Bool.{true, false}
use mathlib.Core.List.{List, [], ◌∷◌, ◌++◌, append_assoc, append-nil}
use lib.ListN.{length, take, drop, length-take, length-drop, take-append-drop}
use lib.Seq.{length-take-le, take_at, drop_at, take-add, take_all}
use Rattle.octets.specs.Octets.{be, bytes}
use Rattle.octets.specs.Layout.{pad, total}
use Rattle.octets.proofs.Laws.{be-taken}
use Rattle.octets.proofs.Layouts.{pad-append, take-pad}
use Rattle.mask.specs.Fields.{announced_length, announced_fields, full_fields, dwell_widths, target_widths, d32}
use Rattle.mask.proofs.FullWidth.{length-full, announced-full}
use Rattle.hrr.specs.Hrr.{hrr_mask, scatterer_widths}
use Rattle.format.specs.declared.Reading.{Reading}
use Rattle.format.specs.declared.Area.{Area}
use Rattle.format.specs.Check.{Passed}
use Rattle.format.specs.Packet.{Segment}
use Rattle.format.specs.Dwell.{mask_of, dwell_fields, area_of, target_count, targets_of, target_length, target_fields}
use Rattle.format.specs.Edition.{is_older}
use Rattle.format.specs.Sheet.{Record, body_length, record_of, target_record, target_records, piece_record, piece_records, piece_count, pieces_of, dwell_records, scatterer_record, scatterer_records, hrr_record, hrr_records, text_records, opaque_records, job_records, segment_records, packet_records}
use Rattle.format.specs.Rows.{first_row, dwell_rows}
use Rattle.format.specs.Writer.{is_follower, type_of, given, given_behind, regroup}
use Rattle.format.proofs.Followers.{follower-regrouped, begins-regrouped}
use Rattle.format.proofs.Segments.{Sound, AllSound, by_rows}
use Rattle.format.proofs.Dwells.{is-dwell}
use Rattle.format.proofs.Bodies.{mission-length, job-length, kept-length, text-length, record-exact, dwell-exact, job-exact, text-exact, opaque-exact}
use Rattle.format.proofs.Hrr.{count_in, widths_in, start_in, IsHrr, is-hrr, AllNarrow, four-widths, widths-narrow, scatterers-fill, widths-in-record, hrr-given, scatterer-given}

-- records that begin with no follower and give these segments: their regrouping goes by no leader
abbrev pub Settled : List Record → List Segment → Type 0
Settled rs gs = (leader : Record) → regroup leader rs ≡ record { front = []; segments = gs }

-- a record that begins a segment, before what the records after it give
leads : (q : Record) (rs : List Record) (s : Segment) (front : List ℕ) (gs : List Segment)
    → is_follower q ≡ false → regroup q rs ≡ record { front = front; segments = gs }
    → type_of q ≡ s.type → given q ++ front ≡ s.body
    → Settled (q ∷ rs) (s ∷ gs)
leads q rs s front gs f e t b leader =
    rw (begins-regrouped leader q rs f, e) (ap₂ (λ (x : ℕ) (y : List ℕ). record { front = []; segments = record { type = x; body = y } ∷ gs }) t b)

-- so many followers in a row, each of which gives the next u of the bytes that they were made of
data Give (leader : Record) (u : ℕ) : ℕ → List Record → List ℕ → Type 0 where
  no_more : {t : List ℕ} → Give leader u 0 [] t
  one_more : {n : ℕ} {q : Record} {qs : List Record} {t : List ℕ} → is_follower q ≡ true → given_behind leader q ≡ take u t
      → Give leader u n qs (drop u t) → Give leader u (suc n) (q ∷ qs) t

-- what they give stands before what the records after them give
front-regrouped : {leader : Record} {u n : ℕ} {qs : List Record} {t : List ℕ} → Give leader u n qs t → (rs : List Record) (gs : List Segment) → Settled rs gs
    → regroup leader (qs ++ rs) ≡ record { front = take (n * u) t; segments = gs }
front-regrouped {leader} {u} no_more rs gs s = rw zero-mul (s leader)
front-regrouped {leader} {u} (one_more {n} {q} {qs} {t} f g h) rs gs s =
    let e : suc n * u ≡ u + n * u = omega arith in
    rw (follower-regrouped leader q (qs ++ rs) f, front-regrouped h rs gs s, g, e, take-add u (n * u) t)

-- ---- dwells and targets

-- a dwell's record gives the mask and the announced fields
dwell-given : (b : List ℕ) → 8 + announced_length (mask_of b) 2 dwell_widths ≤ length b
    → take 8 (take 8 b ++ (dwell_fields b ++ 1 ∷ [])) ++ announced_fields (be 8 (take 8 b ++ (dwell_fields b ++ 1 ∷ []))) 2 dwell_widths (drop 8 (take 8 b ++ (dwell_fields b ++ 1 ∷ [])))
    ≡ take (8 + announced_length (mask_of b) 2 dwell_widths) b
unfolding mask_of dwell_fields
dwell-given b h =
    let c = dwell_fields b ++ 1 ∷ [] in
    let size = announced_length (mask_of b) 2 dwell_widths in
    let n : length (take 8 b) ≡ 8 = length-take-le 8 b (omega arith) in
    let f : announced_fields (mask_of b) 2 dwell_widths c ≡ take size (drop 8 b) = announced-full (mask_of b) 2 dwell_widths (drop 8 b) (1 ∷ []) (rw length-drop (omega arith)) in
    ap₂ (λ (x y : List ℕ). x ++ y) (take_at (take 8 b) c 8 n)
    (ap₂ (λ (m : ℕ) (y : List ℕ). announced_fields m 2 dwell_widths y) (be-taken 8 b c (omega arith)) (drop_at (take 8 b) c 8 n) ∙ f)
    ∙ sym (take-add 8 size b)

-- targets behind a record that begins with their mask
module _ (leader : Record) (mask : ℕ) (masked : mask_of leader.body ≡ mask) (area : Area) where
  -- a target's record gives the bytes that it was made of
  target-given : (t : List ℕ) → target_length mask ≤ length t → given_behind leader (target_record mask area t) ≡ take (target_length mask) t
  unfolding given_behind target_record record_of body_length target_fields total mask_of
  target-given t h =
      let f = full_fields mask (d32 1) target_widths t in
      let rest = body_length 4 - total target_widths in
      let n : body_length 4 ≡ length f + rest = rw (length-full mask (d32 1) target_widths t) in
      let fields-first : (y : List ℕ) → pad (body_length 4) (f ++ y) ≡ f ++ pad rest y = λ y. pad-append (body_length 4) rest f y n in
      rw masked (simp (append_assoc, fields-first) (announced-full mask (d32 1) target_widths t _ h))

  -- so do targets in a row
  targets-give : (n : ℕ) (t : List ℕ) → n * target_length mask ≤ length t → Give leader (target_length mask) n (target_records mask area n t) t
  unfolding target_records target_record record_of
  targets-give zero t h = no_more
  targets-give (suc n) t h =
      one_more refl (target-given t (omega arith)) (targets-give n (drop (target_length mask) t) (rw length-drop (omega arith)))

-- ---- scatterers

-- behind a record that tells the widths of their four numbers
module _ (leader : Record) (ws : List ℕ) (told : scatterer_widths (hrr_mask leader.body) (drop 5 leader.body) ≡ ws)
    (four : length ws ≡ 4) (narrow : AllNarrow ws) where
  -- scatterers in a row give the bytes that they were made of
  scatterers-give : (n : ℕ) (t : List ℕ) → n * total ws ≤ length t → Give leader (total ws) n (scatterer_records ws n t) t
  unfolding scatterer_records scatterer_record record_of
  scatterers-give zero t h = no_more
  scatterers-give (suc n) t h =
      one_more refl (scatterer-given ws t four narrow leader told (omega arith)) (scatterers-give n (drop (total ws) t) (rw length-drop (omega arith)))

-- ---- pieces

-- a piece's record gives the bytes that it carries
piece-given : (leader : Record) (b : List ℕ) → given_behind leader (piece_record b) ≡ take 32 b
unfolding given_behind piece_record record_of body_length pad
piece-given leader b =
    let n : length (take 32 b) ≡ min 32 (length b) = length-take 32 b in
    ap (λ (k : ℕ). take k (pad 32 (take 32 b))) (sym n) ∙ take-pad 32 (take 32 b) (omega arith)

-- so do pieces in a row
pieces-give : (leader : Record) (n : ℕ) (b : List ℕ) → Give leader 32 n (piece_records n b) b
unfolding piece_records piece_record record_of
pieces-give leader zero b = no_more
pieces-give leader (suc n) b = one_more refl (piece-given leader b) (pieces-give leader n (drop 32 b))

-- all pieces together give all that they carry
pieces-regrouped : (leader : Record) (b : List ℕ) (rs : List Record) (gs : List Segment) → Settled rs gs
    → regroup leader (pieces_of b ++ rs) ≡ record { front = b; segments = gs }
unfolding piece_count
pieces-regrouped leader b rs gs s =
    front-regrouped (pieces-give leader ((length b + 31) / 32) b) rs gs s
    ∙ ap (λ (x : List ℕ). record { front = x; segments = gs }) (take_all ((length b + 31) / 32 * 32) b (omega arith))

-- ---- the records of each type of segment, before others

module _ (s : Segment) (rs : List Record) (gs : List Segment) (settled : Settled rs gs) where
  -- a segment that is kept in one record, as its bytes
  whole-regrouped : (q : Record) → is_follower q ≡ false → type_of q ≡ s.type → given q ≡ s.body → Settled (q ∷ rs) (s ∷ gs)
  whole-regrouped q f t g = leads q rs s [] gs f (settled q) t (append-nil (given q) ∙ g)

  -- a record that gives the front of a segment, and followers that give the rest, u bytes each
  led-regrouped : (q : Record) (qs : List Record) (from u n : ℕ) → is_follower q ≡ false → type_of q ≡ s.type → length s.body ≡ from + n * u
      → given q ≡ take from s.body → Give q u n qs (drop from s.body) → Settled (q ∷ (qs ++ rs)) (s ∷ gs)
  led-regrouped q qs from u n f t e g h =
      let b = s.body in
      let all : take from b ++ take (n * u) (drop from b) ≡ b = sym (take-add from (n * u) b) ∙ take_all (from + n * u) b (omega arith) in
      leads q (qs ++ rs) s (take (n * u) (drop from b)) gs f (front-regrouped h rs gs settled) t (ap (λ (x : List ℕ). x ++ take (n * u) (drop from b)) g ∙ all)

  -- a dwell with its targets
  dwell-regrouped : (r : Reading) → is_older r ≡ false → s.type ≡ 2 → first_row (dwell_rows r s.body) ≡ Passed → Settled (dwell_records r s.body ++ rs) (s ∷ gs)
  unfolding dwell_records type_of targets_of given mask_of
  dwell-regrouped r o t e =
      let b = s.body in
      let from = 8 + announced_length (mask_of b) 2 dwell_widths in
      let u = target_length (mask_of b) in
      let n : length b ≡ from + target_count b * u = (is-dwell r b e).exact in
      let m : mask_of (take 8 b ++ (dwell_fields b ++ 1 ∷ [])) ≡ mask_of b = be-taken 8 b (dwell_fields b ++ 1 ∷ []) (omega arith) in
      rw (dwell-exact r b o (omega arith))
      (led-regrouped _ _ from u (target_count b) refl (sym t) n (dwell-given b (omega arith))
      (targets-give _ (mask_of b) m (area_of (dwell_fields b)) (target_count b) (drop from b) (rw length-drop (omega arith))))

  -- an HRR segment with its scatterers
  hrr-regrouped : s.type ≡ 3 → IsHrr s.body → Settled (hrr_records s.body ++ rs) (s ∷ gs)
  unfolding hrr_records hrr_record record_of type_of
  hrr-regrouped t h =
      let b = s.body in
      let ws = widths_in b in
      led-regrouped (hrr_record b) _ (start_in b) (total ws) (count_in b) refl (sym t) h.exact (hrr-given b h.masked (omega (arith, h.exact)))
      (scatterers-give (hrr_record b) ws (widths-in-record b h.masked) (four-widths b) (widths-narrow b h) (count_in b) (drop (start_in b) b)
      (omega (arith, scatterers-fill b h)))

  -- a text with its pieces
  text-regrouped : s.type ≡ 6 → 20 ≤ length s.body → Settled (text_records s.body ++ rs) (s ∷ gs)
  unfolding text_records given type_of
  text-regrouped t h =
      let b = s.body in
      let n : length (take 20 b) ≡ 20 = length-take-le 20 b h in
      rw (text-exact b (length b - 20) h)
      (leads _ _ s (drop 20 b) gs refl (pieces-regrouped _ (drop 20 b) rs gs settled) (sym t)
      (ap (λ (x : List ℕ). x ++ drop 20 b) (take_at (take 20 b) (bytes 4 (length b - 20)) 20 n) ∙ take-append-drop 20 b))

  -- an opaque segment with its pieces
  opaque-regrouped : Settled (opaque_records s.type s.body ++ rs) (s ∷ gs)
  unfolding opaque_records given type_of
  opaque-regrouped =
      rw (opaque-exact s.type (length s.body)) (leads _ _ s s.body gs refl (pieces-regrouped _ s.body rs gs settled) refl refl)

  -- any segment
  pub segment-regrouped : (r : Reading) → is_older r ≡ false → Sound r s → Settled (segment_records r s ++ rs) (s ∷ gs)
  unfolding job_records body_length given type_of
  segment-regrouped r o w =
      by_rows (λ (qs : List Record). Settled (qs ++ rs) (s ∷ gs)) r s w.rows
      (λ t e. kept 2 (mission-length s.body e) refl (sym t) refl)
      (λ t e. dwell-regrouped r o t e)
      (λ t e. hrr-regrouped t (is-hrr s.body e))
      (λ t e. job t (job-length r s.body e))
      (λ t e. text-regrouped t (text-length s.body e))
      (λ t e. kept 9 (kept-length 14 s.body e) refl (sym t) refl)
      (λ t e. kept 10 (kept-length 23 s.body e) refl (sym t) refl)
      opaque-regrouped
    where
      kept : (kind : ℕ) → length s.body ≡ body_length kind → is_follower (record { kind = kind; body = s.body }) ≡ false
          → type_of (record { kind = kind; body = s.body }) ≡ s.type → given (record { kind = kind; body = s.body }) ≡ s.body
          → Settled (record_of kind s.body ∷ rs) (s ∷ gs)
      kept kind n f t g = rw (record-exact kind s.body n) (whole-regrouped _ f t g)

      job : s.type ≡ 5 → length s.body ≡ 68 → Settled (job_records r s.body ++ rs) (s ∷ gs)
      job t n = rw (job-exact r s.body o n) (whole-regrouped _ refl (sym t) (take_at s.body (1 ∷ []) 68 n))

-- the segments of a packet come back from its records
pub packet-regrouped : (r : Reading) (ss : List Segment) → is_older r ≡ false → AllSound r ss → Settled (packet_records r ss) ss
unfolding packet_records regroup
packet-regrouped r [] o w = λ leader. refl
packet-regrouped r (s ∷ ss) o w = segment-regrouped s (packet_records r ss) ss (packet-regrouped r ss o w.1) r o w.0
