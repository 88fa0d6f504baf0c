-- The walk that checks: what one segment adds to the answer, and how large it can be.
-- Assumes nothing.
use Prim.Native.Nat.{ℕ, suc, ◌+◌, ◌-◌, ◌*◌, ◌≤◌, ◌<◌, zero-le}
use native.Mathlib.Omega.{arith}
use Rattle.std.specs.Prelude.{Result, Ok, Err}
use mathlib.Core.Path.{◌≡◌, refl, sym, ap, ◌∙◌}
use mathlib.Core.Bool.{Bool, true, false, cond}
use mathlib.Core.List.{List, ◌∷◌, ◌++◌}
use lib.Dec.{eqb}
use lib.ListN.{length, get_or, drop, take, length-append, length-drop, take-append-drop}
use lib.Seq.{drop-drop, length-take-le}
use Rattle.octets.specs.Octets.{be, Bytes}
use Rattle.octets.specs.Layout.{total, value}
use Rattle.octets.proofs.Laws.{be-lt, be-front}
use Rattle.octets.proofs.ByteLists.{drop-bytes}
use Rattle.octets.proofs.Parts.{tail-is}
use Rattle.mask.specs.Fields.{full_fields, dwell_widths}
use Rattle.mask.proofs.FullWidth.{full-bytes}
use Rattle.format.specs.declared.Reading.{Reading}
use Rattle.format.specs.Check.{Check, Passed, Failed}
use Rattle.format.specs.Answer.{Accepted, Refused}
use Rattle.format.specs.Packet.{Segment, type_at, size_at, body_at, segment_at}
use Rattle.format.specs.Dwell.{mask_of, dwell_fields, target_count}
use Rattle.format.specs.Sheet.{segment_records, packet_records, record_bytes}
use Rattle.format.specs.Lengths.{record_length}
use Rattle.format.specs.Rows.{first_row, body_rows, segment_rows}
use Rattle.format.specs.Reader.{Parsed, parse, dwells_in, targets_in}
use Rattle.format.proofs.Rows.{segment-passes, passed-not-failed}
use Rattle.format.proofs.ByType.{rows_as}
use Rattle.format.proofs.Dwells.{is-dwell}
use Rattle.format.proofs.Segments.{length-body, part-is}
use Rattle.format.proofs.Lengths.{bytes-append}
use Rattle.format.proofs.Longest.{segment-short}
use Rattle.format.proofs.Turns.{parse-good, parse-bad, parse-end}
use Rattle.format.proofs.Filling.{Handed, handed_body}
use Rattle.segments.specs.declared.Dwells.{Dwells}
use Rattle.segments.specs.declared.Found.{Found}
use Rattle.format.specs.declared.Fault.{Fault}
use Rattle.segments.specs.InnerWalk.{Checked, good, bad, bytes_of, targets_of_type, found_by, found_at, pair_number, no_dwells, past, past_all, segments_of, answer_from, rest_answer}
use Rattle.segments.proofs.Pairs.{body_bytes}

-- what is handed on of a packet's segment to which no row applies is checked
pub handed-checked : (r : Reading) (s t : List ℕ) (at size : ℕ) → length s ≤ 65536 → Handed r s t at size → Checked r (get_or t 0 0) (handed_body r s t at size)
handed-checked r s t at size n h = record { rows = h.rows; short = omega (arith, h.short) }

-- ---- one segment

-- a segment to which no row applies is good, with what its parts give
pub found-good : (r : Reading) (l b : List ℕ) {z t n : ℕ} → first_row (segment_rows r l) ≡ Passed → z ≡ size_at l → b ≡ body_at l
    → t ≡ targets_of_type (type_at l) b → n ≡ length (bytes_of r (type_at l) b) → good z t n ≡ found_at r l
unfolding found_at
found-good r l b {z} {t} {n} e hz hb ht hn =
    let m : n ≡ length (bytes_of r (type_at l) (body_at l)) = hn ∙ ap (λ (x : List ℕ). length (bytes_of r (type_at l) x)) hb in
    let same : good z t n ≡ found_by r l Passed = cc in
    same ∙ sym (ap (found_by r l) e)

-- another is bad
pub found-bad : (r : Reading) (l : List ℕ) (number field : ℕ) → first_row (segment_rows r l) ≡ Failed number field → bad number field ≡ found_at r l
unfolding found_at
found-bad r l number field e = sym (ap (found_by r l) e)

-- where a dwell stands at the front of l, its size is at least this, and D2 and D3 are read from 13 bytes on
pub record Dwelling (l : List ℕ) : Type 0 where
  pub long : 48 ≤ size_at l
  pub within : size_at l ≤ length l
  pub number_is : be 4 (drop 13 l) ≡ pair_number (body_at l)

-- so it does where no row applies to it
pub dwelling : (r : Reading) (l : List ℕ) → first_row (segment_rows r l) ≡ Passed → type_at l ≡ 2 → Dwelling l
unfolding body_at body_rows
dwelling r l e two =
    let s = segment-passes r l e in
    let z = size_at l in
    let d = is-dwell r (body_at l) (rows_as r (body_at l) (type_at l) 2 two s.body) in
    let part = take (z - 13) (drop 13 l) in
    let long : 48 ≤ z = omega (arith, d.long, length-body l s.within) in
    let up_to : 13 + (z - 13) ≡ z = omega arith in
    let four : 4 ≤ length part = rw (length-take-le (z - 13) (drop 13 l) (rw (length-drop 13 l) (omega (arith, s.within)))) (omega arith) in
    record {
      long = long;
      within = s.within;
      number_is =
          ap (be 4) (sym (take-append-drop (z - 13) (drop 13 l)))
          ∙ be-front 4 part (drop (z - 13) (drop 13 l)) four
          ∙ ap (be 4) (part-is 13 (z - 13) l ∙ ap (λ (n : ℕ). drop 13 (take n l)) up_to ∙ sym (drop-drop 8 5 (take z l)));
    }

-- what a found segment says of the rows and of itself
pub record IsGood (r : Reading) (l : List ℕ) (size targets n : ℕ) : Type 0 where
  pub rows : first_row (segment_rows r l) ≡ Passed
  pub size_is : size_at l ≡ size
  pub targets-is : targets_of_type (type_at l) (body_at l) ≡ targets
  pub length_is : length (bytes_of r (type_at l) (body_at l)) ≡ n

-- what is found in either case, and what the rows then said
abbrev found_in : Result Found Fault → Found
found_in (Ok x) = x
found_in (Err f) = record { size = 0; targets = 0; length = 0 }

abbrev row_in : Result Found Fault → Check
row_in (Ok x) = Passed
row_in (Err f) = Failed f.number f.field

-- two different cases of what is found
good-not-bad : {A : Type 0} (z t n number field : ℕ) → good z t n ≡ bad number field → A
good-not-bad z t n number field e = passed-not-failed number field (ap row_in e)

-- a good segment passes its rows
good-is : (r : Reading) (l : List ℕ) (z t n : ℕ) → found_at r l ≡ good z t n → IsGood r l z t n
unfolding found_at
good-is r l z t n e = go (first_row (segment_rows r l)) refl e
  where
    go : (c : Check) → first_row (segment_rows r l) ≡ c → found_by r l c ≡ good z t n → IsGood r l z t n
    go Passed p e =
        record {
          rows = p;
          size_is = ap (λ (x : Result Found Fault). (found_in x).size) e;
          targets-is = ap (λ (x : Result Found Fault). (found_in x).targets) e;
          length_is = ap (λ (x : Result Found Fault). (found_in x).length) e;
        }
    go (Failed number field) p e = good-not-bad z t n number field (sym e)

-- a bad one has a first row that applies
bad-is : (r : Reading) (l : List ℕ) (number field : ℕ) → found_at r l ≡ bad number field → first_row (segment_rows r l) ≡ Failed number field
unfolding found_at
bad-is r l number field e = go (first_row (segment_rows r l)) refl e
  where
    go : (c : Check) → first_row (segment_rows r l) ≡ c → found_by r l c ≡ bad number field → first_row (segment_rows r l) ≡ Failed number field
    go Passed p e = good-not-bad _ _ _ number field e
    go (Failed n f) p e = p ∙ ap row_in e

-- ---- how large a segment's part is, so that no sum is too large

-- D5 has two bytes
count-lt : (b : List ℕ) → Bytes b → target_count b < 65536
unfolding target_count value total dwell_fields
count-lt b h = be-lt 2 _ (drop-bytes 5 (full_fields (mask_of b) 2 dwell_widths (drop 8 b)) (full-bytes (mask_of b) 2 dwell_widths (drop 8 b) (drop-bytes 8 b h)))

-- more bytes than the records of any segment have: a dwell's, and those of as many targets as two bytes count
abbrev pub most : ℕ
most = record_length 3 + 65536 * record_length 4

-- the bounds that the walk's sums are proved by
pub record Fit (l : List ℕ) (size targets n : ℕ) : Type 0 where
  pub header : 5 ≤ size
  pub within : size ≤ length l
  pub few : targets ≤ 65535
  pub short : n ≤ most

-- they hold of a good segment of a packet
pub fit : (r : Reading) (l : List ℕ) (z t n : ℕ) → length l ≤ 65536 → Bytes l → IsGood r l z t n → Fit l z t n
unfolding body_at
fit r l z t n h b g =
    let s = segment-passes r l g.rows in
    let m : length (body_at l) ≤ 65536 = omega (arith, length-body l s.within, s.within) in
    let c : target_count (body_at l) < 65536 = count-lt (body_at l) (body_bytes l b) in
    record {
      header = omega (arith, s.header, g.size_is);
      within = omega (arith, s.within, g.size_is);
      few = omega (arith, g.targets-is, choice (eqb (type_at l) 2) (target_count (body_at l)) (omega arith));
      short = omega (arith, g.length_is, segment-short r (segment_at l) s.body);
    }
  where
    choice : (x : Bool) (m : ℕ) → m ≤ 65535 → cond x m 0 ≤ 65535
    choice true m h = h
    choice false m h = omega arith

-- ---- the walk

-- what it keeps at a place of l: how it ends, its dwells and its answer are those from there on, with what was counted before.
-- k bounds the segments that are left
pub record Walked (r : Reading) (l : List ℕ) (at S : ℕ) (D : Dwells) (T N : ℕ) : Type 0 where
  pub k : ℕ
  pub within : at ≤ length l
  pub fuel : length l ≤ at + k
  pub ending : (parse r k (drop at l)).ending ≡ (parse r (length l) l).ending
  pub dwells : past_all D (parse r k (drop at l)).segments ≡ past_all no_dwells (segments_of r l)
  pub answer : answer_from r (parse r k (drop at l)) S (dwells_in (segments_of r l)) T N ≡ rest_answer r l

-- what it knows at the end
pub record Ended (r : Reading) (l : List ℕ) (S : ℕ) (D : Dwells) (T N : ℕ) : Type 0 where
  pub ending : (parse r (length l) l).ending ≡ Passed
  pub dwells : D ≡ past_all no_dwells (segments_of r l)
  pub answer : Accepted S (dwells_in (segments_of r l)) T N ≡ rest_answer r l

pub walk_start : (r : Reading) (l : List ℕ) → Walked r l 0 0 no_dwells 0 (record_length 1)
walk_start r l = record { k = length l; within = zero-le; fuel = omega arith; ending = refl; dwells = refl; answer = refl }

module _ (r : Reading) (l : List ℕ) (at : ℕ) where
  -- what the callee sees of the packet
  abbrev seen : List ℕ
  seen = take (length l - at) (drop at l)

  module _ {f : Result Found Fault} (found : f ≡ found_at r seen) where
    -- what was found there
    pub here-good : (z t n : ℕ) → f ≡ good z t n → IsGood r (drop at l) z t n
    here-good z t n g = good-is r (drop at l) z t n (ap (found_at r) (sym (tail-is at l)) ∙ sym found ∙ g)

    here-bad : (number field : ℕ) → f ≡ bad number field → first_row (segment_rows r (drop at l)) ≡ Failed number field
    here-bad number field g = bad-is r (drop at l) number field (ap (found_at r) (sym (tail-is at l)) ∙ sym found ∙ g)

    module _ {S : ℕ} {D : Dwells} {T N : ℕ} (w : Walked r l at S D T N) (left : at < length l) where
      some : 0 < length (drop at l)
      some = rw length-drop (omega arith)

      more : 0 < w.k
      more = omega (arith, w.fuel)

      -- the first row that applies is the answer
      pub walk-bad : (number field : ℕ) → f ≡ bad number field → Refused number (S + 1) field ≡ rest_answer r l
      unfolding answer_from
      walk-bad number field g =
          let a : S + 0 + 1 ≡ S + 1 = omega arith in
          let bad = parse-bad r w.k (drop at l) some more number field (here-bad number field g) in
          sym (ap (λ (p : Parsed). answer_from r p S (dwells_in (segments_of r l)) T N) bad ∙ ap (λ (i : ℕ). Refused number i field) a) ∙ w.answer

      module _ (z t n : ℕ) (e : f ≡ good z t n) where
        -- what is left behind a good segment
        abbrev next : Parsed
        next = parse r (w.k - 1) (drop (at + z) l)

        -- the segment comes before it
        parse-next : parse r w.k (drop at l) ≡ record { segments = segment_at (drop at l) ∷ next.segments; ending = next.ending }
        parse-next =
            let s = drop at l in
            let g = here-good z t n e in
            let behind : drop (size_at s) s ≡ drop (at + z) l = ap (λ (i : ℕ). drop i s) g.size_is ∙ drop-drop z at l in
            parse-good r w.k s some more g.rows ∙ ap (λ (x : List ℕ). record { segments = segment_at s ∷ (parse r (w.k - 1) x).segments; ending = (parse r (w.k - 1) x).ending }) behind

        -- the answer from behind it on, with what it adds, is the answer from it on
        answer-next : (m : ℕ) → answer_from r next (S + 1) m (T + t) (N + n) ≡ answer_from r (parse r w.k (drop at l)) S m T N
        unfolding answer_from targets_in packet_records
        answer-next m = sym (ap (λ (p : Parsed). answer_from r p S m T N) parse-next ∙ go (drop at l) (here-good z t n e) next.segments next.ending)
          where
            go : (l : List ℕ) → IsGood r l z t n → (ss : List Segment) (c : Check)
                → answer_from r (record { segments = segment_at l ∷ ss; ending = c }) S m T N ≡ answer_from r (record { segments = ss; ending = c }) (S + 1) m (T + t) (N + n)
            go l g ss Passed =
                let first = segment_records r (segment_at l) in
                let rest = packet_records r ss in
                let a : S + suc (length ss) ≡ S + 1 + length ss = omega arith in
                let b : T + (targets_of_type (type_at l) (body_at l) + targets_in ss) ≡ T + t + targets_in ss = omega (arith, g.targets-is) in
                let e : N + length (record_bytes (first ++ rest)) ≡ N + n + length (record_bytes rest) =
                omega (arith, ap length (bytes-append first rest), length-append (record_bytes first) (record_bytes rest), g.length_is) in
                cc
            go l g ss (Failed number field) =
                let a : S + suc (length ss) + 1 ≡ S + 1 + length ss + 1 = omega arith in
                ap (λ (i : ℕ). Refused number i field) a

        -- past it the walk keeps the same
        pub walk-good : {d : Dwells} → d ≡ past D (type_at seen) (body_at seen) → Walked r l (at + z) (S + 1) d (T + t) (N + n)
        unfolding past_all
        walk-good p =
            let g = here-good z t n e in
            let s = segment-passes r (drop at l) g.rows in
            record {
              k = w.k - 1;
              within = omega (arith, w.within, g.size_is, s.within, length-drop at l);
              fuel = omega (arith, w.fuel, g.size_is, s.header);
              ending = sym (ap (λ (q : Parsed). q.ending) parse-next) ∙ w.ending;
              dwells =
                  ap (λ (c : Dwells). past_all c next.segments) (p ∙ ap (λ (x : List ℕ). past D (type_at x) (body_at x)) (tail-is at l))
                  ∙ sym (ap (λ (q : Parsed). past_all D q.segments) parse-next)
                  ∙ w.dwells;
              answer = answer-next (dwells_in (segments_of r l)) ∙ w.answer;
            }

  -- at the end nothing is left
  pub walk_end : {S : ℕ} {D : Dwells} {T N : ℕ} → Walked r l at S D T N → length l ≤ at → Ended r l S D T N
  unfolding answer_from past_all targets_in packet_records record_bytes
  walk_end {S} {D} {T} {N} w h =
      let m = dwells_in (segments_of r l) in
      let a : (i : ℕ) → i + 0 ≡ i = λ i. omega arith in
      let none = parse-end r w.k (drop at l) (rw length-drop (omega arith)) in
      let counts : answer_from r (parse r w.k (drop at l)) S m T N ≡ Accepted S m T N = ap (λ (p : Parsed). answer_from r p S m T N) none ∙ rw (a S, a T, a N) in
      record {
        ending = sym w.ending ∙ ap (λ (p : Parsed). p.ending) none;
        dwells = sym (ap (λ (p : Parsed). past_all D p.segments) none) ∙ w.dwells;
        answer = sym counts ∙ w.answer;
      }
