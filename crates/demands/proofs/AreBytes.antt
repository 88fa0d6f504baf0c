-- What the writer spells from bytes is bytes.
-- Assumes nothing.
use Prim.Native.Nat.{ℕ, zero, suc, ◌-◌, ◌<◌}
use mathlib.Core.Bool.{Bool, true, false, cond, ◌&&◌}
use mathlib.Core.List.{List, [], ◌∷◌, ◌++◌}
use lib.Dec.{ltb, leb, eqb, lit<}
use lib.ListN.{length, get_or, take, drop}
use Rattle.octets.specs.Octets.{be, bytes, Bytes}
use Rattle.octets.proofs.ByteLists.{nil-bytes, cons-bytes, append-bytes, take-bytes, drop-bytes, number-bytes}
use Rattle.mask.specs.Fields.{announced_fields, taken, dwell_widths, target_widths, d32}
use Rattle.hrr.specs.Hrr.{hrr_mask, hrr_widths, scatterer_widths, narrowed}
use Rattle.format.specs.Packet.{Segment, s2, segment_bytes}
use Rattle.format.specs.Sheet.{Record, body_length}
use Rattle.format.proofs.Rows.{either}
use Rattle.format.specs.Writer.{Listed, list, listed, is_follower, type_of, given, given_behind, Regrouped, regroup, segments_bytes, spell_records, spell}

-- ---- records

-- the announced ones of fields that are bytes
announced-bytes : (mask n : ℕ) (ws full : List ℕ) → Bytes full → Bytes (announced_fields mask n ws full)
unfolding announced_fields
announced-bytes mask n [] full b = nil-bytes
announced-bytes mask n (w ∷ ws) full b =
    append-bytes (take (taken mask n w) full) _ (take-bytes (taken mask n w) full b) (announced-bytes mask (suc n) ws (drop w full) (drop-bytes w full b))

-- numbers of these widths, from bytes
narrowed_bytes : (ws s : List ℕ) → Bytes s → Bytes (narrowed ws s)
unfolding narrowed
narrowed_bytes [] s b = nil-bytes
narrowed_bytes (w ∷ ws) s b =
    append-bytes (drop (2 - w) (take 2 s)) _ (drop-bytes (2 - w) (take 2 s) (take-bytes 2 s b)) (narrowed_bytes ws (drop 2 s) (drop-bytes 2 s b))

-- the bodies of records are bytes
abbrev RecordsBytes : List Record → Type 0
RecordsBytes [] = Unit {0}
RecordsBytes (r ∷ rs) = Bytes r.body × RecordsBytes rs

-- so it is with the records of a sheet of bytes
list-bytes : (k : ℕ) (x : List ℕ) → Bytes x → RecordsBytes (list k x).records
unfolding list
list-bytes zero x b = tt
list-bytes (suc k) [] b = tt
list-bytes (suc k) (kind ∷ x) b = go (ltb 0 (body_length kind) && leb (body_length kind) (length x)) (list-bytes k (drop (body_length kind) x) (drop-bytes (body_length kind) x (λ i. b (suc i))))
  where
    rest : Listed
    rest = list k (drop (body_length kind) x)

    go : (t : Bool) → RecordsBytes rest.records
        → RecordsBytes (cond {A = Listed} t (record { records = record { kind = kind; body = take (body_length kind) x } ∷ rest.records; whole = rest.whole }) (record { records = []; whole = false })).records
    go true i = (take-bytes (body_length kind) x (λ i. b (suc i)), i)
    go false i = tt

-- what a record gives to the segment that it begins
given-bytes : (r : Record) → Bytes r.body → Bytes (given r)
unfolding given
given-bytes r b =
    let masked : (k mask : ℕ) (ws : List ℕ) → Bytes (take k r.body ++ announced_fields mask 2 ws (drop k r.body)) =
    λ k mask ws. append-bytes (take k r.body) _ (take-bytes k r.body b) (announced-bytes mask 2 ws (drop k r.body) (drop-bytes k r.body b)) in
    either Bytes (eqb r.kind 3) (masked 8 (be 8 r.body) dwell_widths)
    (either Bytes (eqb r.kind 5) (take-bytes 20 r.body b)
    (either Bytes (eqb r.kind 7) nil-bytes
    (either Bytes (eqb r.kind 8) (take-bytes 68 r.body b)
    (either Bytes (eqb r.kind 11) (masked 5 (hrr_mask r.body) hrr_widths)
    b))))

-- what a follower gives
behind-bytes : (leader r : Record) → Bytes r.body → Bytes (given_behind leader r)
unfolding given_behind
behind-bytes leader r b =
    either Bytes (eqb r.kind 4) (announced-bytes (be 8 leader.body) (d32 1) target_widths r.body b)
    (either Bytes (eqb r.kind 12) (narrowed_bytes (scatterer_widths (hrr_mask leader.body) (drop 5 leader.body)) r.body b)
    (take-bytes (get_or r.body 0 0) (drop 1 r.body) (drop-bytes 1 r.body b)))

-- the type of the segment that a record begins
type-byte : (r : Record) → Bytes r.body → type_of r < 256
unfolding type_of
type-byte r b =
    either IsByte (eqb r.kind 2) (lit< tt)
    (either IsByte (eqb r.kind 3) (lit< tt)
    (either IsByte (eqb r.kind 5) (lit< tt)
    (either IsByte (eqb r.kind 8) (lit< tt)
    (either IsByte (eqb r.kind 9) (lit< tt)
    (either IsByte (eqb r.kind 10) (lit< tt)
    (either IsByte (eqb r.kind 11) (lit< tt)
    (b 0)))))))
  where
    IsByte : ℕ → Type 0
    IsByte n = n < 256

-- ---- segments

-- types and bodies are bytes
abbrev SegmentsBytes : List Segment → Type 0
SegmentsBytes [] = Unit {0}
SegmentsBytes (s ∷ ss) = (s.type < 256) × Bytes s.body × SegmentsBytes ss

-- so it is with what records give
regroup-bytes : (leader : Record) (rs : List Record) → RecordsBytes rs → Bytes (regroup leader rs).front × SegmentsBytes (regroup leader rs).segments
unfolding regroup
regroup-bytes leader [] b = (nil-bytes, tt)
regroup-bytes leader (r ∷ rs) b = go (is_follower r) (regroup-bytes leader rs b.1) (regroup-bytes r rs b.1)
  where
    same : Regrouped
    same = regroup leader rs

    next : Regrouped
    next = regroup r rs

    both : Regrouped → Type 0
    both x = Bytes x.front × SegmentsBytes x.segments

    go : (t : Bool) → both same → both next
        → both (cond t (record { front = given_behind leader r ++ same.front; segments = same.segments }) (record { front = []; segments = record { type = type_of r; body = given r ++ next.front } ∷ next.segments }))
    go true x y = (append-bytes (given_behind leader r) same.front (behind-bytes leader r b.0) x.0, x.1)
    go false x y = (nil-bytes, (type-byte r b.0, append-bytes (given r) next.front (given-bytes r b.0) y.0, y.1))

-- spelt segments
segments-bytes : (ss : List Segment) → SegmentsBytes ss → Bytes (segments_bytes ss)
unfolding segments_bytes segment_bytes
segments-bytes [] b = nil-bytes
segments-bytes (s ∷ ss) b =
    append-bytes (segment_bytes s) (segments_bytes ss)
    (cons-bytes s.type (bytes 4 (s2 s.body) ++ s.body) b.0 (append-bytes (bytes 4 (s2 s.body)) s.body (number-bytes 4 (s2 s.body)) b.1))
    (segments-bytes ss b.2)

-- a spelt packet
pub spell-bytes : (x : List ℕ) → Bytes x → Bytes (spell x)
unfolding spell spell_records
spell-bytes x b = go (listed x).records (list-bytes (length x) x b)
  where
    go : (rs : List Record) → RecordsBytes rs → Bytes (spell_records rs)
    go [] h = nil-bytes
    go (r ∷ rs) h = append-bytes r.body (segments_bytes (regroup r rs).segments) h.0 (segments-bytes (regroup r rs).segments (regroup-bytes r rs h.1).1)
