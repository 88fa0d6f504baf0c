-- Records and the bytes of a sheet: every record that a reading makes has the length of its kind, so a sheet is taken apart into the
-- records that it was made of.
-- Assumes nothing.
use Prim.Native.Nat.{ℕ, zero, suc, ◌+◌, ◌≤◌, ◌<◌}
use native.Mathlib.Nat.{le_refl, not-suc-le-zero}
use native.Mathlib.Omega.{arith}
use mathlib.Core.Path.{◌≡◌, refl}
use mathlib.Core.Bool.{true}
use mathlib.Core.List.{List, [], ◌∷◌, ◌++◌}
use borrow.Author.Tests.{lt-ltb, le-leb}
use lib.Dec.{lit<}
use lib.ListN.{length, length-append}
use lib.Seq.{take_at, drop_at}
use Rattle.octets.proofs.Layouts.{length-pad}
use Rattle.format.specs.declared.Settings.{Settings}
use Rattle.format.specs.declared.Reading.{Reading}
use Rattle.format.specs.declared.Area.{Area}
use Rattle.format.specs.Packet.{Segment}
use Rattle.format.specs.Edition.{is_hrr}
use Rattle.format.specs.Sheet.{Record, body_length, record_of, header_record, dwell_record, target_record, target_records, piece_record, piece_records, mission_records, dwell_records, scatterer_record, scatterer_records, hrr_record, hrr_records, text_records, opaque_records, job_records, test_records, location_records, segment_records, packet_records, record_bytes}
use Rattle.format.specs.Reader.{parsed, reading_of, sheet}
use Rattle.format.specs.Writer.{list, listed}
use Rattle.format.proofs.Types.{by_number}

-- a record of a kind, with the body's length that the kind fixes
pub record Formed (r : Record) : Type 0 where
  pub kind : 0 < body_length r.kind
  pub length_is : length r.body ≡ body_length r.kind

abbrev pub AllFormed : List Record → Type 0
AllFormed [] = Unit {0}
AllFormed (r ∷ rs) = Formed r × AllFormed rs

pub all_append : (rs qs : List Record) → AllFormed rs → AllFormed qs → AllFormed (rs ++ qs)
all_append [] qs p q = q
all_append (r ∷ rs) qs p q = (p.0, all_append rs qs p.1 q)

-- `record_of` makes the body as long as the kind says
pub record-formed : (kind : ℕ) (b : List ℕ) → 0 < body_length kind → Formed (record_of kind b)
unfolding record_of
record-formed kind b h = record { kind = h; length_is = length-pad (body_length kind) b }

targets-formed : (mask : ℕ) (area : Area) (n : ℕ) (t : List ℕ) → AllFormed (target_records mask area n t)
unfolding target_records target_record body_length
targets-formed mask area zero t = tt
targets-formed mask area (suc n) t = (record-formed 4 _ (lit< tt), targets-formed mask area n _)

scatterers-formed : (ws : List ℕ) (n : ℕ) (t : List ℕ) → AllFormed (scatterer_records ws n t)
unfolding scatterer_records scatterer_record body_length
scatterers-formed ws zero t = tt
scatterers-formed ws (suc n) t = (record-formed 12 _ (lit< tt), scatterers-formed ws n _)

pieces-formed : (n : ℕ) (b : List ℕ) → AllFormed (piece_records n b)
unfolding piece_records piece_record body_length
pieces-formed zero b = tt
pieces-formed (suc n) b = (record-formed 6 _ (lit< tt), pieces-formed n _)

-- one case for each type of segment, by the tests of its type
pub by-type : (P : List Record → Type 0) (r : Reading) (s : Segment)
    → P (mission_records s.body)
    → P (dwell_records r s.body)
    → P (hrr_records s.body)
    → P (job_records r s.body)
    → P (text_records s.body)
    → P (test_records s.body)
    → P (location_records s.body)
    → P (opaque_records s.type s.body)
    → P (segment_records r s)
unfolding segment_records is_hrr
by-type P r s m d h j t e l o =
    by_number r (λ (n : ℕ). P (opaque_records n s.body) → P (segment_records r (record { type = n; body = s.body })))
    (λ _. m) (λ _. d) (λ h3 _. rw h3 h) (λ _. j) (λ _. t) (λ _. e) (λ _. l)
    (λ n h1 h2 h3 h5 h6 h10 h13 o. rw (h1, h2, h3, h5, h6, h10, h13) o)
    s.type o

pub segment-formed : (r : Reading) (s : Segment) → AllFormed (segment_records r s)
unfolding dwell_records dwell_record hrr_records hrr_record job_records text_records opaque_records body_length
segment-formed r s =
    by-type AllFormed r s
    (record-formed 2 _ (lit< tt), tt)
    (record-formed 3 _ (lit< tt), targets-formed _ _ _ _)
    (record-formed 11 _ (lit< tt), scatterers-formed _ _ _)
    (record-formed 8 _ (lit< tt), tt)
    (record-formed 5 _ (lit< tt), pieces-formed _ _)
    (record-formed 9 _ (lit< tt), tt)
    (record-formed 10 _ (lit< tt), tt)
    (record-formed 7 _ (lit< tt), pieces-formed _ _)

pub packet-formed : (r : Reading) (ss : List Segment) → AllFormed (packet_records r ss)
unfolding packet_records
packet-formed r [] = tt
packet-formed r (s ∷ ss) = all_append (segment_records r s) (packet_records r ss) (segment-formed r s) (packet-formed r ss)

-- formed records, laid out as bytes, are found again
pub list_back : (k : ℕ) (rs : List Record) → AllFormed rs → length (record_bytes rs) ≤ k → list k (record_bytes rs) ≡ record { records = rs; whole = true }
unfolding list record_bytes
list_back zero [] f h = refl
list_back (suc k) [] f h = refl
list_back zero (r ∷ rs) f h = absurd (not-suc-le-zero h)
list_back (suc k) (r ∷ rs) f h =
    let n = f.0.length_is in
    let a : length (r.body ++ record_bytes rs) ≡ length r.body + length (record_bytes rs) = length-append r.body (record_bytes rs) in
    let fits : body_length r.kind ≤ length (r.body ++ record_bytes rs) = omega arith in
    let rest : length (record_bytes rs) ≤ k = omega arith in
    rw (
      lt-ltb 0 (body_length r.kind) f.0.kind,
      le-leb (body_length r.kind) (length (r.body ++ record_bytes rs)) fits,
      take_at r.body (record_bytes rs) (body_length r.kind) n,
      drop_at r.body (record_bytes rs) (body_length r.kind) n,
      list_back k rs f.1 rest,
    )

-- the records of a reading's sheet
pub listed-sheet : (settings : Settings) (l : List ℕ)
    → listed (sheet settings l) ≡ record { records = header_record l ∷ packet_records (reading_of settings l) (parsed settings l).segments; whole = true }
unfolding sheet header_record body_length
listed-sheet settings l = list_back _ _ (record-formed 1 l (lit< tt), packet-formed _ _) (le_refl _)
