-- A packet to which no row applies, as the code hands it on behind its header: its segments, and its sheet.
-- Assumes nothing.
use Prim.Native.Nat.{ℕ, ◌+◌, ◌-◌, ◌≤◌}
use native.Mathlib.Omega.{arith}
use mathlib.Core.Path.{◌≡◌, sym, ap, ap₂, ◌∙◌}
use mathlib.Core.List.{List, [], ◌∷◌, ◌++◌}
use lib.ListN.{length, take, drop, length-drop, length-append}
use Rattle.octets.proofs.Parts.{tail-is}
use Rattle.format.specs.declared.Settings.{Settings}
use Rattle.format.specs.declared.Reading.{Reading}
use Rattle.format.specs.Sheet.{header_record, packet_records, record_bytes}
use Rattle.format.specs.Lengths.{record_length}
use Rattle.format.specs.Reader.{Parsed, parse, parsed, reading_of, sheet}
use Rattle.format.proofs.Acceptance.{header-sized}
use Rattle.format.proofs.Lengths.{bytes-append, length-header}
use Rattle.segments.specs.InnerWalk.{CheckedAll, CheckedPacket, all_bytes}

-- the packet behind its header
abbrev pub behind : List ℕ → List ℕ
behind l = take (length l - 32) (drop 32 l)

-- it has a header, no row applies to a segment, and the sheet is the header's record and those of the segments
pub record Whole (settings : Settings) (l : List ℕ) (r : Reading) : Type 0 where
  pub headed : 32 ≤ length l
  pub checked : CheckedAll r (behind l)
  pub sheet-is : sheet settings l ≡ record_bytes (header_record l ∷ []) ++ all_bytes r (behind l)
  pub sheet-length : length (sheet settings l) ≡ record_length 1 + length (all_bytes r (behind l))

pub whole : (settings : Settings) (l : List ℕ) (r : Reading) → CheckedPacket settings l → r ≡ reading_of settings l → Whole settings l r
unfolding parsed sheet
whole settings l r c e =
    let sized = header-sized settings l c.header in
    let header = record_bytes (header_record l ∷ []) in
    let parse-is : parse r (length (behind l)) (behind l) ≡ parsed settings l = ap₂ (λ (r : Reading) (x : List ℕ). parse r (length x) x) e (tail-is 32 l) in
    let parts : sheet settings l ≡ header ++ all_bytes r (behind l) =
    bytes-append (header_record l ∷ []) (packet_records (reading_of settings l) (parsed settings l).segments) ∙ sym (ap₂ (λ (r : Reading) (p : Parsed). header ++ record_bytes (packet_records r p.segments)) e parse-is) in
    record {
      headed = sized.long;
      checked = record { short = omega (arith, ap length (tail-is 32 l), length-drop 32 l, sized.short); ending = ap (λ (p : Parsed). p.ending) parse-is ∙ c.ending };
      sheet-is = parts;
      sheet-length = ap length parts ∙ length-append header (all_bytes r (behind l)) ∙ ap (λ (n : ℕ). n + length (all_bytes r (behind l))) (length-header l);
    }
