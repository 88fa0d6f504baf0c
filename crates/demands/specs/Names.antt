-- The names on a sheet, by its records. Names are the fields of text but F3.
-- Assumes nothing.
use Rattle.std.specs.Prelude.{ℕ, Bool, true, ◌&&◌, cond, List, [], ◌∷◌, ◌++◌, eqb}
use Rattle.octets.specs.Layout.{field}
use Rattle.text.specs.Text.{is_line}
use Rattle.format.specs.Packet.{header_widths, mission_widths, job_widths, free_text_widths}
use Rattle.format.specs.Sheet.{Record}

-- the bytes of the names that a record has: P3, P5, P8; M1, M2, M4; F1, F2; J3. A kind 5 begins with F1 and F2, as its segment does
unfoldable pub names : Record → List ℕ
names r =
    let b = r.body in
    cond (eqb r.kind 1) (field 1 header_widths 3 b ++ field 1 header_widths 5 b ++ field 1 header_widths 8 b)
    (cond (eqb r.kind 2) (field 1 mission_widths 1 b ++ field 1 mission_widths 2 b ++ field 1 mission_widths 4 b)
    (cond (eqb r.kind 5) (field 1 (free_text_widths b) 1 b ++ field 1 (free_text_widths b) 2 b)
    (cond (eqb r.kind 8) (field 1 job_widths 3 b)
    [])))

-- in every record, each of them "holds only 0x20 to 0x7E"
unfoldable pub names_are_lines : List Record → Bool
names_are_lines [] = true
names_are_lines (r ∷ rs) = is_line (names r) && names_are_lines rs
