-- The two withheld fields on a sheet, filled in on an Edition 1 sheet from the Edition 3 sheet of the same packet (demand 3).
-- Assumes nothing.
use Rattle.std.specs.Prelude.{ℕ, cond, List, [], ◌∷◌, ◌++◌, eqb}
use Rattle.octets.specs.Layout.{over, replaced, copied}
use Rattle.mask.specs.Fields.{dwell_widths}
use Rattle.format.specs.Packet.{job_widths}
use Rattle.format.specs.Sheet.{Record, record_bytes}
use Rattle.format.specs.Writer.{listed}

-- the body of a kind 3 is D1 to D31, and the mark of D27 as field 32
abbrev pub dwell_body_widths : List ℕ
dwell_body_widths = 8 ∷ (dwell_widths ++ 1 ∷ [])

-- that of a kind 8 is J1 to J28, and the mark of J26 as field 29
abbrev pub job_body_widths : List ℕ
job_body_widths = job_widths ++ 1 ∷ []

-- a record, changed in D27 and its mark, or in J26 and its mark, by f of the table, the field and its mark; others are as they were
abbrev pub changed : (List ℕ → ℕ → ℕ → List ℕ → List ℕ) → Record → Record
changed f r = record {
  kind = r.kind;
  body = cond (eqb r.kind 3) (f dwell_body_widths 27 32 r.body) (cond (eqb r.kind 8) (f job_body_widths 26 29 r.body) r.body);
}

-- "Copy into it every D27 and J26 of the Edition 3 sheet and mark them as shown": into r, of a record q of the same kind; another one
-- gives nothing
unfoldable pub filled_record : Record → Record → Record
filled_record r q = cond (eqb r.kind q.kind) (changed (λ ws n mark b. replaced 1 ws mark (1 ∷ []) (copied 1 ws n q.body b)) r) r

-- so each record of the one list, of that at the same place in the other
unfoldable pub filled_records : List Record → List Record → List Record
filled_records [] qs = []
filled_records (r ∷ rs) [] = r ∷ rs
filled_records (r ∷ rs) (q ∷ qs) = filled_record r q ∷ filled_records rs qs

-- "the sheet so filled in": an Edition 1 sheet, of the Edition 3 sheet of the same packet. Of other bytes, what stands behind the last
-- whole record stays
unfoldable pub filled_in : List ℕ → List ℕ → List ℕ
filled_in x1 x3 = over (record_bytes (filled_records (listed x1).records (listed x3).records)) x1
