-- The first row that applies names a field where document 01 says so, and has field 0 elsewhere.
-- Assumes nothing.
use Prim.Native.Nat.{ℕ}
use mathlib.Core.Path.{refl}
use mathlib.Core.List.{List}
use Rattle.format.specs.declared.Settings.{Settings}
use Rattle.format.specs.Reader.{reading_of}
use Rattle.format.proofs.Named.{Named, first-named, header-named, segment-named, plain-named}
use Rattle.demands.specs.First.{FirstRow, of_header, of_segment, of_end}
use Rattle.demands.specs.Demands.{FieldsNamed}

-- what is said of a row, of the first one that applies
row_named : (settings : Settings) (l : List ℕ) (lent : ℕ) {number segment field : ℕ} → FirstRow settings l lent number segment field → Named number field
row_named settings l lent (of_header e) = first-named (header-named settings l) _ _ e
row_named settings l lent (of_segment {left = left} header passed some e) = first-named (segment-named (reading_of settings l) left) _ _ e
row_named settings l lent (of_end header passed short) = plain-named 16 refl

pub fields-named : FieldsNamed
fields-named = record {
  others = λ settings l lent number segment field f. (row_named settings l lent f).others;
  named = λ settings l lent number segment f h. (row_named settings l lent f).named h refl;
}
