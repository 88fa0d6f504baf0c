-- `hrr_records::hrr_records` meets its contract. The segment's record, and its scatterers in a part of the sheet.
-- Assumes nothing.
use mathlib.Core.Path.{◌≡◌, ap, ◌∙◌}
use mathlib.Core.List.{List}
use Prim.Native.Nat.{ℕ, ◌+◌}
use native.Mathlib.Omega.{arith}
use Rattle.mask.specs.Fields.{announced_length}
use Rattle.hrr.specs.declared.Scatterers.{Scatterers}
use Rattle.hrr.specs.Hrr.{hrr_mask, hrr_widths}
use Rattle.hrr.specs.InnerScatterers.{widths_of}
use Rattle.format.specs.Sheet.{scatterer_records, record_bytes}
use Rattle.format.specs.Lengths.{record_length}
use Rattle.format.proofs.Hrr.{is-hrr}
use Rattle.records.proofs.Laid.{part-laid}
use Rattle.hrr_records.proofs.Segments.{hrr-with-scatterers}
use Rattle.hrr_records.proofs.hrr_records.Goals as goal
use Rattle.hrr_records.proofs.hrr_records.Goals.{After-scatterers_in-s}

-- where they begin in the body
begins : (c : After-scatterers_in-s) → 5 + c.fields_length-start.result ≡ 5 + announced_length (hrr_mask c.args.b.now) 2 hrr_widths
begins c =
    ap (λ (n : ℕ). 5 + n) (c.fields_length-start.ensures.0 ∙ ap (λ (mask : ℕ). announced_length mask 2 hrr_widths) c.mask_of-mask.ensures)

pub mask_of-mask-requires : goal.mask_of-mask-requires
mask_of-mask-requires c = (is-hrr c.args.b.now c.requires.0).masked

pub hrr_record-requires : goal.hrr_record-requires
hrr_record-requires c =
    (rw c.mask_of-mask.ensures c.scatterers_in-s.ensures.headed.0, omega (arith, c.requires))

pub slice_bounds-scatterer_records-count : goal.slice_bounds-scatterer_records-count
slice_bounds-scatterer_records-count c = omega (arith, begins (goal.at.slice_bounds-scatterer_records-count c).After-scatterers_in-s, c.scatterers_in-s.ensures.headed.1)

pub slice_bounds-scatterer_records-start : goal.slice_bounds-scatterer_records-start
slice_bounds-scatterer_records-start c = omega (arith, begins (goal.at.slice_bounds-scatterer_records-start c).After-scatterers_in-s, c.scatterers_in-s.ensures.headed.1)

pub scatterer_records-requires : goal.scatterer_records-requires
scatterer_records-requires c =
    let found = c.scatterers_in-s in
    let count = ap (λ (k : Scatterers). k.count) found.ensures.value.0 in
    (found.ensures.value.1, omega (arith, begins (goal.at.scatterer_records-requires c).After-scatterers_in-s, found.ensures.headed.1), omega (arith, c.requires.1, count, c.hrr_record.auto))

pub returns : goal.returns
returns c =
    let a = c.args in
    let s = c.scatterers_in-s.result in
    hrr-with-scatterers a.b.now a.o.now s (5 + c.fields_length-start.result) c.scatterers_in-s.ensures.value.0 (begins (goal.at.returns c).After-scatterers_in-s) c.hrr_record.ensures
    (part-laid (λ (x : List ℕ). record_bytes (scatterer_records (widths_of s) s.count x)) a.b.now c.hrr_record.new.o (5 + c.fields_length-start.result) (record_length 11) c.scatterer_records.ensures)
