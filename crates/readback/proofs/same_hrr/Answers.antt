-- `readback::same_hrr` meets its contract. The record of the segment, and its scatterers behind it.
-- Assumes nothing.
use mathlib.Core.Path.{◌≡◌, sym, ap, ◌∙◌}
use mathlib.Core.List.{List}
use Prim.Native.Nat.{ℕ, ◌+◌, ◌-◌, ◌*◌}
use native.Mathlib.Omega.{arith}
use lib.ListN.{length, take, drop, length-drop}
use Rattle.octets.specs.Layout.{total}
use Rattle.octets.proofs.Parts.{tail-is}
use Rattle.mask.specs.Fields.{announced_length}
use Rattle.hrr.specs.Hrr.{hrr_mask, is_hrr_mask, hrr_widths, scatterer_widths}
use Rattle.hrr.specs.declared.Scatterers.{Scatterers}
use Rattle.hrr.specs.InnerScatterers.{Headed, widths_of}
use Rattle.format.specs.Sheet.{Record, hrr_record, scatterer_records, hrr_records, record_bytes}
use Rattle.format.specs.Lengths.{record_length}
use Rattle.format.specs.Writer.{is_same}
use Rattle.format.proofs.Hrr.{is-hrr}
use Rattle.readback.proofs.Fronts.{record-differs, record_same}
use Rattle.readback.proofs.Rests.{hrr-length, left-length}
use Rattle.readback.proofs.same_hrr.Goals as goal
use Rattle.readback.proofs.same_hrr.Goals.{After-scatterers_in-s}

pub mask_of-mask-requires : goal.mask_of-mask-requires
mask_of-mask-requires c = (is-hrr c.args.b.now c.requires.0).masked

-- what is known before the record is laid out: the body begins with the mask that is read
head : (c : After-scatterers_in-s) → Headed c.mask_of-mask.result c.args.b.now
head c =
    let m = c.mask_of-mask.ensures in
    let h = c.scatterers_in-s.ensures.headed.0 in
    (m, ap is_hrr_mask m ∙ h.1, omega (arith, h.2, ap (λ (k : ℕ). announced_length k 2 hrr_widths) m))

-- where the scatterers start
start_is : (c : After-scatterers_in-s) → 5 + c.fields_length-start.result ≡ 5 + announced_length (hrr_mask c.args.b.now) 2 hrr_widths
start_is c = omega (arith, c.fields_length-start.ensures.0 ∙ ap (λ (k : ℕ). announced_length k 2 hrr_widths) c.mask_of-mask.ensures)

-- they fill what is behind that place
fill : (c : After-scatterers_in-s) → let x = c.scatterers_in-s.result in 5 + c.fields_length-start.result + x.count * total (widths_of x) ≡ length c.args.b.now
fill c = omega (arith, start_is c, c.scatterers_in-s.ensures.headed.1)

-- and the records are as long as they ask for
long : (c : After-scatterers_in-s) → record_length 11 + c.scatterers_in-s.result.count * record_length 12 ≡ length c.args.x.now
long c = omega (arith, c.requires.1, ap (λ (x : Scatterers). x.count) c.scatterers_in-s.ensures.value.0)

pub hrr_record-requires : goal.hrr_record-requires
hrr_record-requires c = (head (goal.at.hrr_record-requires c).After-scatterers_in-s, omega (arith, c.told-window))

pub returns-then-not-is_front : goal.returns-then-not-is_front
unfolding hrr_records
returns-then-not-is_front c =
    let b = c.args.b.now in
    record-differs (hrr_record b) _ c.args.x.now c.args.window.now _ (record_length 11) c.hrr_record.ensures (hrr-length b) (omega (arith, c.told-window)) (omega (arith, c.requires.1)) c.is_front.ensures c.if-not-is_front.true

pub slice_bounds-same_scatterers-count : goal.slice_bounds-same_scatterers-count
slice_bounds-same_scatterers-count c = omega (arith, fill (goal.at.slice_bounds-same_scatterers-count c).After-scatterers_in-s)

pub slice_bounds-same_scatterers-start : goal.slice_bounds-same_scatterers-start
slice_bounds-same_scatterers-start c = omega (arith, fill (goal.at.slice_bounds-same_scatterers-start c).After-scatterers_in-s)

pub same_scatterers-requires : goal.same_scatterers-requires
same_scatterers-requires c =
    let each = c.each_of.ensures.0 in
    let b = c.args.b.now in
    let takes = ap (λ (n : ℕ). c.scatterers_in-s.result.count * n) each in (
      c.scatterers_in-s.ensures.value.1,
      each,
      rw (tail-is (5 + c.fields_length-start.result) b, length-drop) (omega (arith, fill (goal.at.same_scatterers-requires c).After-scatterers_in-s, takes)),
      sym (left-length (record_length 11) _ c.args.x.now (sym (long (goal.at.same_scatterers-requires c).After-scatterers_in-s))),
    )

pub returns : goal.returns
unfolding hrr_records scatterer_widths
returns c =
    let b = c.args.b.now in
    let x = c.args.x.now in
    let some = c.scatterers_in-s.result in
    let y = take (length x - record_length 11) (drop (record_length 11) x) in
    let place = tail-is (5 + c.fields_length-start.result) b ∙ ap (λ (n : ℕ). drop n b) (start_is (goal.at.returns c).After-scatterers_in-s) in
    let rest =
    ap (λ (t : List ℕ). scatterer_records (widths_of some) some.count t) place
    ∙ ap (λ (q : Scatterers). scatterer_records (widths_of q) q.count (drop (5 + announced_length (hrr_mask b) 2 hrr_widths) b)) c.scatterers_in-s.ensures.value.0 in
    record_same (hrr_record b) _ x c.args.window.now _ (record_length 11) c.hrr_record.ensures (hrr-length b) (omega (arith, c.told-window)) (omega (arith, c.requires.1)) c.is_front.ensures y c.if-not-is_front.false (tail-is (record_length 11) x)
    (c.same_scatterers.ensures ∙ ap (λ (rs : List Record). is_same (record_bytes rs) y) rest)
