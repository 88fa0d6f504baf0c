-- `dwell_records::target_record` meets its contract. The kind, the fields at full widths, and the position.
-- Assumes nothing.
use mathlib.Core.Path.{ap, ◌∙◌}
use lib.IntN.{ℤ}
use lib.Seq.{sets}
use mir.Syntax.{w32}
use mir.Facts.{to_z-of_z}
use borrow.Author.Rules.{sfits_of}
use Rattle.octets.specs.Octets.{signed_bytes}
use Rattle.octets.specs.Layout.{total}
use Rattle.position.specs.Position.{is_latitude, latitude_micro, longitude_micro}
use Rattle.dwell_records.proofs.Targets.{target-laid}
use borrow.Author.Rules.{rules}
use Rattle.dwell_records.proofs.target_record.Goals as goal

pub latitude_micro-latitude-requires : goal.latitude_micro-latitude-requires
latitude_micro-latitude-requires c = ap is_latitude c.latitude_of.ensures ∙ c.requires.3

pub target_fields-requires : goal.target_fields-requires
unfolding total
target_fields-requires c = search rules

pub returns : goal.returns
returns c =
    let a = c.args in
    let lat = c.latitude_micro-latitude in
    let lon = c.longitude_micro-longitude in
    target-laid a.mask a.area a.t.now a.o.now lat.result lon.result
    (lat.ensures ∙ ap latitude_micro c.latitude_of.ensures)
    (lon.ensures ∙ ap longitude_micro c.longitude_of.ensures)
    c.put_byte.ensures c.target_fields.ensures.stored
    (c.put_i32.ensures ∙ ap (λ (z : ℤ). sets c.target_fields.new.o 37 (signed_bytes 4 z)) (to_z-of_z (sfits_of {w = w32} {z = lat.result} lat.type_inv)))
    c.put_u32.ensures
