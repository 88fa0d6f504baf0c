-- `hrr::scatterers_of` meets its contract. Each number stands at a constant place of the fields at full widths.
-- Assumes nothing.
use mathlib.Core.Path.{sym, ◌∙◌}
use Rattle.octets.specs.Layout.{total, value}
use Rattle.octets.proofs.Laws.{one_byte}
use Rattle.hrr.proofs.Numbers.{count-is}
use Rattle.hrr.proofs.scatterers_of.Goals as goal

pub returns : goal.returns
unfolding total value
returns c =
    let a = c.args in
    let f = a.f.now in
    let n = count-is a.mask f c.number_if.ensures c.number_if-2.ensures c.number_if-3.ensures c.count_of-count.ensures.0 in
    (c.with_widths.ensures.0 ∙ rw (sym (one_byte 45 f), sym (one_byte 46 f), n), c.with_widths.ensures.1)
