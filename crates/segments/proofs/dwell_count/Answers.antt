-- `segments::dwell_count` meets its contract. Where the pairs never fell, they were counted as they rose.
-- Assumes nothing.
use mathlib.Core.Path.{sym, ap, ◌∙◌}
use Rattle.segments.specs.declared.Dwells.{Dwells}
use Rattle.segments.specs.InnerWalk.{segments_of}
use Rattle.segments.proofs.Counting.{rising-are, numbers-are}
use Rattle.segments.proofs.dwell_count.Goals as goal

pub returns-then-dwells-eq0 : goal.returns-then-dwells-eq0
returns-then-dwells-eq0 c =
    let l = c.args.l.now in
    let passed = c.requires.1 in
    let none = sym (ap (λ (d : Dwells). d.falls) passed) ∙ c.if-dwells-eq0.true in
    ap (λ (d : Dwells). d.rises) passed
    ∙ rising-are (segments_of c.args.r l) none
    ∙ numbers-are c.args.r l (λ i. (c.type_inv.l i).fits)
