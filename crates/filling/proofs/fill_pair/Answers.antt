-- `filling::fill_pair` meets its contract: records of one kind go to `fill_record`.
-- Assumes nothing.
use mathlib.Core.Path.{sym, ap, ◌∙◌}
use Rattle.format.specs.Sheet.{body_length}
use Rattle.filling.proofs.Bodies.{filled_apart}
use Rattle.filling.proofs.fill_pair.Goals as goal

pub fill_record-requires : goal.fill_record-requires
fill_record-requires c =
    let p = c.requires in
    (p.0, p.1 ∙ sym (ap body_length c.if-kind-other.false))

pub returns : goal.returns
returns c = rw (← c.if-kind-other.false) c.fill_record.ensures

pub returns-then-kind-other : goal.returns-then-kind-other
returns-then-kind-other c = filled_apart _ _ _ _ c.if-kind-other.true
