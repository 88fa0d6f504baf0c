-- `unpack_target::places` meets its contract. Where every field is announced, the bytes are the fields; else each is laid out in turn.
-- Assumes nothing.
use mathlib.Core.Path.{refl}
use native.Mathlib.Omega.{arith}
use Rattle.octets.specs.Layout.{total}
use Rattle.mask.specs.Fields.{announced}
use Rattle.unpack.proofs.Lines.{onward, copied-needs, copied, cleared, ending}
use Rattle.unpack_target.proofs.places.Goals as goal
use Rattle.unpack_target.proofs.places.Goals.{then-has_all, else-has_all+then-has_none, else-has_all+else-has_none}

pub block-requires : goal.block-requires
unfolding announced total
block-requires c = omega (arith, copied-needs _ c.requires c.has_all.ensures c.if-has_all.true refl)

pub returns : goal.returns
unfolding announced total
returns c =
    ending {v = c.if-has_all.u} refl
    (elim c.if-has_all.branch [
      | then-has_all w ↦ rw w.u-is (copied _ c.requires c.has_all.ensures w.if-has_all.true refl w.block.ensures)
      | else-has_all+then-has_none w ↦ rw w.u-is (cleared _ w.has_none.ensures w.if-has_none.true refl w.blank.ensures)
      | else-has_all+else-has_none w ↦ rw w.u-is (onward w.field.ensures w.field-else-has_none.ensures)
    ])
