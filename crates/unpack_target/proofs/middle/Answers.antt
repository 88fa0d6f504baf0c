-- `unpack_target::middle` meets its contract. Where every field is announced, the bytes are the fields; else each is laid out in turn,
-- onto zeros.
-- Assumes nothing.
use mathlib.Core.Path.{refl}
use native.Mathlib.Omega.{arith}
use borrow.Author.Rules.{rules}
use Rattle.octets.specs.Layout.{total}
use Rattle.mask.specs.Fields.{announced, announced_length}
use Rattle.unpack.proofs.Lines.{onward, copied-needs, copied, cleared, clear-front, clear_behind, clear-stored, onto-zeros, ending}
use Rattle.unpack_target.proofs.middle.Goals as goal
use Rattle.unpack_target.proofs.middle.Goals.{then-has_all, else-has_all+then-has_none, else-has_all+else-has_none}

pub block-requires : goal.block-requires
unfolding announced total
block-requires c = omega (arith, copied-needs _ c.requires c.has_all.ensures c.if-has_all.true refl)

-- both parts are laid out where zeros were stored: the first leaves those behind it
pub d32_6_to_10-requires : goal.d32_6_to_10-requires
unfolding announced_length total
d32_6_to_10-requires c =
    let zeros = clear-front 8 (omega arith) (clear-stored c.requires c.clear.ensures) in
    search rules

pub d32_11_to_15-requires : goal.d32_11_to_15-requires
unfolding announced_length total
d32_11_to_15-requires c =
    let zeros = clear_behind 8 (omega arith) (clear-stored c.requires c.clear.ensures) c.d32_6_to_10.ensures in
    search rules

pub returns : goal.returns
unfolding announced total
returns c =
    ending {v = c.if-has_all.u} refl
    (elim c.if-has_all.branch [
      | then-has_all w ↦ rw w.u-is (copied _ c.requires c.has_all.ensures w.if-has_all.true refl w.block.ensures)
      | else-has_all+then-has_none w ↦ rw w.u-is (cleared _ w.has_none.ensures w.if-has_none.true refl w.blank.ensures)
      | else-has_all+else-has_none w ↦
          rw w.u-is
          (onto-zeros
          (record { next = omega arith; behind = omega arith; stored = w.clear.ensures; long = search rules; given = refl; masked = refl; lent = refl })
          (onward w.d32_6_to_10.ensures w.d32_11_to_15.ensures))
    ])
