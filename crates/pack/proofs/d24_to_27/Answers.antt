-- `pack::d24_to_27` meets its contract. Where every field is announced, the bytes are the fields; where none is, nothing is stored; else
-- each is stored in turn. Assumes nothing.
use mathlib.Core.Path.{refl}
use Prim.Native.Nat.{ℕ}
use native.Mathlib.Omega.{arith}
use Rattle.octets.specs.Layout.{total}
use Rattle.mask.specs.Fields.{announced}
use Rattle.pack.proofs.Lines.{onward, copied-needs, copied, ending, passing}
use Rattle.pack.proofs.d24_to_27.Goals as goal
use Rattle.pack.proofs.d24_to_27.Goals.{then-has_all, else-has_all+then-not-has_none, else-has_all+else-not-has_none}

-- the word with the bits of D24 to D27
abbrev set : ℕ
set = 0x0000_03C0_0000_0000

pub block-requires : goal.block-requires
unfolding announced total
block-requires c = omega (arith, copied-needs set c.requires c.has_all.ensures c.if-has_all.true refl)

pub returns : goal.returns
unfolding announced total
returns c =
    let j = c.if-has_all.u in
    elim c.if-has_all.branch [
      | then-has_all w ↦ ending j w.u-is refl (copied set c.has_all.ensures w.if-has_all.true refl w.block.ensures)
      | else-has_all+then-not-has_none w ↦
          ending j w.u-is refl
          (onward (onward (onward (λ _. w.field.ensures) w.field-then-not-has_none.ensures) w.field-then-not-has_none-2.ensures) w.field-then-not-has_none-3.ensures c.requires.held)
      | else-has_all+else-not-has_none w ↦ passing j set w.u-is refl w.has_none.ensures w.if-not-has_none.false refl
    ]
