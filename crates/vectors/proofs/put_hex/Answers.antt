-- `vectors::put_hex` meets its contract. The loop keeps that the digits left, stored from p on, give the whole.
-- Assumes nothing.
use native.Mathlib.Omega.{arith}
use mathlib.Core.Path.{refl, sym, ◌∙◌}
use lib.ListN.{length-set}
use Rattle.vectors.proofs.Spellings.{hexed-turn, hexed-end}
use Rattle.vectors.proofs.put_hex.Goals as goal

pub loop-x-init : goal.loop-x-init
loop-x-init c = (omega arith, refl, refl)

pub hex_digit-requires : goal.hex_digit-requires
hex_digit-requires c = omega (arith, (c.type_inv.s c.loop-x.x-index).fits)

pub bounds-o-p-in-loop-x : goal.bounds-o-p-in-loop-x
bounds-o-p-in-loop-x c = rw length-set (omega arith)

pub loop-x-preserved : goal.loop-x-preserved
loop-x-preserved c =
    let a = c.args in
    let l = c.loop-x in (
      omega arith,
      rw (length-set, length-set) l.invariant.1,
      rw (c.hex_digit-in-loop-x.ensures, c.hex_digit.ensures) (hexed-turn a.s.now l.o l.p l.x-index (omega arith) ∙ l.invariant.2),
    )

pub returns : goal.returns
returns c =
    let a = c.args in
    let l = c.loop-x in
    record { value = omega arith; o_after = sym (hexed-end a.s.now l.o l.p l.x-index (omega arith)) ∙ l.invariant.2 }
