-- Nothing is written where nothing is asked for, and else the packet.
use Rattle.std.proofs.Common.{◌∙◌, refl, sym, arith}
use Rattle.gmti_longest.proofs.Laid.{written_none, written-packet}
use Rattle.gmti_longest.proofs.answer.Goals as goal

pub returns-in-Some : goal.returns-in-Some
returns-in-Some c =
    let k = c.in-Some.ensures in
    let packet = written-packet c.args.input.now c.args.o.now k.0 (λ e. omega (arith, e, k.1)) c.lay_out.ensures.1 in
    record { value = c.lay_out.ensures.0 ∙ packet.0; o_after = packet.1 }

pub returns-in-None : goal.returns-in-None
returns-in-None c =
    let none = written_none c.args.input.now c.args.o.now (sym c.in-None.ensures) refl in
    record { value = none.0; o_after = none.1 }
