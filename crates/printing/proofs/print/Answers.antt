-- `printing::print` meets its contract. The answer's line, and behind it those of the targets where it accepts.
-- Assumes nothing.
use native.Mathlib.Omega.{arith}
use mathlib.Core.Path.{ap}
use Rattle.format.specs.Answer.{answer_of}
use lib.ListN.{length, length-take}
use Rattle.printing.proofs.Records.{printed-refused, printed-accepted}
use Rattle.printing.proofs.print.Goals as goal

pub target_lines-requires : goal.target_lines-requires
target_lines-requires c =
    omega (arith, ap length c.front.ensures, length-take c.in-Ok.counts.length c.args.sheet.now, c.answer_line-p.ensures.value.1, c.answer_line-p.auto.o, c.requires)

pub returns-in-Ok : goal.returns-in-Ok
returns-in-Ok c =
    let e = c.answer_line-p.ensures in
    let all = printed-accepted c.args.sheet.now _ _ c.front.result.now (ap answer_of c.in-Ok.is) c.front.ensures (e.value, e.o_after) c.target_lines.ensures in
    record { value = all.0; o_after = all.1.0; upper_bound = all.1.1 }

pub returns-in-Err : goal.returns-in-Err
returns-in-Err c =
    let e = c.answer_line-p.ensures in
    rw (printed-refused _ _ (ap answer_of c.in-Err.is)) (record { value = e.value.0; o_after = e.o_after; upper_bound = omega (arith, e.value.1) })
