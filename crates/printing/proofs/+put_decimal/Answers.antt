-- `printing::put_decimal` meets its contract: one digit, or the last behind those of a tenth.
-- Assumes nothing.
use native.Mathlib.Omega.{arith}
use Rattle.printing.proofs.Lines.{put_one, put-more, length-one, length_more}
use Rattle.printing.proofs.+put_decimal.Goals as goal

pub bounds-o-at : goal.bounds-o-at
bounds-o-at t c = omega (arith, length-one c.args.n c.if-n-lt10.true)

pub put_decimal-p-requires : goal.put_decimal-p-requires
put_decimal-p-requires t c = (omega (arith, c.decreases), omega (arith, c.requires, length_more c.args.n c.if-n-lt10.false))

pub bounds-o-p : goal.bounds-o-p
bounds-o-p t c =
    omega (arith, c.put_decimal-p.auto.o, c.put_decimal-p.ensures.value, c.requires, length_more c.args.n c.if-n-lt10.false)

pub overflow_add-result-else-n-lt10 : goal.overflow_add-result-else-n-lt10
overflow_add-result-else-n-lt10 t c =
    record { fits = omega (arith, c.put_decimal-p.ensures.value, c.requires, length_more c.args.n c.if-n-lt10.false) }

pub returns-then-n-lt10 : goal.returns-then-n-lt10
returns-then-n-lt10 t c =
    let put = put_one c.args.o.now c.args.at c.args.n c.if-n-lt10.true c.digit.ensures in
    record { value = put.0; o_after = put.1 }

pub returns-else-n-lt10 : goal.returns-else-n-lt10
returns-else-n-lt10 t c =
    let e = c.put_decimal-p.ensures in
    let put = put-more c.args.o.now c.args.at c.args.n c.if-n-lt10.false c.digit-else-n-lt10.ensures (e.value, e.o_after) in
    record { value = put.0; o_after = put.1 }
