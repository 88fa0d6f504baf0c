-- `gmti::numbers` meets its contract. What it asks of the answer's numbers is asked of those of each case.
-- Assumes nothing.
use native.Mathlib.Omega.{arith}
use mathlib.Core.Path.{sym, ap}
use Rattle.format.specs.Answer.{answer_of, numbers_of}
use Rattle.gmti.proofs.Outcomes.{accepted-fit, refused-fit}
use Rattle.gmti.proofs.numbers.Goals as goal

pub overflow_cast-result : goal.overflow_cast-result
overflow_cast-result c = omega (arith, accepted-fit _ c.requires (ap answer_of c.in-Ok.is))

pub overflow_cast-result-in-Ok : goal.overflow_cast-result-in-Ok
overflow_cast-result-in-Ok c = omega (arith, accepted-fit _ c.requires (ap answer_of c.in-Ok.is))

pub overflow_cast-result-in-Ok-2 : goal.overflow_cast-result-in-Ok-2
overflow_cast-result-in-Ok-2 c = omega (arith, accepted-fit _ c.requires (ap answer_of c.in-Ok.is))

pub overflow_cast-result-in-Ok-3 : goal.overflow_cast-result-in-Ok-3
overflow_cast-result-in-Ok-3 c = omega (arith, accepted-fit _ c.requires (ap answer_of c.in-Ok.is))

pub overflow_cast-result-in-Err : goal.overflow_cast-result-in-Err
overflow_cast-result-in-Err c = omega (arith, refused-fit _ c.requires (ap answer_of c.in-Err.is))

pub overflow_cast-result-in-Err-2 : goal.overflow_cast-result-in-Err-2
overflow_cast-result-in-Err-2 c = omega (arith, refused-fit _ c.requires (ap answer_of c.in-Err.is))

pub overflow_cast-result-in-Err-3 : goal.overflow_cast-result-in-Err-3
overflow_cast-result-in-Err-3 c = omega (arith, refused-fit _ c.requires (ap answer_of c.in-Err.is))

pub returns-in-Ok : goal.returns-in-Ok
unfolding numbers_of
returns-in-Ok c = sym (ap numbers_of (ap answer_of c.in-Ok.is))

pub returns-in-Err : goal.returns-in-Err
unfolding numbers_of
returns-in-Err c = sym (ap numbers_of (ap answer_of c.in-Err.is))
