-- `mask::lowest_fault` meets its contract. The leading zeros of the word of faults, by the law on the first field of a word.
-- Assumes nothing.
use native.Mathlib.Omega.{arith}
use lib.Count.{leading_le}
use Rattle.mask.specs.Mask.{is_fault, lowest_fault}
use Rattle.mask.proofs.Lowest.{holds-nowhere, holds-first}
use Rattle.mask.proofs.lowest_fault.Goals as goal

pub overflow_add-result : goal.overflow_add-result
overflow_add-result c = omega (arith, leading_le 64 c.faults-w.result)

pub returns-then-w-eq0 : goal.returns-then-w-eq0
unfolding lowest_fault
returns-then-w-eq0 c =
    let a = c.args in
    holds-nowhere (is_fault a.version a.mask) c.faults-w.result c.faults-w.ensures c.if-w-eq0.true

pub returns-else-w-eq0 : goal.returns-else-w-eq0
unfolding lowest_fault
returns-else-w-eq0 c =
    let a = c.args in
    holds-first (is_fault a.version a.mask) c.faults-w.result c.faults-w.ensures c.if-w-eq0.false (omega arith)
