-- `dwell_checks::u8_if` meets its contract. The number at its place where the field is announced, and 0 where it is not.
-- Assumes nothing.
use mathlib.Core.Path.{sym, ◌∙◌}
use native.Mathlib.Omega.{arith}
use Rattle.octets.proofs.Laws.{one_byte}
use Rattle.dwell_checks.proofs.Numbers.{if-there, if-absent}
use Rattle.dwell_checks.proofs.u8_if.Goals as goal

pub bounds-b-at : goal.bounds-b-at
bounds-b-at c = omega (arith, c.requires.2 (sym c.has.ensures ∙ c.if-has.true))

pub returns-then-has : goal.returns-then-has
returns-then-has c =
    let a = c.args in
    if-there a.mask a.n 1 a.at a.b.now (sym c.has.ensures ∙ c.if-has.true) (sym (one_byte a.at a.b.now))

pub returns-else-has : goal.returns-else-has
returns-else-has c = let a = c.args in if-absent a.mask a.n 1 a.at a.b.now (sym c.has.ensures ∙ c.if-has.false)
