-- `dwell_checks::u32_if` meets its contract. The number at its place where the field is announced, and 0 where it is not.
-- Assumes nothing.
use mathlib.Core.Path.{sym, ◌∙◌}
use Rattle.dwell_checks.proofs.Numbers.{if-there, if-absent}
use Rattle.dwell_checks.proofs.u32_if.Goals as goal

pub get_u32-requires : goal.get_u32-requires
get_u32-requires c = c.requires.2 (sym c.has.ensures ∙ c.if-has.true)

pub returns-then-has : goal.returns-then-has
returns-then-has c =
    let a = c.args in
    if-there a.mask a.n 4 a.at a.b.now (sym c.has.ensures ∙ c.if-has.true) c.get_u32.ensures

pub returns-else-has : goal.returns-else-has
returns-else-has c = let a = c.args in if-absent a.mask a.n 4 a.at a.b.now (sym c.has.ensures ∙ c.if-has.false)
