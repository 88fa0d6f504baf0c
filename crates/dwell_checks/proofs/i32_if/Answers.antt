-- `dwell_checks::i32_if` meets its contract. The number at its place where the field is announced, and 0 where it is not.
-- Assumes nothing.
use borrow.Author.Rules.{sfits_of}
use mathlib.Core.Path.{refl, sym, ap, ◌∙◌}
use mir.Syntax.{w32}
use mir.Facts.{to_z-of_z}
use Rattle.octets.specs.Octets.{twos, signed}
use Rattle.dwell_checks.proofs.Numbers.{if-there, if-absent}
use Rattle.dwell_checks.proofs.i32_if.Goals as goal

pub get_i32-requires : goal.get_i32-requires
get_i32-requires c = c.requires.2 (sym c.has.ensures ∙ c.if-has.true)

pub returns-then-has : goal.returns-then-has
unfolding signed
returns-then-has c =
    let a = c.args in
    to_z-of_z (sfits_of {w = w32} {z = c.get_i32.result} c.get_i32.type_inv)
    ∙ c.get_i32.ensures
    ∙ ap (twos 4) (if-there a.mask a.n 4 a.at a.b.now (sym c.has.ensures ∙ c.if-has.true) refl)

pub returns-else-has : goal.returns-else-has
unfolding twos
returns-else-has c = let a = c.args in ap (twos 4) (if-absent a.mask a.n 4 a.at a.b.now (sym c.has.ensures ∙ c.if-has.false))
