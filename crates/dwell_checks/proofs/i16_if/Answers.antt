-- `dwell_checks::i16_if` meets its contract. The number at its place where the field is announced, and 0 where it is not.
-- Assumes nothing.
use borrow.Author.Rules.{sfits_of}
use mathlib.Core.Path.{refl, sym, ap, ◌∙◌}
use mir.Syntax.{w16}
use mir.Facts.{to_z-of_z}
use Rattle.octets.specs.Octets.{twos, signed}
use Rattle.dwell_checks.proofs.Numbers.{if-there, if-absent}
use Rattle.dwell_checks.proofs.i16_if.Goals as goal

pub get_i16-requires : goal.get_i16-requires
get_i16-requires c = c.requires.2 (sym c.has.ensures ∙ c.if-has.true)

pub returns-then-has : goal.returns-then-has
unfolding signed
returns-then-has c =
    let a = c.args in
    to_z-of_z (sfits_of {w = w16} {z = c.get_i16.result} c.get_i16.type_inv)
    ∙ c.get_i16.ensures
    ∙ ap (twos 2) (if-there a.mask a.n 2 a.at a.b.now (sym c.has.ensures ∙ c.if-has.true) refl)

pub returns-else-has : goal.returns-else-has
unfolding twos
returns-else-has c = let a = c.args in ap (twos 2) (if-absent a.mask a.n 2 a.at a.b.now (sym c.has.ensures ∙ c.if-has.false))
