-- std's search over the characters, where there are any.
use Rattle.std.proofs.Common.{rules, tests, arith, true-eqb, false-eqb, sym, ◌∙◌}
use Rattle.std.specs.Char.{is_ascii_digit}
use Rattle.std.proofs.lemmas.Iterator.{YieldsList-from_slice}
use Rattle.std.proofs.lemmas.Iterator.Search.{all_from_yields_List}
use Rattle.vectors.proofs.Spellings.{number_is, number-none}
use Rattle.vectors.proofs.is_number.Goals as goal

pub returns-then-not-is_empty : goal.returns-then-not-is_empty
returns-then-not-is_empty c =
    let s = c.args.s.now in
    let all = all_from_yields_List is_ascii_digit _ _ c.all.result c.all.ensures.ran (YieldsList-from_slice s cc) (λ x b q k. search (rules, tests)) in
    number_is s all (omega (arith, false-eqb _ 0 (sym c.if-not-is_empty.true ∙ c.is_empty.ensures)))

pub returns-else-not-is_empty : goal.returns-else-not-is_empty
returns-else-not-is_empty c = rw c.if-not-is_empty.false (number-none c.args.s.now (true-eqb _ 0 (sym c.if-not-is_empty.false ∙ c.is_empty.ensures)))
