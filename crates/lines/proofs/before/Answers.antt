-- What std's search says of the byte.
use Rattle.std.proofs.Common.{rules, tests, eqb, ◌∙◌, arith}
use Rattle.std.proofs.lemmas.Iterator.{YieldsList-from_slice}
use Rattle.std.proofs.lemmas.Iterator.Search.{position_from_yields_List}
use Rattle.lines.proofs.Search.{before-le, before-found}
use Rattle.lines.proofs.before.Goals as goal

pub returns : goal.returns
returns c =
    let s = c.args.s.now in
    let found = position_from_yields_List (λ x. eqb x c.args.b) _ _ c.position.result c.position.ensures.ran (YieldsList-from_slice s cc) (λ x b q k. search (rules, tests)) in
    let here = before-found c.args.b s found in
    (c.unwrap_or.ensures ∙ here, omega (arith, c.unwrap_or.ensures, here, before-le c.args.b s))
