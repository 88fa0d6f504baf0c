-- std's search over the characters.
use Rattle.std.proofs.Common.{rules, tests, ltb, ◌∙◌}
use Rattle.std.proofs.lemmas.Iterator.{YieldsList-from_slice}
use Rattle.std.proofs.lemmas.Iterator.Search.{all_from_yields_List}
use Rattle.vectors.specs.Vectors.{nibble}
use Rattle.vectors.proofs.Spellings.{hex-all}
use Rattle.vectors.proofs.is_hex.Goals as goal

pub returns : goal.returns
returns c =
    let s = c.args.s.now in
    let all = all_from_yields_List (λ x. ltb (nibble x) 16) _ _ c.all.result c.all.ensures.ran (YieldsList-from_slice s cc) (λ x b q k. search (rules, tests)) in
    all ∙ hex-all s
