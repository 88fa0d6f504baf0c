-- `distinct::is_among` meets its contract. The fold keeps whether x is among the numbers so far.
-- Assumes nothing.
use Rattle.std.proofs.Common.{refl, rules}
use Rattle.std.proofs.iter.Yields.{fronts}
use Rattle.std.proofs.lemmas.Fn.{fold_over}
use Rattle.std.proofs.lemmas.Iterator.{YieldsList-from_slice}
use Rattle.distinct.specs.Distinct.{is_among}
use Rattle.distinct.proofs.Turns.{Seen, seen-more}
use Rattle.distinct.proofs.is_among.Goals as goal

pub returns : goal.returns
unfolding is_among
returns c =
    let s = c.args.s.now in
    fold_over fronts (λ y. y.now) _ (Seen c.args.x) _ (λ ys a x b f' j k. (search (rules, seen-more), search rules)) _ s _ _ (YieldsList-from_slice s cc).runs refl c.fold.ensures.ran
