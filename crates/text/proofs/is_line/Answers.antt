-- `text::is_line` meets its contract. The fold keeps the highest rank, which tells of the bytes so far.
-- Assumes nothing.
use Rattle.std.proofs.Common.{refl, rules}
use Rattle.std.proofs.iter.Yields.{fronts}
use Rattle.std.proofs.lemmas.Fn.{fold_over}
use Rattle.std.proofs.lemmas.Iterator.{YieldsList-from_slice}
use Rattle.text.specs.Text.{is_line_byte, all}
use Rattle.text.proofs.Bytes.{Told, told-more}
use Rattle.text.proofs.is_line.Goals as goal

pub returns : goal.returns
unfolding all
returns c =
    let s = c.args.s.now in
    fold_over fronts (λ y. y.now) _ (Told is_line_byte 94) _ (λ ys a x b f' j k. (search (rules, told-more), refl)) _ s _ _ (YieldsList-from_slice s cc).runs refl c.fold.ensures.ran
