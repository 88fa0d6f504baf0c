-- `copies::copy_each` meets its contract. What is left of s to store, stored where it belongs, gives the whole copy.
-- Assumes nothing.
use borrow.Author.Rules.{rules}
use Rattle.copies.proofs.Copied.{copied_next, copied-first, copied-last}
use Rattle.copies.proofs.copy_each.Goals as goal

pub loop-i-init : goal.loop-i-init
loop-i-init c = search (rules, copied-first)

pub loop-i-preserved : goal.loop-i-preserved
loop-i-preserved c = search (rules, copied_next)

pub returns : goal.returns
returns c = search (rules, copied-last)
