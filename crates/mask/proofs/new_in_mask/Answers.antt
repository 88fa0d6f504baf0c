-- `mask::new_in_mask` meets its contract. A gap in D28-30 by the leading zeros of its word, or else D32.18.
-- Assumes nothing.
use mathlib.Core.Path.{◌≡◌, ap, ◌∙◌}
use mathlib.Core.Bool.{Bool, cond}
use Prim.Native.Nat.{ℕ, ◌≤◌, ◌<◌}
use native.Mathlib.Omega.{arith}
use lib.Count.{leading_le}
use Rattle.mask.specs.Fields.{announced}
use Rattle.mask.specs.Mask.{is_gap, d28to30, new_in_mask}
use Rattle.mask.proofs.Words.{d28-says}
use Rattle.mask.proofs.New.{new-gap, new-last}
use Rattle.mask.proofs.new_in_mask.Goals as goal
use Rattle.mask.proofs.new_in_mask.Goals.{After-gaps-w, After-has}

-- the fields of the word are the gaps in D28-30
word-is : (c : After-gaps-w) (n : ℕ) → 2 ≤ n → n < 66 → announced c.gaps-w.result n ≡ is_gap c.args.mask d28to30 n
word-is c n lo hi = d28-says c.args.mask c.ranges.mask.fits n lo hi c.gaps-w.result (c.gaps-w.ensures n)

-- where it has none, D32.18 decides
last-is : (c : After-has) → cond c.has.result 49 0 ≡ new_in_mask c.args.mask
last-is c =
    ap (λ (b : Bool). cond b 49 0) c.has.ensures
    ∙ new-last c.args.mask c.gaps-w.result (word-is (goal.at.After-has c).After-gaps-w) c.if-w-ne0.false

pub overflow_add-result : goal.overflow_add-result
overflow_add-result c = omega (arith, leading_le 64 c.gaps-w.result)

pub returns-then-w-ne0 : goal.returns-then-w-ne0
returns-then-w-ne0 c = new-gap c.args.mask c.gaps-w.result (word-is (goal.at.returns-then-w-ne0 c).After-gaps-w) c.if-w-ne0.true (omega arith)

pub returns-then-has : goal.returns-then-has
returns-then-has c = rw c.if-has.true at (last-is (goal.at.returns-then-has c).After-has)

pub returns-else-has : goal.returns-else-has
returns-else-has c = rw c.if-has.false at (last-is (goal.at.returns-else-has c).After-has)
