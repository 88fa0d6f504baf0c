-- `spelling::count` meets its contract: a case of the definition at each return.
-- Assumes nothing.
use native.Mathlib.Omega.{arith}
use mathlib.Core.Path.{sym, ap, ◌∙◌}
use Prim.Native.Nat.{ℕ, ◌-◌}
use Rattle.format.specs.Sheet.{Record}
use Rattle.format.specs.Writer.{Due, due}
use Rattle.spelling.specs.InnerSpelling.{record_in, then_due}
use Rattle.spelling.proofs.Followers.{share-le}
use Rattle.spelling.proofs.Surveyed.{count-other, count-unshared, count-follower, count-misplaced, count-leader}
use Rattle.spelling.proofs.count.Goals as goal
use Rattle.spelling.proofs.count.Goals.{Start}

-- what is due, and the record
abbrev due_in : Start → Due
due_in s = due s.args.before.follower s.args.before.left

abbrev given : Start → Record
given s = record_in s.args.kind s.args.b.now

pub returns-then-kind-before : goal.returns-then-kind-before
returns-then-kind-before c =
    sym (count-other (due_in (goal.at.returns-then-kind-before c).Start) c.args.before.sum (given (goal.at.returns-then-kind-before c).Start) c.if-before-gt0.true c.if-kind-before.true)

pub returns-then-carried-n : goal.returns-then-carried-n
returns-then-carried-n c =
    sym (count-unshared (due_in (goal.at.returns-then-carried-n c).Start) c.args.before.sum (given (goal.at.returns-then-carried-n c).Start) c.if-before-gt0.true (λ e. c.if-carried-n.true (c.carried.ensures ∙ e ∙ sym c.share-n.ensures)))

pub overflow_sub-left : goal.overflow_sub-left
overflow_sub-left c =
    omega (arith, c.share-n.ensures, share-le (due_in (goal.at.overflow_sub-left c).Start) c.if-before-gt0.true)

pub returns-then-before-gt0 : goal.returns-then-before-gt0
returns-then-before-gt0 c =
    let e = c.share-n.ensures in
    ap (λ (m : ℕ). then_due c.args.before.follower (c.args.before.left - m) c.args.before.sum) e
    ∙ sym (count-follower (due_in (goal.at.returns-then-before-gt0 c).Start) c.args.before.sum (given (goal.at.returns-then-before-gt0 c).Start) c.if-before-gt0.true c.if-kind-before.false (sym c.carried.ensures ∙ c.if-carried-n.false ∙ e))

pub returns-then-is_follower : goal.returns-then-is_follower
returns-then-is_follower c =
    sym (count-misplaced (due_in (goal.at.returns-then-is_follower c).Start) c.args.before.sum (given (goal.at.returns-then-is_follower c).Start) (omega arith) (sym c.is_follower.ensures ∙ c.if-is_follower.true))

pub returns : goal.returns
returns c =
    let leads = sym c.is_follower.ensures ∙ c.if-is_follower.false in
    count-leader (due_in (goal.at.returns c).Start) c.args.before.sum (given (goal.at.returns c).Start) (omega arith) leads _ _ c.lead_of-l.ensures.value (omega (arith, c.capped-sum.ensures, c.segment_size.ensures.0))
