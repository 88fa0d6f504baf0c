-- The tests in their order, of the input without a line feed at its end.
use Rattle.std.proofs.Common.{sym, ◌∙◌, arith}
use Rattle.gmti_longest.proofs.Inputs.{asked-none, asked-missing, asked-some, asked-outside}
use Rattle.gmti_longest.proofs.asked.Goals as goal

pub returns-then-starts_with : goal.returns-then-starts_with
returns-then-starts_with c =
    asked-none c.args.input.now c.without_line_feed-word.ensures (sym c.starts_with.ensures.value ∙ c.if-starts_with.true)

pub returns-in_err-k : goal.returns-in_err-k
returns-in_err-k c =
    rw c.from_residual.ensures (asked-missing c.args.input.now c.without_line_feed-word.ensures (sym c.number_of.ensures ∙ c.in_err-k.was))

pub returns-then-k-le-MOST : goal.returns-then-k-le-MOST
returns-then-k-le-MOST c =
    (asked-some c.args.input.now c.without_line_feed-word.ensures (sym c.starts_with.ensures.value ∙ c.if-starts_with.false) (sym c.number_of.ensures ∙ c.in_ok-k.was) (omega arith), (omega arith, omega arith))

pub returns-else-k-ge1 : goal.returns-else-k-ge1
returns-else-k-ge1 c =
    asked-outside c.args.input.now c.without_line_feed-word.ensures (sym c.starts_with.ensures.value ∙ c.if-starts_with.false) (sym c.number_of.ensures ∙ c.in_ok-k.was) c.else-k-ge1.either
