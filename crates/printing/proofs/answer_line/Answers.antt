-- `printing::answer_line` meets its contract. The answer, and the end of its line.
-- Assumes nothing.
use native.Mathlib.Omega.{arith}
use mathlib.Core.Path.{◌∙◌}
use native.Mathlib.Nat.{zero-add}
use Rattle.format.specs.Answer.{answer_of}
use Rattle.printing.specs.Printing.{answer_text, answer_line}
use Rattle.printing.proofs.Lines.{laid-byte}
use Rattle.printing.proofs.answer_line.Goals as goal

pub returns : goal.returns
unfolding answer_line
returns c =
    let e = c.put_answer-p.ensures in
    let h = laid-byte (answer_text (answer_of c.args.a)) c.args.o.now 0 10 (e.value.0, e.o_after) in
    record { value = (h.0 ∙ zero-add _, omega (arith, e.value.1)); o_after = h.1 }
