-- `gmti_editions::put_judged` meets its contract. The four verdicts, each with its word and its answer.
-- Assumes nothing.
use Rattle.format.specs.Answer.{answer_of}
use native.Mathlib.Omega.{arith}
use mathlib.Core.Path.{refl}
use mathlib.Core.List.{[], ◌∷◌}
use Rattle.printing.specs.Printing.{answer_text}
use Rattle.printing.proofs.Lines.{laid-join}
use Rattle.gmti_editions.proofs.Said.{not-read, new, alike, broken, under}
use Rattle.gmti_editions.proofs.put_judged.Goals as goal

pub returns-in-NotRead : goal.returns-in-NotRead
returns-in-NotRead c =
    let put = c.put_answer in
    let u = under c.args.o.now c.args.at (not-read (answer_of c.args.j.newer) (answer_of c.args.j.older) c.in-NotRead.is) (omega (arith, put.ensures.value.1)) (put.ensures.value.0, put.ensures.o_after) in
    record { value = u.0; o_after = u.1 }

pub returns-in-New : goal.returns-in-New
returns-in-New c =
    let put = c.put_answer-in-New in
    let u =
    under c.args.o.now c.args.at (new (answer_of c.args.j.newer) (answer_of c.args.j.older) c.in-New.is) (omega (arith, put.ensures.value.1))
    (laid-join (110 ∷ 101 ∷ 119 ∷ 32 ∷ []) (answer_text (answer_of c.args.j.older)) c.args.o.now c.args.at (refl, c.copy_all.ensures) (put.ensures.value.0, put.ensures.o_after)) in
    record { value = u.0; o_after = u.1 }

pub returns-in-Alike : goal.returns-in-Alike
returns-in-Alike c =
    let put = c.put_answer-in-Alike in
    let u =
    under c.args.o.now c.args.at (alike (answer_of c.args.j.newer) (answer_of c.args.j.older) c.in-Alike.is) (omega (arith, put.ensures.value.1))
    (laid-join (97 ∷ 108 ∷ 105 ∷ 107 ∷ 101 ∷ 32 ∷ []) (answer_text (answer_of c.args.j.older)) c.args.o.now c.args.at (refl, c.copy_all-in-Alike.ensures) (put.ensures.value.0, put.ensures.o_after)) in
    record { value = u.0; o_after = u.1 }

pub returns-in-Broken : goal.returns-in-Broken
returns-in-Broken c =
    let u = under c.args.o.now c.args.at (broken (answer_of c.args.j.newer) (answer_of c.args.j.older) c.in-Broken.is) (omega arith) (refl, c.copy_all-in-Broken.ensures) in
    record { value = u.0; o_after = u.1 }
