-- `gmti_modes::put_system` meets its contract. The name, a parenthesis, the number, a parenthesis.
-- Assumes nothing.
use native.Mathlib.Omega.{arith}
use mathlib.Core.Path.{refl, sym}
use borrow.Author.Rules.{rules}
use Rattle.printing.proofs.Digits.{decimal-fits}
use Rattle.printing.proofs.Lines.{put-join}
use Rattle.gmti_modes.specs.Line.{ascii, system_text}
use Rattle.gmti_modes.proofs.Said.{worded}
use Rattle.gmti_modes.proofs.put_system.Goals as goal

pub put_decimal-r-requires : goal.put_decimal-r-requires
put_decimal-r-requires c =
    let short = decimal-fits c.args.system (search rules) in
    omega (arith, short, c.put_word-q.auto.o, c.put_word-q.ensures.value, c.put_word-p.auto.o, c.put_word-p.ensures.value, c.name.ensures.1, c.requires)

pub put_word-requires : goal.put_word-requires
put_word-requires c =
    let short = decimal-fits c.args.system (search rules) in
    omega (arith, short, c.put_decimal-r.auto.o, c.put_decimal-r.ensures.value, c.put_word-q.auto.o, c.put_word-q.ensures.value, c.put_word-p.auto.o, c.put_word-p.ensures.value, c.name.ensures.1, c.requires)

pub returns : goal.returns
unfolding ascii system_text
returns c =
    let short = decimal-fits c.args.system (search rules) in
    let name = c.put_word-p.ensures in
    let word = c.put_word-q.ensures in
    let number = c.put_decimal-r.ensures in
    let end = c.put_word.ensures in
    put-join
    (put-join
    (put-join (worded {most = 11} (sym c.name.ensures.0) (omega (arith, c.name.ensures.1)) (name.value, name.o_after)) (worded {most = 2} refl (omega arith) (word.value, word.o_after)))
    (worded {most = 20} refl short (number.value, number.o_after)))
    (worded {most = 1} refl (omega arith) (end.value, end.o_after))
