-- A word of one letter is known by the letter.
use Rattle.std.proofs.Common.{arith}
use Rattle.gmti_sheet.proofs.Words.{other_length, names-1, names-3, names-none}
use Rattle.gmti_sheet.proofs.edition_of.Goals as goal

pub returns-in-49 : goal.returns-in-49
returns-in-49 c = names-1 c.args.word.now (omega arith) (omega arith)

pub returns-in-51 : goal.returns-in-51
returns-in-51 c = names-3 c.args.word.now (omega arith) (λ e. omega (arith, e)) (omega arith)

pub returns-in_default : goal.returns-in_default
returns-in_default c = other_length c.args.word.now (λ e. omega (arith, e))

pub returns-in_default-2 : goal.returns-in_default-2
returns-in_default-2 c = names-none c.args.word.now (omega arith) (λ e. omega (arith, e)) (λ e. omega (arith, e))

pub returns-in_default-3 : goal.returns-in_default-3
returns-in_default-3 c = other_length c.args.word.now (λ e. omega (arith, e))
