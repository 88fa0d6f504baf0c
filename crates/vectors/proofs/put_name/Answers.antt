-- The name, and a colon and a space behind it.
use Rattle.vectors.proofs.Spellings.{name-laid}
use Rattle.vectors.proofs.put_name.Goals as goal

pub returns-clause-o_after : goal.returns-clause-o_after
returns-clause-o_after c =
    let p = c.put_word-p.ensures in
    let q = c.put_word.ensures in
    name-laid c.args.name.now c.args.o.now p.value p.o_after q.value q.o_after
