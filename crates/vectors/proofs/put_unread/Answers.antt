-- The name, the words and the end.
use Rattle.std.proofs.Common.{arith, ap, ◌∙◌, ◌+◌, length, length-set, zero-add, List, ℕ}
use Rattle.std.proofs.lemmas.List.Edits.{sets}
use Rattle.vectors.proofs.Spellings.{label-laid, unread-laid}
use Rattle.vectors.proofs.put_unread.Goals as goal

pub returns : goal.returns
returns c =
    let a = c.args in
    let n = c.put_name-p.ensures in
    let e = c.put_word-q.ensures in
    let w = c.words.ensures.0 in
    let h = unread-laid a.name.now a.o.now a.f (label-laid a.name.now a.o.now n.value n.o_after) (e.value ∙ ap (λ (s : List ℕ). c.put_name-p.result + length s) w, e.o_after ∙ ap (λ (s : List ℕ). sets c.put_name-p.new.o c.put_name-p.result s) w) in
    record { value = (h.0 ∙ zero-add _, rw length-set (omega (arith, c.put_word-q.auto.o, c.put_name-p.auto.o, e.value, c.words.ensures.1, n.value, c.requires))); o_after = h.1 }
