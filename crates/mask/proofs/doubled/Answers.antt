-- `mask::doubled` meets its contract. Both places are announced, or one is not.
-- Assumes nothing.
use Rattle.std.proofs.Common.{sym, ◌∙◌}
use Rattle.mask.proofs.Words.{delta-word}
use Rattle.mask.proofs.Sets.{doubled-yes, doubled-no33, doubled-no34}
use Rattle.mask.proofs.doubled.Goals as goal
use Rattle.mask.proofs.doubled.Goals.{else-has-via-then-has+else-has-2, else-has-via-else-has}

pub returns-then-has-2 : goal.returns-then-has-2
returns-then-has-2 c n lo hi =
    let h33 = sym c.has.ensures ∙ c.if-has.true in
    let h34 = sym c.has-then-has.ensures ∙ c.if-has-2.true in
    c.common.ensures n ∙ doubled-yes 0x6000_0000 c.args.mask n delta-word lo hi h33 h34

pub returns-else-has : goal.returns-else-has
returns-else-has c n lo hi =
    elim c.else-has.branch [
      | else-has-via-then-has+else-has-2 w ↦ doubled-no34 c.args.mask n (sym w.has-then-has.ensures ∙ w.if-has-2.false)
      | else-has-via-else-has w ↦ doubled-no33 c.args.mask n (sym c.has.ensures ∙ w.if-has.false)
    ]
