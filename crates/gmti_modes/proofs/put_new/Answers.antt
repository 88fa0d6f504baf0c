-- `gmti_modes::put_new` meets its contract.
-- Assumes nothing.
use native.Mathlib.Omega.{arith}
use Rattle.gmti_modes.specs.Line.{ascii}
use Rattle.gmti_modes.proofs.Said.{worded, new-said, not-new-said}
use Rattle.gmti_modes.proofs.put_new.Goals as goal

pub returns-then-is_new_mode : goal.returns-then-is_new_mode
unfolding ascii
returns-then-is_new_mode c =
    let put = c.put_word.ensures in
    worded (new-said c.is_new_mode.ensures c.if-is_new_mode.true) (omega arith) (put.value, put.o_after)

pub returns-else-is_new_mode : goal.returns-else-is_new_mode
unfolding ascii
returns-else-is_new_mode c =
    let put = c.put_word-else-is_new_mode.ensures in
    worded (not-new-said c.is_new_mode.ensures c.if-is_new_mode.false) (omega arith) (put.value, put.o_after)
