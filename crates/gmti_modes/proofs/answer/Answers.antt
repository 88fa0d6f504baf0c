-- `gmti_modes::answer` meets its contract. A line that is no mode's number, and one that is.
-- Assumes nothing.
use native.Mathlib.Omega.{arith}
use Prim.Native.Nat.{ℕ}
use mathlib.Core.Path.{◌≡◌, ◌∙◌}
use lib.ListN.{length, set, length-set}
use Rattle.vectors.proofs.Spellings.{label-laid}
use Rattle.gmti_modes.proofs.Said.{mode-answer, unread-answer, said-laid}
use Rattle.gmti_modes.proofs.answer.Goals as goal
use Rattle.gmti_modes.proofs.answer.Goals.{After-put_mode-q}

pub returns-in_default : goal.returns-in_default
returns-in_default c = rw (unread-answer c.args.line.now c.in_default.ensures) c.put_unread.ensures

-- the buffer keeps its length
kept : (c : After-put_mode-q) → length (set c.put_mode-q.new.o c.put_mode-q.result 10) ≡ length c.args.o.now
kept c = length-set {A = ℕ} c.put_mode-q.new.o c.put_mode-q.result 10 ∙ c.put_mode-q.auto.o ∙ c.put_name-p.auto.o

pub returns : goal.returns
returns c =
    let line = c.args.line.now in
    let laid = said-laid line c.args.o.now (label-laid line c.args.o.now c.put_name-p.ensures.value c.put_name-p.ensures.o_after) c.put_mode-q.ensures in
    let same = mode-answer line c.in-Some.ensures.0 c.in-Some.ensures.1 in
    rw same (record {
      value = (laid.0, omega (arith, kept (goal.at.returns c).After-put_mode-q, c.put_mode-q.ensures.room, c.put_name-p.ensures.value, c.requires));
      o_after = laid.1;
    })
