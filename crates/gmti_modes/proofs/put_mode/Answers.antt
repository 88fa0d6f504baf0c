-- `gmti_modes::put_mode` meets its contract. Edition 1, Edition 3, and whether the mode is new.
-- Assumes nothing.
use Rattle.printing.proofs.Lines.{put-join}
use Rattle.gmti_modes.specs.Line.{ascii, mode_text}
use Rattle.gmti_modes.proofs.put_mode.Goals as goal

pub returns : goal.returns
unfolding ascii mode_text
returns c =
    put-join (put-join c.put_edition-p.ensures c.put_edition-q.ensures) c.put_new.ensures
