-- `gmti_modes::put_edition` meets its contract. The words, and the system that the lookup has.
-- Assumes nothing.
use native.Mathlib.Omega.{arith}
use mathlib.Core.Path.{refl, ap, ◌∙◌}
use Rattle.modes.specs.Modes.{system_of}
use Rattle.printing.proofs.Lines.{put-join}
use Rattle.gmti_modes.proofs.Said.{worded, under}
use Rattle.gmti_modes.proofs.put_edition.Goals as goal

pub put_system-requires : goal.put_system-requires
put_system-requires c =
    (omega (arith, c.system_of-system.ensures, c.mode_system.ensures.1), omega (arith, c.put_word-p.auto.o, c.put_word-p.ensures.value, c.requires))

pub returns : goal.returns
returns c =
    let found = c.system_of-system.ensures ∙ ap system_of c.mode_system.ensures.0 in
    let put = c.put_word-p.ensures in
    put-join (worded {text = c.args.words.now} {most = 12} refl c.requires.0 (put.value, put.o_after)) (under found c.put_system.ensures)
