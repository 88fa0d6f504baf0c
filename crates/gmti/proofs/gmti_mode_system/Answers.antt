-- `gmti::gmti_mode_system` meets its contract: the number and the system of the lookup's answer.
-- Assumes nothing.
use mathlib.Core.Path.{ap, ◌∙◌}
use Rattle.modes.specs.Modes.{number_of, system_of}
use Rattle.gmti.proofs.gmti_mode_system.Goals as goal

pub returns : goal.returns
returns c =
    let found = c.mode_system-l.ensures.0 in
    record { value = c.number_of.ensures ∙ ap number_of found; system_after = c.system_of.ensures ∙ ap system_of found }
