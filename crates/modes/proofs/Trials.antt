-- Every trial holds: each is computed.
-- Assumes nothing.
use mathlib.Core.Path.{refl}
use Rattle.octets.specs.Holds.{Holds}
use Rattle.modes.specs.Modes.{system_in, place_from, system_number, lookup}
use Rattle.modes.specs.Trials.{lookups}

pub all-lookups : Holds lookups
unfolding lookups system_in place_from system_number lookup
all-lookups = (refl, (refl, (refl, (refl, (refl, (refl, (refl, (refl, (refl, (refl, (refl, (refl, tt))))))))))))
