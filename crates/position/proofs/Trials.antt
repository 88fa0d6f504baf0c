-- Every trial of positions holds: each is computed.
-- Assumes nothing.
use mathlib.Core.Path.{refl}
use Rattle.octets.specs.Holds.{Holds}
use Rattle.octets.specs.Octets.{twos}
use Rattle.position.specs.Position.{is_latitude, latitude_micro, longitude_sum, longitude_micro, reduced, nearest, rounded, full_circle}
use Rattle.position.specs.Trials.{marked, signed_delta}

pub all-marked : Holds marked
unfolding marked twos is_latitude latitude_micro longitude_micro nearest rounded full_circle
all-marked = (refl, (refl, (refl, (refl, (refl, (refl, (refl, (refl, (refl, (refl, (refl, tt)))))))))))

pub all-signed_delta : Holds signed_delta
unfolding signed_delta twos longitude_sum longitude_micro reduced nearest full_circle
all-signed_delta = (refl, (refl, (refl, (refl, tt))))
