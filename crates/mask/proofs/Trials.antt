-- Every trial of the mask holds: each is computed.
-- Assumes nothing.
use mathlib.Core.Path.{refl}
use Rattle.octets.specs.Holds.{Holds}
use Rattle.mask.specs.Fields.{announced, announced_length, dwell_size}
use Rattle.mask.specs.Mask.{is_required, is_reserved, is_in, any_set, is_gap, is_gap_in, is_doubled, is_fault, first_from, lowest_fault, new_in_mask}
use Rattle.mask.specs.Trials.{trials}

pub all-trials : Holds trials
unfolding trials announced announced_length dwell_size is_required is_reserved is_in any_set is_gap is_gap_in is_doubled is_fault first_from lowest_fault new_in_mask
all-trials = (refl, (refl, (refl, (refl, (refl, (refl, (refl, (refl, (refl, (refl, (refl, (refl, (refl, (refl, (refl, (refl, (refl, (refl, (refl, tt)))))))))))))))))))
