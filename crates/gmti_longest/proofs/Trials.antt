-- Every trial holds: each is computed.
-- Assumes nothing.
use mathlib.Core.Path.{refl}
use Rattle.octets.specs.Holds.{Holds}
use Rattle.octets.specs.Octets.{bytes}
use Rattle.format.specs.Packet.{segment_bytes}
use Rattle.format.specs.Samples.{packet}
use Rattle.vectors.specs.Vectors.{is_digit, are_digits, is_number, digit_value, with_digit, spelt}
use Rattle.gmti_longest.specs.Longest.{without_line_feed, is_asked, asked, delta_packet, written}
use Rattle.gmti_longest.specs.Trials.{inputs}

pub all-inputs : Holds inputs
unfolding inputs bytes segment_bytes packet is_digit are_digits is_number digit_value with_digit spelt without_line_feed is_asked asked delta_packet written
all-inputs = (refl, (refl, (refl, (refl, (refl, (refl, (refl, (refl, (refl, (refl, (refl, (refl, (refl, (refl, (refl, (refl, tt))))))))))))))))
