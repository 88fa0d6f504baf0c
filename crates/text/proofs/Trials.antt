-- Every trial of text holds: each is computed.
-- Assumes nothing.
use Rattle.std.proofs.Common.{refl}
use Rattle.octets.specs.Holds.{Holds}
use Rattle.octets.specs.Layout.{total, field}
use Rattle.text.specs.Text.{is_line_byte, is_text_byte, all, text_fault}
use Rattle.text.specs.Trials.{trials}

pub all-trials : Holds trials
unfolding trials is_line_byte is_text_byte all text_fault field total
all-trials = (refl, (refl, (refl, (refl, (refl, (refl, (refl, tt)))))))
