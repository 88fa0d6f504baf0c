-- Every trial holds: each is computed.
-- Assumes nothing.
use mathlib.Core.Path.{refl}
use Rattle.octets.specs.Holds.{Holds}
use Rattle.format.specs.Edition.{is_new_mode}
use Rattle.modes.specs.Modes.{system_in, place_from, system_number, lookup}
use Rattle.modes.specs.Tables.{name_of}
use Rattle.printing.specs.Printing.{digits, decimal}
use Rattle.vectors.specs.Vectors.{is_digit, are_digits, is_number, digit_value, with_digit, spelt, fault_text, unread_line}
use Rattle.gmti_modes.specs.Line.{ascii, is_mode, system_text, new_text, mode_text, answer_of}
use Rattle.gmti_modes.specs.Trials.{answers}

pub all-answers : Holds answers
unfolding answers is_new_mode system_in place_from system_number lookup name_of digits decimal is_digit are_digits is_number digit_value with_digit spelt fault_text unread_line ascii is_mode system_text new_text mode_text answer_of
all-answers = (refl, (refl, (refl, (refl, (refl, (refl, (refl, (refl, (refl, (refl, tt))))))))))
