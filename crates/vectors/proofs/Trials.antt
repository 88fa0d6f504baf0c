-- Every trial holds: each is computed.
-- Assumes nothing.
use mathlib.Core.Path.{refl}
use Rattle.octets.specs.Holds.{Holds}
use Rattle.printing.specs.Printing.{digits, decimal, spaced, answer_text}
use Rattle.vectors.specs.Vectors.{is_colon, is_digit, are_digits, is_number, digit_value, with_digit, spelt, number_of, nibble, is_hex, hex_fault, pairs, unhexed, hex_digit, hexed, fault_text, unread_line, vector_line}
use Rattle.vectors.specs.Trials.{spellings}

-- each is computed
pub all-spellings : Holds spellings
unfolding spellings digits decimal spaced answer_text is_colon is_digit are_digits is_number digit_value with_digit spelt number_of nibble is_hex hex_fault pairs unhexed hex_digit hexed fault_text unread_line vector_line
all-spellings = (refl, (refl, (refl, (refl, (refl, (refl, (refl, (refl, (refl, (refl, (refl, (refl, (refl, (refl, (refl, (refl, (refl, (refl, (refl, (refl, (refl, (refl, (refl, (refl, (refl, (refl, (refl, tt)))))))))))))))))))))))))))
