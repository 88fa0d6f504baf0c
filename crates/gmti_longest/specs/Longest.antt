-- What the program writes (document 02, A2).
-- Assumes nothing.
use Rattle.std.specs.Prelude.{ℕ, ◌-◌, ◌*◌, Bool, not, ◌&&◌, cond, List, [], ◌++◌, leb, eqb, length, get_or, take}
use Rattle.format.specs.Samples.{zeros, version3, dwell, d2to9, d24to27, delta_mask}
use Rattle.vectors.specs.Vectors.{is_number, spelt}

-- "at most one line feed after them": the input but for a line feed at its end
unfoldable pub without_line_feed : List ℕ → List ℕ
without_line_feed input = cond (eqb (get_or input (length input - 1) 0) 10) (take (length input - 1) input) input

-- "a k from 1 to 16,362, in digits with no leading zero"
unfoldable pub is_asked : List ℕ → Bool
is_asked digits = is_number digits && not (eqb (get_or digits 0 0) 48) && leb (spelt digits 0) 16362

-- that k; 0 where the input is anything else
unfoldable pub asked : List ℕ → ℕ
asked input = cond (is_asked (without_line_feed input)) (spelt (without_line_feed input) 0) 0

-- "a packet of 88 + 4 × k bytes: one dwell, k delta targets, P1 30, text spaces, else zero but for sizes, type, mask and D5": the mask
-- announces D2 to D11, D24 to D27, D32.4 and D32.5
unfoldable pub delta_packet : ℕ → List ℕ
delta_packet k = version3 (dwell delta_mask (d2to9 k ++ zeros 8 ++ d24to27 0 0 ++ zeros (4 * k)))

-- "(else it writes nothing)"
unfoldable pub written : List ℕ → List ℕ
written input = cond (eqb (asked input) 0) [] (delta_packet (asked input))
