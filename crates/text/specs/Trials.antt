-- Trials of the two sets of text, and of the field that is named.
-- Assumes nothing.
use Rattle.std.specs.Prelude.{◌≡◌, ℕ, true, false, List, [], ◌∷◌, map}
use Rattle.text.specs.Text.{is_line_byte, is_text_byte, one_line, any_text, text_fault}

-- bytes at the ends of the sets
abbrev pub ends : List ℕ
ends = 0x0A ∷ 0x0C ∷ 0x0D ∷ 0x1F ∷ 0x20 ∷ 0x7E ∷ 0x7F ∷ 0x80 ∷ 0xFF ∷ []

-- which of them each set has; bytes near the three control characters; the first field at fault, of one field of 1 byte and one of 2
unfoldable pub trials : List (Type 0)
trials =
    (map is_line_byte ends ≡ false ∷ false ∷ false ∷ false ∷ true ∷ true ∷ false ∷ false ∷ false ∷ [])
    ∷ (map is_text_byte ends ≡ true ∷ true ∷ true ∷ false ∷ true ∷ true ∷ false ∷ false ∷ false ∷ [])
    ∷ (map is_line_byte (0x00 ∷ 0x09 ∷ 0x0B ∷ 0x0E ∷ []) ≡ false ∷ false ∷ false ∷ false ∷ [])
    ∷ (map is_text_byte (0x00 ∷ 0x09 ∷ 0x0B ∷ 0x0E ∷ []) ≡ false ∷ false ∷ false ∷ false ∷ [])
    ∷ (text_fault (1 ∷ 2 ∷ []) (one_line 1 ∷ any_text 2 ∷ []) (0x41 ∷ 0x0A ∷ 0x42 ∷ []) ≡ 0)
    ∷ (text_fault (1 ∷ 2 ∷ []) (one_line 1 ∷ any_text 2 ∷ []) (0x41 ∷ 0x42 ∷ 0x01 ∷ []) ≡ 2)
    ∷ (text_fault (1 ∷ 2 ∷ []) (one_line 1 ∷ any_text 2 ∷ []) (0x0A ∷ 0x42 ∷ 0x01 ∷ []) ≡ 1)
    ∷ []
