-- Scatterers spelt one after another. Inner contracts alone speak of it.
-- Assumes nothing.
use Rattle.std.specs.Prelude.{ℕ, zero, suc, List, [], ◌++◌, drop}
use Rattle.hrr.specs.Hrr.{narrowed}
use Rattle.format.specs.Lengths.{record_length}

-- the bytes of these widths that n scatterers' records from x on give
unfoldable pub narrowed_all : List ℕ → ℕ → List ℕ → List ℕ
narrowed_all ws zero x = []
narrowed_all ws (suc n) x = narrowed ws (drop 1 x) ++ narrowed_all ws n (drop (record_length 12) x)
