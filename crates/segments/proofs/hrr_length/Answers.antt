-- `segments::hrr_length` meets its contract. The scatterers are counted as the records count them.
-- Assumes nothing.
use mathlib.Core.Path.{ap}
use native.Mathlib.Omega.{arith}
use Rattle.hrr.specs.declared.Scatterers.{Scatterers}
use Rattle.segments.proofs.hrr_length.Goals as goal

pub returns : goal.returns
returns c = omega (arith, ap (λ (s : Scatterers). s.count) c.scatterers_in-s.ensures.value.0)
