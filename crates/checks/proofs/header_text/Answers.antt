-- `checks::header_text` meets its contract. P3, P5 and P8 are the parts that are tested.
-- Assumes nothing.
use Prim.Native.Nat.{ℕ}
use mathlib.Core.Path.{ap, ◌∙◌}
use mathlib.Core.List.{[], ◌∷◌}
use Rattle.format.specs.Rows.{naming, first_row}
use Rattle.octets.specs.Layout.{total, field}
use Rattle.text.specs.Text.{text_fault}
use Rattle.checks.proofs.Fields.{first-is}
use Rattle.checks.proofs.header_text.Goals as goal

pub returns : goal.returns
unfolding text_fault field total
returns c =
    c.naming_row.ensures
    ∙ ap (λ (n : ℕ). first_row (naming 5 n ∷ []))
    (first-is 3 5 8 c.is_line-p3.ensures c.is_line-p5.ensures c.is_line-p8.ensures c.first_failed.ensures)
