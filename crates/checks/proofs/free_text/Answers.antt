-- `checks::free_text` meets its contract. F1, F2 and F3 are the parts that are tested.
-- Assumes nothing.
use Prim.Native.Nat.{ℕ}
use mathlib.Core.Path.{ap, ◌∙◌}
use mathlib.Core.List.{[], ◌∷◌}
use Rattle.format.specs.Rows.{naming, first_row}
use Rattle.octets.specs.Layout.{total, field}
use Rattle.text.specs.Text.{text_fault}
use Rattle.checks.proofs.Fields.{first-is}
use Rattle.checks.proofs.free_text.Goals as goal

pub returns : goal.returns
unfolding text_fault field total
returns c =
    c.naming_row.ensures
    ∙ ap (λ (n : ℕ). first_row (naming 10 n ∷ []))
    (first-is 1 2 3 c.is_line-f1.ensures c.is_line-f2.ensures c.is_text-f3.ensures c.first_failed.ensures)
