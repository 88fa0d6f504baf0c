-- `records::j26_shown` meets its contract. The byte goes by the test of the older reading.
-- Assumes nothing.
use mathlib.Core.Path.{sym, ◌∙◌}
use Rattle.records.proofs.j26_shown.Goals as goal

pub returns-then-is_older : goal.returns-then-is_older
returns-then-is_older c = rw (sym c.is_older.ensures ∙ c.if-is_older.true)

pub returns-else-is_older : goal.returns-else-is_older
returns-else-is_older c = rw (sym c.is_older.ensures ∙ c.if-is_older.false)
