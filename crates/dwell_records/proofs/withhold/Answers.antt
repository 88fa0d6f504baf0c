-- `dwell_records::withhold` meets its contract. The zeros go by the test of the older reading.
-- Assumes nothing.
use mathlib.Core.Path.{sym, ◌∙◌}
use Rattle.dwell_records.proofs.withhold.Goals as goal

pub returns-then-is_older : goal.returns-then-is_older
returns-then-is_older c = rw (sym c.is_older.ensures ∙ c.if-is_older.true) c.clear.ensures

pub returns-else-is_older : goal.returns-else-is_older
returns-else-is_older c = rw (sym c.is_older.ensures ∙ c.if-is_older.false)
