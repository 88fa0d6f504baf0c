-- `gmti_editions::is_alike` meets its contract. The test of both sheets; behind it each call's equation goes into the next one.
-- Assumes nothing.
use Rattle.gmti_editions.proofs.Cases.{not_alike, alike-by}
use Rattle.gmti_editions.proofs.is_alike.Goals as goal

pub returns-then-not-is_older_sheet : goal.returns-then-not-is_older_sheet
returns-then-not-is_older_sheet c =
    let x = c.args in
    not_alike x.l.now x.counts.segments x.counts.dwells x.counts.targets x.older.now x.newer.now x.buffer.now c.is_older_sheet.ensures c.if-not-is_older_sheet.true

pub returns : goal.returns
returns c =
    let x = c.args in
    alike-by x.l.now x.counts.segments x.counts.dwells x.counts.targets x.older.now x.newer.now x.buffer.now c.is_older_sheet.ensures c.if-not-is_older_sheet.false _ c.fill_for.ensures _ c.write-a.ensures _ c.is_returned.ensures
