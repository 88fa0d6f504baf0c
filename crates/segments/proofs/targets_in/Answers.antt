-- `segments::targets_in` meets its contract. The two ways of the test.
-- Assumes nothing.
use borrow.Author.Tests.{eq-eqb, ne_eqb}
use native.Mathlib.Omega.{arith}
use Rattle.format.specs.Rows.{body_rows}
use Rattle.format.proofs.ByType.{rows_as}
use Rattle.format.proofs.Dwells.{is-dwell}
use Rattle.segments.proofs.targets_in.Goals as goal

pub target_count-requires : goal.target_count-requires
unfolding body_rows
target_count-requires c =
    let a = c.args in
    let d = is-dwell a.r a.b.now (rows_as a.r a.b.now a.segment_type 2 c.if-segment_type-eq2.true c.requires.rows) in
    (d.required, d.long)

pub returns-then-segment_type-eq2 : goal.returns-then-segment_type-eq2
returns-then-segment_type-eq2 c = (rw (eq-eqb c.args.segment_type 2 c.if-segment_type-eq2.true) c.target_count.ensures, omega arith)

pub returns-else-segment_type-eq2 : goal.returns-else-segment_type-eq2
returns-else-segment_type-eq2 c = (rw (ne_eqb c.args.segment_type 2 c.if-segment_type-eq2.false), omega arith)
