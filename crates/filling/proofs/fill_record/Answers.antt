-- `filling::fill_record` meets its contract: D27 in a dwell's record, J26 in a job's, each with its mark, and nothing in any other.
-- Assumes nothing.
use native.Mathlib.Omega.{arith}
use mathlib.Core.Path.{refl, ap}
use Rattle.octets.specs.Layout.{total, field}
use Rattle.format.specs.Sheet.{body_length}
use Rattle.demands.specs.Filled.{dwell_body_widths, job_body_widths, filled_record}
use Rattle.filling.proofs.Bodies.{filled-as, filled_none}
use Rattle.filling.proofs.fill_record.Goals as goal

pub returns-then-kind-eq-KIND : goal.returns-then-kind-eq-KIND
unfolding filled_record body_length total field
returns-then-kind-eq-KIND c =
    filled-as 3 dwell_body_widths 27 32 c.args.older.now c.args.newer.now c.requires.0 c.requires.1 c.if-kind-eq-KIND.true (omega arith) (omega arith) refl refl c.copy.ensures

pub returns-then-kind-eq-KIND-2 : goal.returns-then-kind-eq-KIND-2
unfolding filled_record body_length total field
returns-then-kind-eq-KIND-2 c =
    filled-as 8 job_body_widths 26 29 c.args.older.now c.args.newer.now c.requires.0 c.requires.1 c.if-kind-eq-KIND-2.true (omega arith) (omega arith) refl refl c.copy-then-kind-eq-KIND-2.ensures

pub copy-requires : goal.copy-requires
unfolding body_length
copy-requires c = let k = ap body_length c.if-kind-eq-KIND.true in (omega arith, omega arith)

pub bounds-older-86 : goal.bounds-older-86
unfolding body_length
bounds-older-86 c = omega (arith, ap body_length c.if-kind-eq-KIND.true)

pub copy-requires-then-kind-eq-KIND-2 : goal.copy-requires-then-kind-eq-KIND-2
unfolding body_length
copy-requires-then-kind-eq-KIND-2 c = let k = ap body_length c.if-kind-eq-KIND-2.true in (omega arith, omega arith)

pub bounds-older-68 : goal.bounds-older-68
unfolding body_length
bounds-older-68 c = omega (arith, ap body_length c.if-kind-eq-KIND-2.true)

pub returns-else-kind-eq-KIND-2 : goal.returns-else-kind-eq-KIND-2
unfolding body_length
returns-else-kind-eq-KIND-2 c = filled_none _ _ _ c.if-kind-eq-KIND.false c.if-kind-eq-KIND-2.false
