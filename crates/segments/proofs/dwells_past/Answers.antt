-- `segments::dwells_past` meets its contract. The two ways of the test; D2 and D3 stand behind the segment's header and the mask.
-- Assumes nothing.
use mathlib.Core.Path.{ap, ◌∙◌}
use native.Mathlib.Omega.{arith}
use borrow.Author.Tests.{eq-eqb, ne_eqb}
use lib.ListN.{get_or}
use Rattle.format.specs.Packet.{type_at}
use Rattle.format.proofs.Rows.{segment-passes}
use Rattle.segments.specs.InnerWalk.{past_pair, past}
use Rattle.segments.proofs.Walking.{Dwelling, dwelling}
use Rattle.segments.proofs.dwells_past.Goals as goal
use Rattle.segments.proofs.dwells_past.Goals.{Then-l-eq2}

pub bounds-l-0 : goal.bounds-l-0
bounds-l-0 c =
    let g = segment-passes c.args.r c.args.l.now c.requires.0 in
    omega (arith, g.header, g.within)

-- a dwell stands there
here : (c : Then-l-eq2) → Dwelling c.args.l.now
unfolding type_at
here c = dwelling c.args.r c.args.l.now c.requires.0 c.if-l-eq2.true

pub get_u32-requires : goal.get_u32-requires
get_u32-requires c = omega (arith, (here (goal.at.get_u32-requires c).Then-l-eq2).long, (here (goal.at.get_u32-requires c).Then-l-eq2).within)

pub returns-then-l-eq2 : goal.returns-then-l-eq2
unfolding past type_at
returns-then-l-eq2 c =
    let a = c.args in
    rw (eq-eqb (get_or a.l.now 0 0) 2 c.if-l-eq2.true) (c.pair_past.ensures ∙ ap (past_pair a.dwells) (c.get_u32.ensures ∙ (here (goal.at.returns-then-l-eq2 c).Then-l-eq2).number_is))

pub returns-else-l-eq2 : goal.returns-else-l-eq2
unfolding past type_at
returns-else-l-eq2 c = rw (ne_eqb (get_or c.args.l.now 0 0) 2 c.if-l-eq2.false)
