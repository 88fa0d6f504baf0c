-- `gmti_editions::first_new` meets its contract. The loop keeps that the first new thing of the segments that are left is that of the packet.
-- Assumes nothing.
use Prim.Native.Nat.{◌≤◌}
use native.Mathlib.Omega.{arith}
use mathlib.Core.Path.{sym, ap, ◌∙◌}
use Rattle.format.specs.Check.{check_of}
use lib.ListN.{length}
use Rattle.format.specs.Edition.{as_edition}
use Rattle.format.specs.Reader.{reading_of}
use Rattle.format.proofs.Acceptance.{header-sized}
use Rattle.segments.proofs.Turning.{headed, Turn, turn}
use Rattle.gmti_editions.proofs.Seeking.{looked-at, all-sought, Behind, behind, found_here, sought-on, none_found}
use Rattle.gmti_editions.proofs.first_new.Goals as goal
use Rattle.gmti_editions.proofs.first_new.Goals.{After-size_at-size}

pub loop-at-init : goal.loop-at-init
loop-at-init c = all-sought (as_edition 3) c.args.packet.now c.requires

pub size_at-size-requires : goal.size_at-size-requires
size_at-size-requires c =
    let l = c.args.packet.now in
    headed (reading_of (as_edition 3) l) l c.loop-at.at c.loop-at.invariant.left c.loop-at-test.true

-- the segment of a turn, and those behind it
module _ (c : After-size_at-size) where
  short : length c.args.packet.now ≤ 65536
  short = (header-sized (as_edition 3) c.args.packet.now c.requires.header).short

  here : let l = c.args.packet.now in Turn (reading_of (as_edition 3) l) l c.loop-at.at c.loop-at.invariant.left c.size_at-size.result
  here = let l = c.args.packet.now in turn (reading_of (as_edition 3) l) l c.loop-at.at c.loop-at.invariant.left short c.loop-at-test.true _ c.size_at-size.ensures

  after : let l = c.args.packet.now in Behind (reading_of (as_edition 3) l) l c.loop-at.at c.loop-at.invariant.left c.size_at-size.result
  after = let l = c.args.packet.now in behind (reading_of (as_edition 3) l) l c.loop-at.at c.loop-at.invariant.left _ c.loop-at-test.true c.size_at-size.ensures here

pub bounds-t-0 : goal.bounds-t-0
bounds-t-0 c = let t = here (goal.at.bounds-t-0 c).After-size_at-size in omega (arith, t.header, t.part)

pub slice_bounds-new_row-count : goal.slice_bounds-new_row-count
slice_bounds-new_row-count c = (here (goal.at.slice_bounds-new_row-count c).After-size_at-size).header

pub slice_bounds-new_row-start : goal.slice_bounds-new_row-start
slice_bounds-new_row-start c = omega (arith, (here (goal.at.slice_bounds-new_row-start c).After-size_at-size).header)

pub slice_bounds-new_row-end : goal.slice_bounds-new_row-end
slice_bounds-new_row-end c = (here (goal.at.slice_bounds-new_row-end c).After-size_at-size).part

pub new_row-requires : goal.new_row-requires
new_row-requires c = looked-at _ _ _ (here (goal.at.new_row-requires c).After-size_at-size).checked

pub returns-in-Err : goal.returns-in-Err
returns-in-Err c =
    found_here c.loop-at.invariant (after (goal.at.returns-in-Err c).After-size_at-size) (sym c.new_row.ensures ∙ ap check_of c.in-Err.is)

pub overflow_add-segment : goal.overflow_add-segment
overflow_add-segment c =
    let i = c.loop-at.invariant in
    omega (arith, i.few, i.left.within, short (goal.at.overflow_add-segment c).After-size_at-size)

pub overflow_add-at : goal.overflow_add-at
overflow_add-at c = omega (arith, (here (goal.at.overflow_add-at c).After-size_at-size).within, short (goal.at.overflow_add-at c).After-size_at-size)

pub loop-at-smaller : goal.loop-at-smaller
loop-at-smaller c = let t = here (goal.at.loop-at-smaller c).After-size_at-size in omega (arith, t.header, t.within)

pub loop-at-preserved : goal.loop-at-preserved
loop-at-preserved c =
    sought-on c.loop-at.invariant (after (goal.at.loop-at-preserved c).After-size_at-size) (here (goal.at.loop-at-preserved c).After-size_at-size).header (sym c.new_row.ensures ∙ ap check_of c.in_default.is)

pub returns : goal.returns
returns c = none_found c.loop-at.invariant c.loop-at-test.false
