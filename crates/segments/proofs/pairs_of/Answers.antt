-- `segments::pairs_of` meets its contract. The loop keeps that the pairs that are left, stored behind those that are, are all; whatever
-- reading the packet is checked by, since the code does not look at it.
-- Assumes nothing.
use Prim.Native.Nat.{ℕ, ◌<◌}
use native.Mathlib.Omega.{arith}
use mathlib.Core.Path.{◌≡◌, refl}
use Rattle.format.specs.Packet.{type_at, size_at}
use Rattle.segments.specs.InnerWalk.{most_dwells}
use Rattle.segments.proofs.Walking.{Dwelling, dwelling}
use Rattle.segments.proofs.Turning.{tail, headed, Turn, turn}
use Rattle.segments.proofs.Gathering.{Gathered, gather-start, gather-dwell, gather-other, gather-end}
use Rattle.segments.proofs.pairs_of.Goals as goal
use Rattle.segments.proofs.pairs_of.Goals.{At-loop-at, In-loop-at, Then-t-eq2, then-t-eq2, else-t-eq2}

pub loop-at-init : goal.loop-at-init
loop-at-init c r e = let a = c.args in gather-start r a.l.now a.o.now e

-- what is gathered at a turn
gathered : (c : At-loop-at) → let a = c.args in Gathered a.r a.l.now a.o.now c.loop-at.o c.loop-at.at c.loop-at.n
gathered c = c.loop-at.invariant c.args.r c.requires.0

-- its segment
here : (c : In-loop-at) (size : ℕ) → let a = c.args in
    size ≡ size_at (tail a.r a.l.now c.loop-at.at) → Turn a.r a.l.now c.loop-at.at (gathered (goal.at.In-loop-at c).At-loop-at).left size
here c size z =
    turn c.args.r c.args.l.now c.loop-at.at (gathered (goal.at.In-loop-at c).At-loop-at).left (omega (arith, c.requires.0.short)) c.loop-at-test.true size z

pub bounds-t-0 : goal.bounds-t-0
bounds-t-0 c = let t = here (goal.at.bounds-t-0 c).In-loop-at _ refl in omega (arith, t.header, t.part)

-- it is a dwell
dwell : (c : Then-t-eq2) → let a = c.args in Dwelling (tail a.r a.l.now c.loop-at.at)
unfolding type_at
dwell c =
    let a = c.args in
    dwelling a.r (tail a.r a.l.now c.loop-at.at) (here (goal.at.Then-t-eq2 c).In-loop-at _ refl).rows c.if-t-eq2.true

pub get_u32-requires : goal.get_u32-requires
get_u32-requires c = let d = dwell (goal.at.get_u32-requires c).Then-t-eq2 in omega (arith, d.long, d.within)

-- so there is room for its pair
room : (c : Then-t-eq2) → c.loop-at.n < most_dwells c.args.l.now
room c =
    omega (arith, (gathered (goal.at.Then-t-eq2 c).At-loop-at).few, (dwell c).long, (here (goal.at.Then-t-eq2 c).In-loop-at _ refl).within)

pub offset_bounds-o-n : goal.offset_bounds-o-n
offset_bounds-o-n c = omega (arith, room (goal.at.offset_bounds-o-n c).Then-t-eq2, c.requires.0.short)

pub bounds-o-n : goal.bounds-o-n
bounds-o-n c =
    omega (arith, room (goal.at.bounds-o-n c).Then-t-eq2, (gathered (goal.at.bounds-o-n c).At-loop-at).same, c.requires.1)

pub overflow_add-n : goal.overflow_add-n
overflow_add-n c = omega (arith, room (goal.at.overflow_add-n c).Then-t-eq2, c.requires.0.short)

pub size_at-at-requires : goal.size_at-at-requires
size_at-at-requires c =
    headed c.args.r c.args.l.now c.loop-at.at (gathered (goal.at.size_at-at-requires c).At-loop-at).left c.loop-at-test.true

pub overflow_add-at : goal.overflow_add-at
overflow_add-at c =
    omega (arith, (here (goal.at.overflow_add-at c).In-loop-at _ c.size_at-at.ensures).within, c.requires.0.short)

pub loop-at-smaller : goal.loop-at-smaller
loop-at-smaller c =
    let t = here (goal.at.loop-at-smaller c).In-loop-at _ c.size_at-at.ensures in
    omega (arith, t.header, t.within)

pub loop-at-preserved : goal.loop-at-preserved
loop-at-preserved c r e =
    let a = c.args in
    let l = a.l.now in
    let g = c.loop-at.invariant r e in
    elim c.if-t-eq2.branch [
      | then-t-eq2 w ↦
          gather-dwell r l a.o.now g (omega (arith, e.short)) c.loop-at-test.true _ c.size_at-at.ensures _ w.if-t-eq2.true w.get_u32.ensures w.o-is w.n-is
      | else-t-eq2 w ↦ gather-other r l a.o.now g (omega (arith, e.short)) c.loop-at-test.true _ c.size_at-at.ensures w.if-t-eq2.false w.o-is w.n-is
    ]

pub shape_of-o : goal.shape_of-o
shape_of-o c = (gathered (goal.at.shape_of-o c).At-loop-at).same

pub returns : goal.returns
returns c =
    let a = c.args in
    let e = gather-end a.r a.l.now a.o.now (gathered (goal.at.returns c).At-loop-at) (omega arith) c.requires.1 in
    record { value = e.0; o_after = e.1 }
