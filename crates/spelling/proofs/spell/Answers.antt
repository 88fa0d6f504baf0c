-- `spelling::spell` meets its contract. The header is copied; the loop keeps that what is left to spell, stored, gives the packet.
-- Assumes nothing.
use mathlib.Core.Path.{◌≡◌, sym, ◌∙◌}
use mathlib.Core.List.{[]}
use Prim.Native.Nat.{◌+◌, ◌≤◌}
use native.Mathlib.Omega.{arith}
use lib.ListN.{length, drop, length-drop}
use lib.Seq.{sets}
use Rattle.octets.proofs.Parts.{tail-is}
use Rattle.format.specs.Writer.{listed, spell}
use Rattle.sheet_walk.proofs.Places.{WholeAt, at_place, none-at}
use Rattle.spelling.proofs.Walk.{header, spell-length-is, all_left, packet-stored, adds, has_room, begins-with, then-within, spellable, turned-follower, turned-leader, stored, none_left}
use Rattle.spelling.proofs.spell.Goals as goal
use Rattle.spelling.proofs.spell.Goals.{After-put_next-step, At-loop-kind, In-Whole}

pub copy32-requires : goal.copy32-requires
copy32-requires c =
    omega (arith, (header c.args.x.now c.requires.0).fits, spell-length-is c.args.x.now c.requires.0, c.requires.2)

pub loop-kind-init : goal.loop-kind-init
loop-kind-init c =
    all_left c.args.x.now c.requires.0 _ c.requires.1 (omega (arith, c.copy32.auto.o, c.requires.2))

-- where no record is left
ended : (c : At-loop-kind)
    → (listed (drop c.loop-kind.at c.args.x.now)).records ≡ []
    → c.loop-kind.o ≡ sets c.args.o.now 0 (spell c.args.x.now)
ended c e =
    packet-stored c.args.x.now c.requires.0 c.args.o.now c.copy32.ensures (none_left _ _ _ _ _ _ _ c.loop-kind.invariant e)

pub returns : goal.returns
returns c =
    ended (goal.at.returns c).At-loop-kind (none-at c.args.x.now c.loop-kind.at c.record_at.result c.record_at.ensures c.in_default.not-Whole)

-- the record
here : (t : In-Whole) → WholeAt t.args.x.now t.loop-kind.at t.in-Whole.kind t.in-Whole.end
here t = at_place _ _ t.record_at.ensures t.in-Whole.is

-- its bytes have room
room : (t : In-Whole)
    → let l = t.loop-kind in
    l.to + length (adds _ _ l.o l.at l.to l.begins l.ends l.invariant _ _ (here t)) ≤ length l.o
room t =
    let l = t.loop-kind in
    omega (arith, has_room _ _ _ _ _ _ _ l.invariant _ _ (here t), l.invariant.same)

pub overflow_add-from : goal.overflow_add-from
overflow_add-from c = omega (arith, (here (goal.at.overflow_add-from c).In-Whole).within, (here (goal.at.overflow_add-from c).In-Whole).fits)

pub slice_bounds-put_next-count : goal.slice_bounds-put_next-count
slice_bounds-put_next-count c = c.loop-kind.invariant.leader.within

pub slice_bounds-put_next-start : goal.slice_bounds-put_next-start
slice_bounds-put_next-start c =
    let l = c.loop-kind.invariant.leader in
    omega (arith, l.within, l.fits)

pub slice_bounds-put_next-end : goal.slice_bounds-put_next-end
slice_bounds-put_next-end c =
    let l = c.loop-kind.invariant.leader in
    omega (arith, l.within, l.fits)

pub slice_bounds-put_next-count-in-Whole : goal.slice_bounds-put_next-count-in-Whole
slice_bounds-put_next-count-in-Whole c = omega (arith, (here (goal.at.slice_bounds-put_next-count-in-Whole c).In-Whole).within)

pub slice_bounds-put_next-start-in-Whole : goal.slice_bounds-put_next-start-in-Whole
slice_bounds-put_next-start-in-Whole c = omega (arith, (here (goal.at.slice_bounds-put_next-start-in-Whole c).In-Whole).within, (here (goal.at.slice_bounds-put_next-start-in-Whole c).In-Whole).fits)

pub slice_bounds-put_next-end-in-Whole : goal.slice_bounds-put_next-end-in-Whole
slice_bounds-put_next-end-in-Whole c = omega (arith, (here (goal.at.slice_bounds-put_next-end-in-Whole c).In-Whole).within, (here (goal.at.slice_bounds-put_next-end-in-Whole c).In-Whole).fits)

pub slice_bounds-put_next-count-in-Whole-2 : goal.slice_bounds-put_next-count-in-Whole-2
slice_bounds-put_next-count-in-Whole-2 c = omega (arith, (here (goal.at.slice_bounds-put_next-count-in-Whole-2 c).In-Whole).fits)

pub slice_bounds-put_next-start-in-Whole-2 : goal.slice_bounds-put_next-start-in-Whole-2
slice_bounds-put_next-start-in-Whole-2 c = omega (arith, (here (goal.at.slice_bounds-put_next-start-in-Whole-2 c).In-Whole).fits)

pub slice_bounds-put_next-count-in-Whole-3 : goal.slice_bounds-put_next-count-in-Whole-3
slice_bounds-put_next-count-in-Whole-3 c = omega (arith, room (goal.at.slice_bounds-put_next-count-in-Whole-3 c).In-Whole)

pub slice_bounds-put_next-start-in-Whole-3 : goal.slice_bounds-put_next-start-in-Whole-3
slice_bounds-put_next-start-in-Whole-3 c = omega (arith, room (goal.at.slice_bounds-put_next-start-in-Whole-3 c).In-Whole)

pub put_next-step-requires : goal.put_next-step-requires
put_next-step-requires c =
    let l = c.loop-kind in
    let behind = tail-is c.in-Whole.end c.args.x.now in (
      (spellable _ _ _ _ _ _ _ l.invariant _ _ (here (goal.at.put_next-step-requires c).In-Whole), rw behind (begins-with _ _ _ _ _ _ _ l.invariant _ _ (here (goal.at.put_next-step-requires c).In-Whole))),
      rw (tail-is l.to l.o, length-drop, behind) (omega (arith, room (goal.at.put_next-step-requires c).In-Whole)),
    )

put-long : (p : After-put_next-step) → let l = p.loop-kind in
    p.put_next-step.result.written ≡ length (adds _ _ l.o l.at l.to l.begins l.ends l.invariant _ _ (here (goal.at.After-put_next-step p).In-Whole))
put-long p =
    rw (tail-is p.in-Whole.end p.args.x.now) at p.put_next-step.ensures.read_value.1

put-within : (p : After-put_next-step) → p.in-Whole.end + p.put_next-step.result.read ≤ length p.args.x.now
put-within p =
    let l = p.loop-kind in
    omega (arith, then-within _ _ _ _ _ _ _ l.invariant _ _ (here (goal.at.After-put_next-step p).In-Whole), p.put_next-step.ensures.read_value.0)

pub overflow_add-to : goal.overflow_add-to
overflow_add-to c =
    omega (arith, put-long (goal.at.overflow_add-to c).After-put_next-step, room (goal.at.overflow_add-to c).In-Whole, c.loop-kind.invariant.same, c.copy32.auto.o, c.well_formed)

pub overflow_add-at : goal.overflow_add-at
overflow_add-at c =
    omega (arith, put-within (goal.at.overflow_add-at c).After-put_next-step, c.well_formed)

pub loop-kind-smaller-then-not-is_follower : goal.loop-kind-smaller-then-not-is_follower
loop-kind-smaller-then-not-is_follower c = omega (arith, (here (goal.at.loop-kind-smaller-then-not-is_follower c).In-Whole).within, put-within (goal.at.loop-kind-smaller-then-not-is_follower c).After-put_next-step)

pub loop-kind-preserved-then-not-is_follower : goal.loop-kind-preserved-then-not-is_follower
loop-kind-preserved-then-not-is_follower c =
    let l = c.loop-kind in
    let stored_next = rw (tail-is c.in-Whole.end c.args.x.now) at c.put_next-step.ensures.o_after in
    stored _ _ _ _ _ _ _ l.invariant _ _ (here (goal.at.loop-kind-preserved-then-not-is_follower c).In-Whole) _ _ (put-long (goal.at.loop-kind-preserved-then-not-is_follower c).After-put_next-step) c.put_next-step.ensures.read_value.0 stored_next
    (turned-leader _ _ _ _ _ _ _ l.invariant _ _ (here (goal.at.loop-kind-preserved-then-not-is_follower c).In-Whole) (sym c.is_follower.ensures ∙ c.if-not-is_follower.true))

pub loop-kind-smaller : goal.loop-kind-smaller
loop-kind-smaller c = omega (arith, (here (goal.at.loop-kind-smaller c).In-Whole).within, put-within (goal.at.loop-kind-smaller c).After-put_next-step)

pub loop-kind-preserved : goal.loop-kind-preserved
loop-kind-preserved c =
    let l = c.loop-kind in
    let stored_next = rw (tail-is c.in-Whole.end c.args.x.now) at c.put_next-step.ensures.o_after in
    stored _ _ _ _ _ _ _ l.invariant _ _ (here (goal.at.loop-kind-preserved c).In-Whole) _ _ (put-long (goal.at.loop-kind-preserved c).After-put_next-step) c.put_next-step.ensures.read_value.0 stored_next
    (turned-follower _ _ _ _ _ _ _ l.invariant _ _ (here (goal.at.loop-kind-preserved c).In-Whole) (sym c.is_follower.ensures ∙ c.if-not-is_follower.false))
