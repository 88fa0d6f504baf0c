-- `spelling::put_leader` meets its contract. The segment's header, and in the part behind it what the record gives.
-- Assumes nothing.
use Prim.Native.Nat.{◌+◌, ◌≤◌}
use native.Mathlib.Omega.{arith}
use lib.ListN.{length, length-drop}
use Rattle.octets.proofs.Parts.{tail-is, part_filled}
use Rattle.format.specs.Sheet.{Record}
use Rattle.format.specs.Writer.{given}
use Rattle.spelling.specs.InnerSpelling.{record_in}
use Rattle.spelling.proofs.Regrouped.{begun-length}
use Rattle.spelling.proofs.Stored.{lead-given, lead-size, leader-stored}
use Rattle.spelling.proofs.put_leader.Goals as goal
use Rattle.spelling.proofs.put_leader.Goals.{Start}

-- the record
abbrev leader : Start → Record
leader s = record_in s.args.kind s.args.b.now

-- the header and what the record gives have room
room : (s : Start) → 5 + length (given (leader s)) ≤ length s.args.o.now
room s = omega (arith, begun-length (leader s), s.requires.1)

pub overflow_cast-size : goal.overflow_cast-size
overflow_cast-size c =
    omega (arith, c.segment_size-size.ensures.0, lead-size (leader (goal.at.overflow_cast-size c).Start) _ c.lead_of-l.ensures.value, c.requires.0.2)

pub put_head-requires : goal.put_head-requires
put_head-requires c = omega (arith, room (goal.at.put_head-requires c).Start)

pub slice_bounds-put_given-count : goal.slice_bounds-put_given-count
slice_bounds-put_given-count c = omega (arith, room (goal.at.slice_bounds-put_given-count c).Start, c.put_head.auto.o)

pub slice_bounds-put_given-start : goal.slice_bounds-put_given-start
slice_bounds-put_given-start c = omega (arith, room (goal.at.slice_bounds-put_given-start c).Start, c.put_head.auto.o)

pub put_given-requires : goal.put_given-requires
put_given-requires c =
    let h = c.put_head.new.o in
    let n = lead-given (leader (goal.at.put_given-requires c).Start) _ c.lead_of-l.ensures.value in
    (c.requires.0.0, n, rw (tail-is 5 h, length-drop 5 h) (omega (arith, n, room (goal.at.put_given-requires c).Start, c.put_head.auto.o)))

pub returns : goal.returns
returns c =
    let r = leader (goal.at.returns c).Start in
    let e = c.lead_of-l.ensures.value in
    record {
      value = omega (arith, begun-length r, lead-given r _ e);
      o_after = leader-stored r _ e _ c.args.o.now c.segment_size-size.ensures.0 c.put_head.ensures (part_filled c.put_head.new.o (given r) 5 c.put_given.ensures);
    }
