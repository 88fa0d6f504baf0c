-- `gmti_editions::answer` meets its contract. A line that something is wrong with, and one with a packet.
-- Assumes nothing.
use native.Mathlib.Omega.{arith}
use mathlib.Core.Path.{◌≡◌, sym, ◌∙◌}
use lib.ListN.{length, take}
use lib.Seq.{length-take-le}
use Rattle.lines.specs.Lines.{before}
use Rattle.gmti_editions.proofs.Said.{fault-none, nothing_said, fault-said}
use Rattle.gmti_editions.proofs.answer.Goals as goal
use Rattle.gmti_editions.proofs.answer.Goals.{After-find-name}

-- the name ends within the line
named : (c : After-find-name) → length (take c.find-name.result c.args.line.now) ≡ c.find-name.result
named c = length-take-le c.find-name.result c.args.line.now c.find-name.ensures.lower_bound.1

found : (c : After-find-name) → c.find-name.result ≡ before 58 c.args.line.now
found c = omega (arith, c.find-name.ensures.value)

pub slice_bounds-put_unread-end : goal.slice_bounds-put_unread-end
slice_bounds-put_unread-end c = sym (named (goal.at.slice_bounds-put_unread-end c).After-find-name)

pub put_unread-requires : goal.put_unread-requires
put_unread-requires c = omega (arith, named (goal.at.put_unread-requires c).After-find-name, c.find-name.ensures.lower_bound.1, c.requires.line_in_bounds_2)

pub returns-in-Err : goal.returns-in-Err
returns-in-Err c =
    let put = c.put_unread in
    let said = fault-said c.args.line.now c.args.older.now c.args.newer.now c.args.buffer.now c.fault.ensures (found (goal.at.returns-in-Err c).After-find-name) c.in-Err.is in
    record { value = rw said put.ensures.value; out_after = rw said put.ensures.o_after }

pub put_packet-requires : goal.put_packet-requires
put_packet-requires c =
    record {
      name_value = (found (goal.at.put_packet-requires c).After-find-name, fault-none c.args.line.now (sym c.fault.ensures ∙ c.in-Ok.is));
      line_in_bounds = c.requires.line_in_bounds;
      older_len = c.requires.older_len;
      line_in_bounds_2 = c.requires.line_in_bounds_2;
    }

pub returns-in-Ok : goal.returns-in-Ok
returns-in-Ok c =
    let put = c.put_packet in
    let said = nothing_said c.args.line.now c.args.older.now c.args.newer.now c.args.buffer.now c.fault.ensures c.in-Ok.is in
    record { value = rw said put.ensures.value; out_after = rw said put.ensures.out_after }
