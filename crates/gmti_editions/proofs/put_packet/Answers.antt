-- `gmti_editions::put_packet` meets its contract. The packet judged is the one that the hex of the line spells.
-- Assumes nothing.
use native.Mathlib.Omega.{arith}
use Prim.Native.Nat.{◌-◌, ◌≤◌}
use mathlib.Core.Path.{◌≡◌, sym, ap, ◌∙◌}
use lib.ListN.{length, take, drop, length-take, length-drop}
use lib.Seq.{length-take-le}
use Rattle.lines.proofs.Search.{before-le}
use Rattle.vectors.specs.Vectors.{unhexed}
use Rattle.gmti_editions.proofs.Said.{hex-from, spelt-front, packet-said}
use Rattle.gmti_editions.proofs.put_packet.Goals as goal
use Rattle.gmti_editions.proofs.put_packet.Goals.{Start}

-- the name ends within the line
within : (c : Start) → c.args.name ≤ length c.args.line.now
within c = omega (arith, c.requires.name_value.0, before-le 58 c.args.line.now)

named : (c : Start) → length (take c.args.name c.args.line.now) ≡ c.args.name
named c = length-take-le c.args.name c.args.line.now (within c)

pub further-hex-requires : goal.further-hex-requires
further-hex-requires c = within (goal.at.further-hex-requires c).Start

pub unhex-n-requires : goal.unhex-n-requires
unhex-n-requires c =
    let line = c.args.line.now in
    let h = c.further-hex.result in
    record {
      s_value = rw (hex-from line c.requires.name_value.0 c.further-hex.ensures.0) c.requires.name_value.1;
      s_in_bounds = omega (arith, length-take (length line - h) (drop h line), length-drop h line, c.requires.line_in_bounds);
    }

pub slice_bounds-judge-end-2 : goal.slice_bounds-judge-end-2
slice_bounds-judge-end-2 c = let u = c.unhex-n in sym (length-take-le u.result u.new.o u.ensures.value.1)

pub slice_bounds-put_line-end : goal.slice_bounds-put_line-end
slice_bounds-put_line-end c = sym (named (goal.at.slice_bounds-put_line-end c).Start)

pub put_line-requires : goal.put_line-requires
put_line-requires c = omega (arith, named (goal.at.put_line-requires c).Start, within (goal.at.put_line-requires c).Start, c.requires.line_in_bounds_2)

pub returns : goal.returns
returns c =
    let line = c.args.line.now in
    let put = c.put_line in
    let judged = c.judge-j in
    let u = c.unhex-n in
    let hex = hex-from line c.requires.name_value.0 c.further-hex.ensures.0 in
    let spelt = spelt-front (take (length line - c.further-hex.result) (drop c.further-hex.result line)) c.args.packet.now u.ensures.value.0 (omega (arith, u.ensures.value.1, u.auto.o)) u.ensures.o_after ∙ ap unhexed hex in
    let said = packet-said line c.args.older.now c.args.newer.now c.args.buffer.now c.requires.name_value.0 spelt judged.ensures.verdict_value judged.ensures.newer_after.0 judged.ensures.newer_after.1 in
    record { value = rw (← said) put.ensures.value; out_after = rw (← said) put.ensures.out_after }
