-- `records::header_record` meets its contract. The kind, and the bytes copied behind it.
-- Assumes nothing.
use mathlib.Core.Path.{◌≡◌, sym, ap, ◌∙◌}
use native.Mathlib.Omega.{arith}
use lib.ListN.{length, take}
use lib.Seq.{sets, take_all, length-take-le}
use Rattle.format.specs.Sheet.{body_length, header_record}
use Rattle.records.proofs.Laid.{record-copied}
use Rattle.records.proofs.header_record.Goals as goal
use Rattle.records.proofs.header_record.Goals.{Start}

-- what is copied has the length of the record's body
long : (s : Start) → length (take (body_length 1) s.args.l.now) ≡ body_length 1
long s = length-take-le (body_length 1) s.args.l.now s.requires.0

pub slice_bounds-copy32-end : goal.slice_bounds-copy32-end
unfolding body_length
slice_bounds-copy32-end c = sym (long (goal.at.slice_bounds-copy32-end c).Start)

pub copy32-requires : goal.copy32-requires
unfolding body_length
copy32-requires c = let e = long (goal.at.copy32-requires c).Start in (omega (arith, e), omega arith)

pub returns : goal.returns
unfolding body_length header_record
returns c =
    let l = c.args.l.now in
    record-copied 1 l c.args.o.now c.requires.0 c.put_byte.ensures
    (c.copy32.ensures ∙ ap (sets c.put_byte.new.o 1) (take_all (body_length 1) (take (body_length 1) l) (omega (arith, long (goal.at.returns c).Start))))
