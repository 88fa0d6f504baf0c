-- `segments::is_known_type` meets its contract. The ranges of the known types, by the ways of the tests.
-- Assumes nothing.
use native.Mathlib.Omega.{arith}
use borrow.Author.Tests.{le-leb, lt-leb}
use Rattle.segments.proofs.Known.{known_is}
use Rattle.segments.proofs.is_known_type.Goals as goal

pub returns-in-1-to-13 : goal.returns-in-1-to-13
returns-in-1-to-13 c =
    let k = c.args.segment_type in
    rw (known_is k c.ranges.segment_type.fits, le-leb 1 k (omega arith), le-leb k 13 (omega arith))

pub returns-in-1-to-13-2 : goal.returns-in-1-to-13-2
returns-in-1-to-13-2 c =
    let k = c.args.segment_type in
    rw (known_is k c.ranges.segment_type.fits, le-leb 1 k (omega arith), lt-leb k 13 (omega arith), le-leb 101 k (omega arith), le-leb k 102 (omega arith))

pub returns-in_default : goal.returns-in_default
returns-in_default c =
    let k = c.args.segment_type in
    rw (known_is k c.ranges.segment_type.fits, lt-leb 1 k (omega arith), lt-leb 101 k (omega arith))

pub returns-in_default-2 : goal.returns-in_default-2
returns-in_default-2 c =
    let k = c.args.segment_type in
    rw (known_is k c.ranges.segment_type.fits, le-leb 1 k (omega arith), lt-leb k 13 (omega arith), lt-leb 101 k (omega arith))

pub returns-in_default-3 : goal.returns-in_default-3
returns-in_default-3 c =
    let k = c.args.segment_type in
    rw (known_is k c.ranges.segment_type.fits, le-leb 1 k (omega arith), lt-leb k 13 (omega arith), le-leb 101 k (omega arith), lt-leb k 102 (omega arith))
