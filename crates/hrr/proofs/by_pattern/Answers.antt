-- `hrr::by_pattern` meets its contract. In each arm the pattern is a number that is known.
-- Assumes nothing.
use mathlib.Core.Path.{refl}
use Rattle.hrr.proofs.by_pattern.Goals as goal

pub returns-in-1000 : goal.returns-in-1000
returns-in-1000 g c = (1000, _, _, rw c.in-1000.is at c.pattern_of-n.ensures.0, rw c.in-1000.is at c.pattern_of-n.ensures.1, refl, c.f.ensures, refl)

pub returns-in-1001 : goal.returns-in-1001
returns-in-1001 g c = (1001, _, _, rw c.in-1001.is at c.pattern_of-n.ensures.0, rw c.in-1001.is at c.pattern_of-n.ensures.1, refl, c.f-in-1001.ensures, refl)

pub returns-in-1010 : goal.returns-in-1010
returns-in-1010 g c = (1010, _, _, rw c.in-1010.is at c.pattern_of-n.ensures.0, rw c.in-1010.is at c.pattern_of-n.ensures.1, refl, c.f-in-1010.ensures, refl)

pub returns-in-1011 : goal.returns-in-1011
returns-in-1011 g c = (1011, _, _, rw c.in-1011.is at c.pattern_of-n.ensures.0, rw c.in-1011.is at c.pattern_of-n.ensures.1, refl, c.f-in-1011.ensures, refl)

pub returns-in-1100 : goal.returns-in-1100
returns-in-1100 g c = (1100, _, _, rw c.in-1100.is at c.pattern_of-n.ensures.0, rw c.in-1100.is at c.pattern_of-n.ensures.1, refl, c.f-in-1100.ensures, refl)

pub returns-in-1101 : goal.returns-in-1101
returns-in-1101 g c = (1101, _, _, rw c.in-1101.is at c.pattern_of-n.ensures.0, rw c.in-1101.is at c.pattern_of-n.ensures.1, refl, c.f-in-1101.ensures, refl)

pub returns-in-1110 : goal.returns-in-1110
returns-in-1110 g c = (1110, _, _, rw c.in-1110.is at c.pattern_of-n.ensures.0, rw c.in-1110.is at c.pattern_of-n.ensures.1, refl, c.f-in-1110.ensures, refl)

pub returns-in-1111 : goal.returns-in-1111
returns-in-1111 g c = (1111, _, _, rw c.in-1111.is at c.pattern_of-n.ensures.0, rw c.in-1111.is at c.pattern_of-n.ensures.1, refl, c.f-in-1111.ensures, refl)

pub returns-in-1200 : goal.returns-in-1200
returns-in-1200 g c = (1200, _, _, rw c.in-1200.is at c.pattern_of-n.ensures.0, rw c.in-1200.is at c.pattern_of-n.ensures.1, refl, c.f-in-1200.ensures, refl)

pub returns-in-1201 : goal.returns-in-1201
returns-in-1201 g c = (1201, _, _, rw c.in-1201.is at c.pattern_of-n.ensures.0, rw c.in-1201.is at c.pattern_of-n.ensures.1, refl, c.f-in-1201.ensures, refl)

pub returns-in-1210 : goal.returns-in-1210
returns-in-1210 g c = (1210, _, _, rw c.in-1210.is at c.pattern_of-n.ensures.0, rw c.in-1210.is at c.pattern_of-n.ensures.1, refl, c.f-in-1210.ensures, refl)

pub returns-in-1211 : goal.returns-in-1211
returns-in-1211 g c = (1211, _, _, rw c.in-1211.is at c.pattern_of-n.ensures.0, rw c.in-1211.is at c.pattern_of-n.ensures.1, refl, c.f-in-1211.ensures, refl)

pub returns-in-2000 : goal.returns-in-2000
returns-in-2000 g c = (2000, _, _, rw c.in-2000.is at c.pattern_of-n.ensures.0, rw c.in-2000.is at c.pattern_of-n.ensures.1, refl, c.f-in-2000.ensures, refl)

pub returns-in-2001 : goal.returns-in-2001
returns-in-2001 g c = (2001, _, _, rw c.in-2001.is at c.pattern_of-n.ensures.0, rw c.in-2001.is at c.pattern_of-n.ensures.1, refl, c.f-in-2001.ensures, refl)

pub returns-in-2010 : goal.returns-in-2010
returns-in-2010 g c = (2010, _, _, rw c.in-2010.is at c.pattern_of-n.ensures.0, rw c.in-2010.is at c.pattern_of-n.ensures.1, refl, c.f-in-2010.ensures, refl)

pub returns-in-2011 : goal.returns-in-2011
returns-in-2011 g c = (2011, _, _, rw c.in-2011.is at c.pattern_of-n.ensures.0, rw c.in-2011.is at c.pattern_of-n.ensures.1, refl, c.f-in-2011.ensures, refl)

pub returns-in-2100 : goal.returns-in-2100
returns-in-2100 g c = (2100, _, _, rw c.in-2100.is at c.pattern_of-n.ensures.0, rw c.in-2100.is at c.pattern_of-n.ensures.1, refl, c.f-in-2100.ensures, refl)

pub returns-in-2101 : goal.returns-in-2101
returns-in-2101 g c = (2101, _, _, rw c.in-2101.is at c.pattern_of-n.ensures.0, rw c.in-2101.is at c.pattern_of-n.ensures.1, refl, c.f-in-2101.ensures, refl)

pub returns-in-2110 : goal.returns-in-2110
returns-in-2110 g c = (2110, _, _, rw c.in-2110.is at c.pattern_of-n.ensures.0, rw c.in-2110.is at c.pattern_of-n.ensures.1, refl, c.f-in-2110.ensures, refl)

pub returns-in-2111 : goal.returns-in-2111
returns-in-2111 g c = (2111, _, _, rw c.in-2111.is at c.pattern_of-n.ensures.0, rw c.in-2111.is at c.pattern_of-n.ensures.1, refl, c.f-in-2111.ensures, refl)

pub returns-in-2200 : goal.returns-in-2200
returns-in-2200 g c = (2200, _, _, rw c.in-2200.is at c.pattern_of-n.ensures.0, rw c.in-2200.is at c.pattern_of-n.ensures.1, refl, c.f-in-2200.ensures, refl)

pub returns-in-2201 : goal.returns-in-2201
returns-in-2201 g c = (2201, _, _, rw c.in-2201.is at c.pattern_of-n.ensures.0, rw c.in-2201.is at c.pattern_of-n.ensures.1, refl, c.f-in-2201.ensures, refl)

pub returns-in-2210 : goal.returns-in-2210
returns-in-2210 g c = (2210, _, _, rw c.in-2210.is at c.pattern_of-n.ensures.0, rw c.in-2210.is at c.pattern_of-n.ensures.1, refl, c.f-in-2210.ensures, refl)

pub returns-in-2211 : goal.returns-in-2211
returns-in-2211 g c = (2211, _, _, rw c.in-2211.is at c.pattern_of-n.ensures.0, rw c.in-2211.is at c.pattern_of-n.ensures.1, refl, c.f-in-2211.ensures, refl)
