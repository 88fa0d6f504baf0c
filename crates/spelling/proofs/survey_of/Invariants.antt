-- `spelling::survey_of` meets its contract. The loop keeps that what is found from the place on, with what is due and counted there, is
-- what is found of the sheet.
-- Assumes nothing.
use Prim.Native.Nat.{◌-◌}
use lib.ListN.{length}
use Rattle.spelling.proofs.Surveyed.{Walked}
use Rattle.spelling.proofs.survey_of.Given as goal

abbrev pub invariant-loop-kind : goal.invariant-loop-kind
invariant-loop-kind l = Walked l.x l.at l.counted.follower l.counted.left l.counted.sum

abbrev pub decreases-loop-kind : goal.decreases-loop-kind
decreases-loop-kind l = length l.x - l.at
