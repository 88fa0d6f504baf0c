-- `spelling::spell` meets its contract. The header is copied; the loop keeps that what is left to spell, stored, gives the packet.
-- Assumes nothing.
use Prim.Native.Nat.{◌-◌}
use lib.ListN.{length}
use Rattle.spelling.proofs.Walk.{Left}
use Rattle.spelling.proofs.spell.Given as goal

abbrev pub invariant-loop-kind : goal.invariant-loop-kind
invariant-loop-kind l = Left l.x l.initial.o l.o l.at l.to l.begins l.ends

abbrev pub decreases-loop-kind : goal.decreases-loop-kind
decreases-loop-kind l = length l.x - l.at
