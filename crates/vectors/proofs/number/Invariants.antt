-- What is left, spelt behind the number so far, gives the whole.
use Rattle.std.proofs.Common.{◌≡◌, ◌≤◌, drop}
use Rattle.vectors.specs.Vectors.{spelt}
use Rattle.vectors.proofs.number.Given as goal

abbrev pub invariant-loop-c : goal.invariant-loop-c
invariant-loop-c l = (l.n ≤ 4294967296) × (spelt (drop l.c-index l.s) l.n ≡ spelt l.s 0)
