-- What is held lies within b, which keeps its length.
use Rattle.std.proofs.Common.{◌≡◌, length}
use Rattle.lines.specs.Lines.{HeldWithin}
use Rattle.lines.proofs.for_each.Given as goal

abbrev pub invariant-loop : goal.invariant-loop
invariant-loop g l = (length l.b ≡ length l.fn.b) × HeldWithin (length l.b) l.lines
