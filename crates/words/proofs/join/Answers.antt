-- `words::join` meets its contract. The number is shifted by eight bits for each byte before it, and stays below 256 ^ 8.
-- Assumes nothing.
use mathlib.Core.Path.{ap}
use Prim.Native.Nat.{ℕ, ◌+◌}
use native.Mathlib.Omega.{arith}
use Rattle.words.proofs.Words.{shifted, still-word}
use Rattle.words.proofs.join.Goals as goal

pub overflow_add-result : goal.overflow_add-result
overflow_add-result c =
    let a = c.args in
    omega (arith, shifted a.k a.b c.requires.0 c.requires.2, still-word a.k a.a a.b c.requires.0 c.requires.1 c.requires.2)

pub returns : goal.returns
returns c = ap (λ (n : ℕ). c.args.a + n) (shifted c.args.k c.args.b c.requires.0 c.requires.2)
