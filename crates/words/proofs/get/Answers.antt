-- `words::get` meets its contract. None, one or two bytes.
-- Assumes nothing.
use mathlib.Core.Path.{◌≡◌, ◌∙◌}
use mathlib.Core.List.{List}
use Prim.Native.Nat.{ℕ}
use borrow.Author.Rules.{rules}
use native.Mathlib.Omega.{arith}
use lib.ListN.{take}
use Rattle.octets.specs.Layout.{pad}
use Rattle.words.specs.InnerWords.{Spells}
use Rattle.words.proofs.Words.{zeros-spelt, byte-spelt, two-spelt}
use Rattle.words.proofs.get.Goals as goal

-- the number of a width that is known
of-known : {w n : ℕ} (r : ℕ) (s : List ℕ) → w ≡ n → Spells n r (take n s) → Spells w r (take w s)
of-known r s e h = rw e h

pub returns-in-1 : goal.returns-in-1
returns-in-1 c =
    let a = c.args in
    of-known _ _ c.in-1.is (byte-spelt _ a.at a.t.now (omega arith) c.from.ensures (omega arith))

pub returns-in-2 : goal.returns-in-2
returns-in-2 c =
    let a = c.args in
    of-known _ _ c.in-2.is (two-spelt _ a.at a.t.now (omega arith) (c.from-in-2.ensures ∙ c.from_le_bytes.ensures) (search rules) (search rules))

pub returns-in_default : goal.returns-in_default
unfolding pad
returns-in_default c =
    let none : c.args.w ≡ 0 = omega (arith, c.in_default) in
    of-known 0 _ none (zeros-spelt 0)
