-- `segments::pair_past` meets its contract. A test is one or zero, as the definition has it.
-- Assumes nothing.
use Prim.Native.Nat.{ℕ, ◌+◌}
use mathlib.Core.Path.{◌≡◌, refl, ap, ◌∙◌}
use mathlib.Core.Bool.{Bool, true, false, cond}
use borrow.Author.Tests.{lt-ltb, le-ltb}
use lib.Dec.{leb, ltb}
use mir.Val.{bool_byte}
use Rattle.std.proofs.lemmas.Bool.{leb-true, leb-false}
use Rattle.segments.specs.InnerWalk.{past_pair}
use Rattle.segments.proofs.pair_past.Goals as goal

rose : (b : Bool) → bool_byte b ≡ cond b 1 0
rose true = refl
rose false = refl

fell : (a b : ℕ) → bool_byte (ltb b a) ≡ cond (leb a b) 0 1
fell a b = go (leb a b) refl
  where
    go : (t : Bool) → leb a b ≡ t → bool_byte (ltb b a) ≡ cond t 0 1
    go true e = rw (le-ltb b a (leb-true a b e))
    go false e = rw (lt-ltb b a (leb-false a b e))

pub returns : goal.returns
unfolding past_pair
returns c =
    let d = c.args.dwells in
    let n = c.from-number.result in
    rw (c.from-risen.ensures ∙ rose (leb d.above n), c.from-fallen.ensures ∙ fell d.above (n + 1))
    (ap (λ (p : ℕ). past_pair d p) c.from-number.ensures)
