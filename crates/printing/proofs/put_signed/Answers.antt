-- `printing::put_signed` meets its contract. The sign and the digits behind it, or the digits alone.
-- Assumes nothing.
use native.Mathlib.Omega.{arith}
use mathlib.Core.Path.{◌≡◌, ap, ◌∙◌}
use lib.IntN.{nat_abs}
use lib.ListN.{length-set}
use mir.Syntax.{w32}
use mir.Val.{to_z, of_z}
use mir.Facts.{to_z-of_z}
use Rattle.printing.proofs.Signs.{Counted, counted, Plain, plain, put-sign, put-plain}
use Rattle.printing.proofs.put_signed.Goals as goal
use Rattle.printing.proofs.put_signed.Goals.{Else-z-lt0, Start, Then-z-lt0}

back : (c : Start) → to_z w32 (of_z w32 c.args.z) ≡ c.args.z
back c = to_z-of_z c.ranges.z

-- where the number is negative, and where it is not
known : (c : Then-z-lt0) → Counted c.args.z
known c = counted c.args.z c.ranges.z (rw (back (goal.at.Then-z-lt0 c).Start) at c.if-z-lt0.true)

other : (c : Else-z-lt0) → Plain c.args.z
other c = plain c.args.z c.ranges.z (rw (back (goal.at.Else-z-lt0 c).Start) at c.if-z-lt0.false)

pub put_decimal-requires : goal.put_decimal-requires
put_decimal-requires c =
    rw (c.unsigned_abs.ensures.value, back (goal.at.put_decimal-requires c).Start, length-set) (omega (arith, c.requires, (known (goal.at.put_decimal-requires c).Then-z-lt0).fits))

pub returns-then-z-lt0 : goal.returns-then-z-lt0
returns-then-z-lt0 c =
    let e = c.put_decimal.ensures in
    let digits = c.unsigned_abs.ensures.value ∙ ap nat_abs (back (goal.at.returns-then-z-lt0 c).Start) in
    put-sign _ _ _ (known (goal.at.returns-then-z-lt0 c).Then-z-lt0) (rw digits at e.value, rw digits at e.o_after)

pub overflow_cast-z : goal.overflow_cast-z
overflow_cast-z c = rw (back (goal.at.overflow_cast-z c).Start) (other (goal.at.overflow_cast-z c).Else-z-lt0).not_neg

pub put_decimal-requires-else-z-lt0 : goal.put_decimal-requires-else-z-lt0
put_decimal-requires-else-z-lt0 c = rw (back (goal.at.put_decimal-requires-else-z-lt0 c).Start) (omega (arith, c.requires, (other (goal.at.put_decimal-requires-else-z-lt0 c).Else-z-lt0).fits))

pub returns-else-z-lt0 : goal.returns-else-z-lt0
returns-else-z-lt0 c =
    let e = c.put_decimal-else-z-lt0.ensures in
    let same = back (goal.at.returns-else-z-lt0 c).Start in
    put-plain _ _ _ (other (goal.at.returns-else-z-lt0 c).Else-z-lt0) (rw same at e.value, rw same at e.o_after)
