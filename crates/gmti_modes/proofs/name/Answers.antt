-- Each name is computed.
use Rattle.std.proofs.Common.{◌≡◌, arith, refl}
use Rattle.modes.specs.Tables.{name_of}
use Rattle.gmti_modes.specs.Line.{ascii}
use Rattle.gmti_modes.proofs.name.Goals as goal

pub returns-in-1 : goal.returns-in-1
unfolding ascii name_of
returns-in-1 c = rw c.in-1.is (refl, omega arith)

pub returns-in-2 : goal.returns-in-2
unfolding ascii name_of
returns-in-2 c = rw c.in-2.is (refl, omega arith)

pub returns-in-3 : goal.returns-in-3
unfolding ascii name_of
returns-in-3 c = rw c.in-3.is (refl, omega arith)

pub returns-in-4 : goal.returns-in-4
unfolding ascii name_of
returns-in-4 c = rw c.in-4.is (refl, omega arith)

pub returns-in-5 : goal.returns-in-5
unfolding ascii name_of
returns-in-5 c = rw c.in-5.is (refl, omega arith)

pub returns-in-6 : goal.returns-in-6
unfolding ascii name_of
returns-in-6 c = rw c.in-6.is (refl, omega arith)

pub returns-in-7 : goal.returns-in-7
unfolding ascii name_of
returns-in-7 c = rw c.in-7.is (refl, omega arith)

pub returns-in-8 : goal.returns-in-8
unfolding ascii name_of
returns-in-8 c = rw c.in-8.is (refl, omega arith)

pub returns-in-9 : goal.returns-in-9
unfolding ascii name_of
returns-in-9 c = rw c.in-9.is (refl, omega arith)

pub returns-in-10 : goal.returns-in-10
unfolding ascii name_of
returns-in-10 c = rw c.in-10.is (refl, omega arith)

pub returns-in-11 : goal.returns-in-11
unfolding ascii name_of
returns-in-11 c = rw c.in-11.is (refl, omega arith)

pub returns-in-12 : goal.returns-in-12
unfolding ascii name_of
returns-in-12 c = rw c.in-12.is (refl, omega arith)

pub returns-in_default : goal.returns-in_default
unfolding ascii name_of
returns-in_default c =
    let none : c.args.system ≡ 0 = omega arith in
    rw none (refl, omega arith)
