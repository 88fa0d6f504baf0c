-- `readback::same` meets its contract: 0 where the bytes passed so far are equal.
-- Assumes nothing.
use native.Mathlib.Omega.{arith}
use mathlib.Core.Path.{refl, sym, ap, ap₂, ◌∙◌}
use mathlib.Core.Bool.{Bool, cond}
use mathlib.Core.List.{List}
use Prim.Native.Nat.{ℕ}
use lib.Bits.{bit_or}
use lib.Dec.{eqb}
use lib.ListN.{length, get_or, take}
use lib.Seq.{take_all}
use Rattle.format.specs.Writer.{is_same}
use Rattle.format.proofs.Sameness.{same_not, same_more}
use Rattle.sheet_walk.proofs.Gathered.{or_is, is_zero}
use Rattle.readback.proofs.same.Goals as goal

pub returns-then-a-b : goal.returns-then-a-b
returns-then-a-b c = let a = c.args in sym (same_not a.a.now a.b.now (λ e. c.if-a-b.true (ap length e)))

pub loop-i-init : goal.loop-i-init
unfolding is_same
loop-i-init c = (refl, c.if-a-b.false, omega arith, refl)

pub loop-i-preserved : goal.loop-i-preserved
loop-i-preserved c =
    let s = c.args in
    let l = c.loop-i in
    let t = c.loop-i-test.true in (
      l.invariant.0,
      l.invariant.1,
      omega (arith, l.invariant.0, t),
      ap₂ bit_or l.invariant.3 c.differs-seen.ensures
          ∙ or_is (is_same (take l.i s.a.now) (take l.i s.b.now)) (eqb (get_or s.a.now l.i 0) (get_or s.b.now l.i 0))
          ∙ ap (λ (t : Bool). cond t 0 1) (sym (same_more s.a.now s.b.now l.i (omega (arith, l.invariant.0, t)) (omega (arith, l.invariant.0, l.invariant.1, t)))),
    )

pub returns : goal.returns
returns c =
    let s = c.args in
    let l = c.loop-i in
    let d = c.loop-i-test.false in
    ap (λ (k : ℕ). eqb k 0) l.invariant.3 ∙ is_zero (is_same (take l.i s.a.now) (take l.i s.b.now))
    ∙ ap₂ (λ (x y : List ℕ). is_same x y) (take_all l.i s.a.now (omega (arith, l.invariant.0, d))) (take_all l.i s.b.now (omega (arith, l.invariant.0, l.invariant.1, d)))
