-- `vectors::unhex` meets its contract. The loop keeps that the pairs left, stored behind those so far, give the whole.
-- Assumes nothing.
use mathlib.Core.Path.{refl, ap₂, ◌∙◌}
use Prim.Native.Nat.{ℕ, ◌+◌, ◌*◌}
use native.Mathlib.Omega.{arith}
use Rattle.vectors.specs.Vectors.{unhexed}
use Rattle.vectors.proofs.Spellings.{nibble-below, pairs_start, pairs-turn, pairs_end}
use Rattle.vectors.proofs.unhex.Goals as goal

pub loop-i-init : goal.loop-i-init
loop-i-init c = (omega arith, refl, pairs_start _ _ _)

-- each digit of a pair is below 16
pub overflow_mul-o : goal.overflow_mul-o
overflow_mul-o c =
    omega (arith, c.unwrap_or.ensures ∙ c.nibble.ensures.value, nibble-below c.args.s.now (2 * c.loop-i.i) c.requires.s_value (omega arith))

pub overflow_add-o : goal.overflow_add-o
overflow_add-o c = omega (
  arith,
  c.unwrap_or.ensures ∙ c.nibble.ensures.value,
  nibble-below c.args.s.now (2 * c.loop-i.i) c.requires.s_value (omega arith),
  c.unwrap_or-in-loop-i.ensures ∙ c.nibble-in-loop-i.ensures.value,
  nibble-below c.args.s.now (2 * c.loop-i.i + 1) c.requires.s_value (omega arith),
)

pub loop-i-preserved : goal.loop-i-preserved
loop-i-preserved c =
    let a = c.args in
    let l = c.loop-i in (
      omega arith,
      refl,
      pairs-turn a.s.now a.o.now l.o _ l.i (omega arith) l.invariant.2 (ap₂ (λ (x y : ℕ). x * 16 + y) (c.unwrap_or.ensures ∙ c.nibble.ensures.value) (c.unwrap_or-in-loop-i.ensures ∙ c.nibble-in-loop-i.ensures.value)),
    )

pub returns : goal.returns
unfolding unhexed
returns c =
    let a = c.args in
    let l = c.loop-i in
    record { value = (refl, omega (arith, l.invariant.2.same)); o_after = pairs_end a.s.now a.o.now l.o _ l.i (omega arith) l.invariant.2 }
