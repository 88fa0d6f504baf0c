-- `spelling::put_full_pieces` meets its contract. What is left of the pieces' bytes to store, stored where it belongs, gives all of them.
-- Assumes nothing.
use Prim.Native.Nat.{ℕ, ◌+◌, ◌*◌, ◌<◌}
use mathlib.Core.Path.{◌≡◌, refl, ap, ◌∙◌}
use native.Mathlib.Omega.{arith}
use lib.ListN.{take, drop}
use lib.Seq.{sets}
use Rattle.format.specs.Lengths.{record_length}
use Rattle.spelling.proofs.Nexts.{carried-next, carried_first, carried-last}
use Rattle.spelling.proofs.put_full_pieces.Goals as goal

pub loop-i-init : goal.loop-i-init
loop-i-init c = let a = c.args in (refl, carried_first a.count a.rest.now a.o.now)

pub copy32-requires : goal.copy32-requires
copy32-requires c =
    let l = c.loop-i in
    let t : l.i < c.args.count = omega arith in
    (omega (arith, c.requires.0, t), omega (arith, l.invariant.0, c.requires.1, t))

pub loop-i-preserved : goal.loop-i-preserved
loop-i-preserved c =
    let l = c.loop-i in
    let a = c.args in
    let t : l.i < a.count = omega arith in
    let place : l.i * record_length 6 + 1 + 1 ≡ 2 + l.i * record_length 6 = omega arith in
    let stored = c.copy32.ensures ∙ ap (λ (from : ℕ). sets l.o (l.i * 32) (take 32 (drop from a.rest.now))) place in
    (omega (arith, c.copy32.auto.o, l.invariant.0), carried-next a.count l.i a.rest.now l.o _ t c.requires.0 stored l.invariant.1)

pub returns : goal.returns
returns c =
    let l = c.loop-i in
    let a = c.args in
    carried-last a.count l.i a.rest.now l.o _ (omega arith) l.invariant.1
