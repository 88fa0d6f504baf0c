-- `sheet_walk::are_fours` meets its contract: x begins with as many scatterers as were passed.
-- Assumes nothing.
use mathlib.Core.Path.{◌≡◌, sym, ◌∙◌}
use mathlib.Core.Bool.{true≢false}
use mathlib.Core.List.{List}
use Prim.Native.Nat.{ℕ, ◌+◌, ◌-◌, ◌*◌, ◌<◌}
use native.Mathlib.Omega.{arith}
use lib.ListN.{drop}
use Rattle.octets.proofs.Parts.{tail-is}
use Rattle.format.specs.Lengths.{record_length}
use Rattle.sheet_walk.specs.InnerShape.{BeginsWith}
use Rattle.sheet_walk.proofs.Runs.{joined, parted}
use Rattle.sheet_walk.proofs.are_fours.Goals as goal

-- four more after those passed, and the four of a turn among all
one-turn : (x : List ℕ) (i : ℕ) → BeginsWith 12 (i * 4) x → BeginsWith 12 4 (drop (i * (4 * record_length 12)) x) → BeginsWith 12 ((i + 1) * 4) x
one-turn x i w f =
    let place : i * (4 * record_length 12) ≡ i * 4 * record_length 12 = omega arith in
    let all : i * 4 + 4 ≡ (i + 1) * 4 = omega arith in
    rw all at (joined 12 (i * 4) 4 x w (rw place at f))

of-turn : (x : List ℕ) (n i : ℕ) → i < n → BeginsWith 12 (n * 4) x → BeginsWith 12 4 (drop (i * (4 * record_length 12)) x)
of-turn x n i l w =
    let place : i * (4 * record_length 12) ≡ i * 4 * record_length 12 = omega arith in
    let all : n * 4 ≡ i * 4 + (4 + (n - i - 1) * 4) = omega arith in
    rw place (parted 12 4 ((n - i - 1) * 4) (drop (i * 4 * record_length 12) x) (parted 12 (i * 4) (4 + (n - i - 1) * 4) x (rw all at w)).1).0

pub returns-then-not-are_four : goal.returns-then-not-are_four
returns-then-not-are_four c =
    let l = c.loop-i in
    let x = c.args.x.now in (
      λ e. absurd (true≢false (sym e)),
      λ b. absurd (true≢false (sym (c.are_four.ensures.1 (rw (tail-is (l.i * (4 * record_length 12)) x) (of-turn x c.args.n l.i (omega arith) b))) ∙ c.if-not-are_four.true)),
    )

pub loop-i-preserved : goal.loop-i-preserved
loop-i-preserved c =
    let l = c.loop-i in
    let x = c.args.x.now in
    one-turn x l.i l.invariant (rw (tail-is (l.i * (4 * record_length 12)) x) at (c.are_four.ensures.0 c.if-not-are_four.false))
