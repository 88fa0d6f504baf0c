-- `sheet_walk::are_scatterers` meets its contract: the fours and the few behind them are all.
-- Assumes nothing.
use mathlib.Core.Path.{◌≡◌, sym, ap, ◌∙◌}
use mathlib.Core.Bool.{true≢false}
use mathlib.Core.List.{List}
use Prim.Native.Nat.{ℕ, ◌+◌, ◌-◌, ◌*◌, ◌/◌, ◌%◌}
use native.Mathlib.Omega.{arith}
use lib.ListN.{length, take, drop}
use Rattle.octets.proofs.Parts.{tail-is}
use Rattle.format.specs.Lengths.{record_length}
use Rattle.sheet_walk.proofs.Runs.{joined, parted}
use Rattle.sheet_walk.proofs.are_scatterers.Goals as goal

-- the fours and the few
all_of : (count : ℕ) → count / 4 * 4 + count % 4 ≡ count
all_of count = omega arith

-- the few are behind the fours
rest : (x : List ℕ) {at to : ℕ} → at ≡ to → take (length x - at) (drop at x) ≡ drop to x
rest x {at} e = tail-is at x ∙ ap (λ (k : ℕ). drop k x) e

pub returns-then-x-count : goal.returns-then-x-count
returns-then-x-count c = (λ e. absurd (true≢false (sym e)), λ b. absurd (omega (arith, b.long, c.if-x-count.true)))

pub returns-then-not-are_fours : goal.returns-then-not-are_fours
returns-then-not-are_fours c =
    let n = c.args.count in (
      λ e. absurd (true≢false (sym e)),
      λ b. absurd (true≢false (sym (c.are_fours.ensures.1 (parted 12 (n / 4 * 4) (n % 4) c.args.x.now (rw (sym (all_of n)) at b)).0) ∙ c.if-not-are_fours.true)),
    )

pub returns : goal.returns
returns c =
    let n = c.args.count in
    let x = c.args.x.now in
    let place : n / 4 * (4 * record_length 12) ≡ n / 4 * 4 * record_length 12 = omega arith in
    let few = c.are_few.ensures in
    let tail = rest x place in (
      λ e. rw (all_of n) at (joined 12 (n / 4 * 4) (n % 4) x (c.are_fours.ensures.0 c.if-not-are_fours.false) (rw tail at (few.0 e))),
      λ b. few.1 (rw tail (parted 12 (n / 4 * 4) (n % 4) x (rw (sym (all_of n)) at b)).1),
    )
