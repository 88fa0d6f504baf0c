-- `position::latitude_sum` meets its contract. Each number of the sum fits 64 bits, so each trip through the bits is undone by `to_z-of_z`.
-- Assumes nothing.
use Rattle.std.proofs.Common.{◌^◌, ◌≤◌, nat_abs, ap, arith}
use mir.Syntax.{w16}
use mir.Facts.{to_z-of_z}
use Rattle.position.specs.Position.{latitude_sum}
use Rattle.position.proofs.Size.{size-of}
use Rattle.position.proofs.Sums.{sum_fits}
use Rattle.position.proofs.latitude_sum.Goals as goal

pub returns : goal.returns
returns c =
    let a = c.args in
    let d = c.from.result in
    let f = c.ranges.delta in
    let e = simp to_z-of_z at c.from.ensures in
    let size : nat_abs d ≤ 2 ^ 15 = rw e (size-of {w = w16} f) in
    let (d64, s64, f64, p64, t64, t) = sum_fits d a.scale.0 a.from.0 size (omega arith) (omega arith) in
    simp to_z-of_z (ap (λ x. latitude_sum x a.scale.0 a.from.0) e)
