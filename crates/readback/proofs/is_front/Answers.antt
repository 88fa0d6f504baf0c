-- `readback::is_front` meets its contract. The front of the window is handed on.
-- Assumes nothing.
use Prim.Native.Nat.{ℕ, ◌-◌}
use native.Mathlib.Omega.{arith}
use mathlib.Core.Path.{◌≡◌, ap, ◌∙◌}
use lib.ListN.{length, take}
use Rattle.format.specs.Writer.{is_same}
use Rattle.readback.proofs.is_front.Goals as goal

pub returns : goal.returns
returns c =
    let a = c.args in
    let e : length a.x.now - 0 ≡ length a.x.now = omega arith in
    c.same.ensures ∙ ap (λ (n : ℕ). is_same (take n a.window.now) a.x.now) e
