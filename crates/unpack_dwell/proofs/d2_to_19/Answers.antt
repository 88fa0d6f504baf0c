-- `unpack_dwell::d2_to_19` meets its contract. Each range is laid out where the one before it ends.
-- Assumes nothing.
use mathlib.Core.Path.{◌≡◌, ◌∙◌}
use mathlib.Core.List.{List, ◌++◌}
use native.Mathlib.Omega.{arith}
use Prim.Native.Nat.{ℕ, ◌+◌}
use lib.ListN.{length}
use Rattle.octets.specs.Layout.{total}
use Rattle.unpack.specs.declared.Cursor.{Cursor}
use Rattle.unpack.specs.InnerLaid.{Moved}
use Rattle.unpack.proofs.Lines.{onward, ending}
use Rattle.unpack_dwell.proofs.d2_to_19.Goals as goal

-- i is where the first fields end, and k is where those behind them do
onward_at : {n i k : ℕ} {us vs : List ℕ} {u v w : Cursor} → Moved n us u v → i ≡ v.q
    → Moved (n + length us) vs (record { s = v.s; p = v.p; mask = v.mask; o = v.o; q = i }) w → k ≡ w.q
    → Moved n (us ++ vs) u (record { s = w.s; p = w.p; mask = w.mask; o = w.o; q = k })
onward_at f e g j = let h = onward f (rw e at g) in ending (j ∙ h.behind) h

pub returns : goal.returns
unfolding total
returns c = onward_at (onward c.d2_to_9.ensures c.d10_to_14.ensures) (omega arith) c.d15_to_19.ensures (omega arith)
