-- What the number is, if there is one.
use mathlib.Core.Path.{◌≡◌}
use Rattle.std.proofs.Common.{ℕ, ◌<◌, Result, OkIff, sym, ◌∙◌, arith}
use Rattle.gmti_modes.proofs.Said.{mode-found, mode_missing}
use Rattle.gmti_modes.proofs.mode_of.Goals as goal

-- where it is the number that is tried
tried : {E : Type 0} (q : Result ℕ E) {m n : ℕ} → OkIff q (m < 256) m → m ≡ n → OkIff q (n < 256) n
tried q h e = rw e at h

pub returns : goal.returns
returns c =
    mode-found c.args.line.now c.try_from.result (sym c.number_of.ensures ∙ c.in_ok-n.was) (tried c.try_from.result c.try_from.ensures (grind arith)) c.ok.ensures.value

pub returns-in_err-n : goal.returns-in_err-n
returns-in_err-n c = rw c.from_residual.ensures (mode_missing c.args.line.now (sym c.number_of.ensures ∙ c.in_err-n.was))
