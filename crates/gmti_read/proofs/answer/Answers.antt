-- `gmti_read::answer` meets its contract: what is printed is of the answer and the sheet that the reading gives.
-- Assumes nothing.
use native.Mathlib.Omega.{arith}
use Prim.Native.Nat.{ℕ}
use mathlib.Core.Path.{ap, ◌∙◌}
use mathlib.Core.List.{List}
use lib.ListN.{length}
use lib.Seq.{sets}
use Rattle.gmti_read.specs.Printed.{printed_of}
use Rattle.gmti_read.proofs.answer.Goals as goal

pub returns : goal.returns
returns c =
    let print = c.print in
    let read = c.read-a in
    let e = ap printed_of read.ensures in
    record {
      value = (print.ensures.value ∙ ap (λ (l : List ℕ). length l) e, omega (arith, print.ensures.upper_bound));
      out_after = print.ensures.o_after ∙ ap (λ (l : List ℕ). sets c.args.out.now 0 l) e;
    }
