-- `spelling::put_piece` meets its contract. The bytes that the piece counts, copied.
-- Assumes nothing.
use mathlib.Core.Path.{ap, ◌∙◌}
use Prim.Native.Nat.{ℕ}
use lib.ListN.{take, drop}
use lib.Seq.{sets}
use Rattle.octets.proofs.Parts.{part-is}
use Rattle.spelling.proofs.put_piece.Goals as goal

pub returns : goal.returns
returns c =
    let a = c.args in
    let n = c.from-count in record {
      value = n.ensures;
      o_after =
          c.copy_each.ensures
          ∙ ap (sets a.o.now 0) (part-is a.b.now 1 n.result)
          ∙ ap (λ (k : ℕ). sets a.o.now 0 (take k (drop 1 a.b.now))) n.ensures;
    }
