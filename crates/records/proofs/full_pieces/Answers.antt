-- `records::full_pieces` meets its contract. What is left of the pieces to store, stored where it belongs, gives all of them.
-- Assumes nothing.
use Prim.Native.Nat.{ℕ, ◌*◌}
use mathlib.Core.List.{List, [], ◌∷◌}
use lib.Seq.{sets}
use borrow.Author.Rules.{rules}
use Rattle.format.specs.Sheet.{piece_record, piece_records, record_bytes}
use Rattle.format.specs.Lengths.{record_length}
use Rattle.records.proofs.Laid.{part-laid}
use Rattle.records.proofs.Pieces.{pieces-next, pieces-first, pieces-last}
use Rattle.records.proofs.full_pieces.Goals as goal

pub loop-i-init : goal.loop-i-init
loop-i-init c = let a = c.args in (search rules, search rules, pieces-first a.count a.b.now a.o.now)

pub loop-i-preserved : goal.loop-i-preserved
loop-i-preserved c =
    let a = c.args in
    let l = c.loop-i in (
      search rules,
      search rules,
      pieces-next a.count l.i a.b.now l.o (sets a.o.now 0 (record_bytes (piece_records a.count a.b.now))) (search rules)
          (part-laid (λ (t : List ℕ). record_bytes (piece_record t ∷ [])) a.b.now l.o (l.i * 32) (l.i * record_length 6) c.full_piece.ensures) l.invariant.2,
    )

pub returns : goal.returns
returns c = let a = c.args in let l = c.loop-i in
    pieces-last a.count l.i a.b.now l.o _ (search rules) l.invariant.2
