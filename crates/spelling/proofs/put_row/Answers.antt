-- `spelling::put_row` meets its contract: scatterers behind a record of kind 11, and pieces behind the others.
-- Assumes nothing.
use mathlib.Core.Path.{sym, ap, subst, ◌∙◌}
use Prim.Native.Nat.{ℕ}
use Rattle.format.specs.Sheet.{body_length}
use Rattle.spelling.specs.InnerSpelling.{record_in, Followed, Put}
use Rattle.spelling.proofs.Nexts.{led-rows}
use Rattle.spelling.proofs.put_row.Goals as goal

pub put_scatterers-requires : goal.put_scatterers-requires
put_scatterers-requires c =
    let e = c.if-kind-eq-KIND.true in
    (c.requires.0 ∙ ap body_length e, subst (λ (k : ℕ). Followed (record_in k c.args.b.now) c.args.rest.now c.args.o.now) e c.requires.2)

pub returns-then-kind-eq-KIND : goal.returns-then-kind-eq-KIND
returns-then-kind-eq-KIND c =
    let put = c.put_scatterers in
    subst (λ (k : ℕ). Put (record_in k c.args.b.now) c.args.rest.now c.args.o.now put.result put.new.o) (sym c.if-kind-eq-KIND.true) put.ensures

pub put_pieces-requires : goal.put_pieces-requires
put_pieces-requires c =
    (c.requires.0, led-rows c.args.kind c.requires.1 c.if-kind-eq-KIND.false, c.requires.2)

pub returns : goal.returns
returns c = c.put_pieces.ensures
