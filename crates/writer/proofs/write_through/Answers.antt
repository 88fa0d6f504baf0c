-- `writer::write_through` meets its contract. What is spelt stands at the front of the array, and is read back from there.
-- Assumes nothing.
use native.Mathlib.Omega.{arith}
use mathlib.Core.Path.{◌≡◌, refl, sym, ap, ◌∙◌}
use lib.ListN.{take}
use lib.Seq.{length-take-le}
use Rattle.std.specs.Prelude.{Err}
use Rattle.std.proofs.lemmas.Result.{err_from_is_err_and}
use Rattle.format.specs.Answer.{answer_of}
use Rattle.format.specs.Writer.{spell, sheet_answer}
use Rattle.writer.proofs.WriterRows.{row-19-back, front-back, settled-refused, settled-placed, placed-short, placed-laid}
use Rattle.writer.proofs.write_through.Goals as goal
use Rattle.writer.proofs.write_through.Goals.{After-spell, After-read_back}

-- the front of the array is what x spells
spelt_is : (c : After-spell) → take c.args.n c.spell.new.o ≡ spell c.args.x.now
spelt_is c =
    front-back (spell c.args.x.now) c.args.spelt.now _ c.args.n c.requires.0.length_is (omega (arith, c.requires.0.length_is, c.requires.2)) c.spell.ensures

-- the answer is the writer's
answered : (c : After-read_back) → answer_of c.read_back.result ≡ sheet_answer c.args.x.now
answered c = c.read_back.ensures ∙ row-19-back c.args.x.now c.requires.0.shaped (omega (arith, c.requires.0.length_is, c.requires.1))

pub slice_bounds-packet-end-2 : goal.slice_bounds-packet-end-2
slice_bounds-packet-end-2 c =
    sym (length-take-le c.args.n c.spell.new.o (omega (arith, c.spell.auto, c.requires)))

pub read_back-requires : goal.read_back-requires
read_back-requires c = spelt_is (goal.at.read_back-requires c).After-spell

pub returns-in_err-counts : goal.returns-in_err-counts
returns-in_err-counts c =
    let (f, p, e) = err_from_is_err_and c.from_residual.result c.from_residual.ensures.1 in
    let found = ap answer_of (sym c.in_err-counts.was) ∙ answered (goal.at.returns-in_err-counts c).After-read_back in
    settled-refused c.args.x.now c.args.o.now _ _ _ _ (ap answer_of (p ∙ ap Err e)) found

pub returns-then-packet-o : goal.returns-then-packet-o
returns-then-packet-o c =
    let found = ap answer_of (sym c.in_ok-counts.was) ∙ answered (goal.at.returns-then-packet-o c).After-read_back in
    settled-placed c.args.x.now c.args.o.now _ _ _ found (spelt_is (goal.at.returns-then-packet-o c).After-spell)
    (placed-laid _ _ c.args.o.now _ _ _ _ _ refl c.if-packet-o.true c.copy_each.ensures)

pub returns-else-packet-o : goal.returns-else-packet-o
returns-else-packet-o c =
    let found = ap answer_of (sym c.in_ok-counts.was) ∙ answered (goal.at.returns-else-packet-o c).After-read_back in
    settled-placed c.args.x.now c.args.o.now _ _ _ found (spelt_is (goal.at.returns-else-packet-o c).After-spell)
    (placed-short _ _ c.args.o.now _ _ _ _ refl c.if-packet-o.false)
