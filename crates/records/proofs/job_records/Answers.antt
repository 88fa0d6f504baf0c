-- `records::job_records` meets its contract. The kind, the body, J26 in it once more as the reading shows it, and the mark.
-- Assumes nothing.
use Prim.Native.Nat.{ℕ}
use mathlib.Core.Path.{ap, ◌∙◌}
use mathlib.Core.List.{[], ◌∷◌}
use native.Mathlib.Omega.{arith}
use lib.Seq.{sets}
use Rattle.format.specs.Sheet.{body_length}
use Rattle.records.proofs.Bodies.{job-laid}
use borrow.Author.Rules.{rules}
use Rattle.records.proofs.Laid.{cut}
use Rattle.records.proofs.job_records.Goals as goal
use Rattle.records.proofs.job_records.Goals.{Start}

pub slice_bounds-copy_all-end : goal.slice_bounds-copy_all-end
unfolding body_length
slice_bounds-copy_all-end c = cut 68 c.args.b.now (omega (arith, c.requires.0))

pub copy_all-requires : goal.copy_all-requires
unfolding body_length
copy_all-requires c = omega (arith, cut 68 c.args.b.now (omega (arith, c.requires.0)))

pub bounds-b-65 : goal.bounds-b-65
unfolding body_length
bounds-b-65 c = search rules

pub returns : goal.returns
returns c =
    let a = c.args in
    job-laid a.r a.b.now a.o.now c.requires.0 c.put_byte.ensures c.copy_all.ensures
    (c.put_byte-2.ensures ∙ ap (λ (v : ℕ). sets c.copy_all.new.o 66 (v ∷ [])) c.j26_shown.ensures)
    (c.put_byte-3.ensures ∙ ap (λ (v : ℕ). sets c.put_byte-2.new.o 69 (v ∷ [])) c.mark_of.ensures)
