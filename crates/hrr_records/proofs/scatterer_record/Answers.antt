-- `hrr_records::scatterer_record` meets its contract. The numbers stand one behind another in a word, whose bytes are the body.
-- Assumes nothing.
use mathlib.Core.Path.{refl, ap, ◌∙◌}
use Prim.Native.Nat.{◌/◌, ◌%◌}
use native.Mathlib.Omega.{arith}
use lib.Seq.{sets}
use Rattle.octets.specs.Layout.{total}
use Rattle.words.proofs.Words.{joined}
use Rattle.hrr.specs.InnerScatterers.{digits}
use Rattle.format.proofs.Hrr.{all-narrow}
use Rattle.hrr_records.proofs.Widened.{four-wide}
use Rattle.hrr_records.proofs.Scatterers.{scatterer-laid}
use Rattle.hrr_records.proofs.scatterer_record.Goals as goal

pub widen-requires : goal.widen-requires
unfolding total
widen-requires c =
    (c.requires.0.0, omega (arith, c.requires))

pub widen-requires-2 : goal.widen-requires-2
unfolding total
widen-requires-2 c =
    (c.requires.0.1, omega (arith, c.requires))

pub widen-requires-3 : goal.widen-requires-3
unfolding total
widen-requires-3 c =
    (omega (arith, c.requires), omega (arith, c.requires))

pub widen-requires-4 : goal.widen-requires-4
unfolding total
widen-requires-4 c =
    (omega (arith, c.requires), omega (arith, c.requires))

pub returns : goal.returns
returns c =
    let n = c.args.n in
    let t = c.args.t.now in
    let word = joined 4 4 (joined 2 2 c.widen.ensures c.widen-2.ensures c.join-first.ensures) (joined 2 2 c.widen-3.ensures c.widen-4.ensures c.join-last.ensures) c.join.ensures in
    let bytes = word.1 ∙ four-wide (n / 1000) (n / 100 % 10) (n / 10 % 10) (n % 10) t in
    scatterer-laid (digits n) t c.args.o.now refl (all-narrow c.requires.0) c.put_byte.ensures (c.put.ensures ∙ ap (sets _ 1) bytes)
