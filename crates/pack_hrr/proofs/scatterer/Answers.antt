-- `pack_hrr::scatterer` meets its contract. The numbers stand one behind another in a word, whose lowest bytes are stored.
-- Assumes nothing.
use mathlib.Core.Path.{ap, ◌∙◌}
use mathlib.Core.List.{◌++◌}
use Prim.Native.Nat.{◌+◌, ◌/◌, ◌%◌}
use native.Mathlib.Omega.{arith}
use lib.Seq.{sets}
use Rattle.octets.specs.Layout.{total}
use Rattle.words.specs.InnerWords.{Spells}
use Rattle.words.proofs.Words.{joined, half}
use Rattle.pack_hrr.proofs.Narrowed.{last, four-last}
use Rattle.pack_hrr.proofs.scatterer.Goals as goal
use Rattle.pack_hrr.proofs.scatterer.Goals.{After-join-first, After-join-last}

pub join-first-requires : goal.join-first-requires
join-first-requires c =
    (omega (arith, c.requires), c.narrow.ensures.0, half (c.args.n / 100 % 10) (omega (arith, c.requires)) c.narrow-2.ensures)

pub join-last-requires : goal.join-last-requires
join-last-requires c =
    (omega (arith, c.requires), c.narrow-3.ensures.0, half (c.args.n % 10) (omega (arith, c.requires)) c.narrow-4.ensures)

-- magnitude and phase, and the indices
first_two : (c : After-join-first) → let a = c.args in
    Spells (a.n / 1000 + a.n / 100 % 10) c.join-first.result (last (a.n / 1000) 1 a.x.now ++ last (a.n / 100 % 10) 3 a.x.now)
first_two c =
    let n = c.args.n in
    joined (n / 1000) (n / 100 % 10) c.narrow.ensures c.narrow-2.ensures c.join-first.ensures

last-two : (c : After-join-last) → let a = c.args in
    Spells (a.n / 10 % 10 + a.n % 10) c.join-last.result (last (a.n / 10 % 10) 5 a.x.now ++ last (a.n % 10) 7 a.x.now)
last-two c =
    let n = c.args.n in
    joined (n / 10 % 10) (n % 10) c.narrow-3.ensures c.narrow-4.ensures c.join-last.ensures

pub join-requires : goal.join-requires
join-requires c =
    (omega (arith, c.requires), (first_two (goal.at.join-requires c).After-join-first).0, half (c.args.n / 10 % 10 + c.args.n % 10) (omega (arith, c.requires)) (last-two (goal.at.join-requires c).After-join-last))

pub put-requires : goal.put-requires
unfolding total
put-requires c =
    (omega (arith, c.requires), omega (arith, c.requires))

pub returns : goal.returns
returns c =
    let a = c.args in
    let n = a.n in
    let word = joined (n / 1000 + n / 100 % 10) (n / 10 % 10 + n % 10) (first_two (goal.at.returns c).After-join-first) (last-two (goal.at.returns c).After-join-last) c.join.ensures in
    c.put.ensures ∙ ap (sets a.o.now 0) (word.1 ∙ four-last (n / 1000) (n / 100 % 10) (n / 10 % 10) (n % 10) a.x.now)
