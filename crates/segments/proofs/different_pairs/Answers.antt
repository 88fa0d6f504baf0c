-- `segments::different_pairs` meets its contract. The pairs that are gathered, held against each other.
-- Assumes nothing.
use native.Mathlib.Omega.{arith}
use mathlib.Core.Path.{◌≡◌, sym, ap, ◌∙◌}
use mathlib.Core.List.{List}
use Prim.Native.Nat.{ℕ}
use lib.Dec.{eqb}
use lib.ListN.{length, take}
use lib.Seq.{length-sets}
use Rattle.distinct.specs.Distinct.{without_repeats}
use Rattle.segments.specs.InnerWalk.{pair_numbers, segments_of}
use Rattle.segments.proofs.Counting.{numbers-are}
use Rattle.segments.proofs.Gathering.{stored-front}
use Rattle.segments.proofs.different_pairs.Goals as goal
use Rattle.segments.proofs.different_pairs.Goals.{After-pairs_of-n}

-- the pairs stand at the front of the lent array
front : (c : After-pairs_of-n) → let a = c.args in
    take c.pairs_of-n.result c.pairs_of-n.new.o ≡ pair_numbers (segments_of a.r a.l.now)
front c =
    let e = c.pairs_of-n.ensures in
    stored-front _ _ e.o_after e.value.0 (omega (arith, e.value.0, e.value.1))

-- which is as long as before
as_long : (c : After-pairs_of-n) → length c.pairs_of-n.new.o ≡ length c.args.o.now
as_long c =
    let a = c.args in
    ap length c.pairs_of-n.ensures.o_after ∙ length-sets a.o.now 0 (pair_numbers (segments_of a.r a.l.now))

pub slice_bounds-count_different-end : goal.slice_bounds-count_different-end
slice_bounds-count_different-end c = omega (arith, as_long (goal.at.slice_bounds-count_different-end c).After-pairs_of-n, c.pairs_of-n.ensures.value.1)

pub slice_bounds-count_different-end-2 : goal.slice_bounds-count_different-end-2
slice_bounds-count_different-end-2 c = c.pairs_of-n.ensures.value.0 ∙ sym (ap length (front (goal.at.slice_bounds-count_different-end-2 c).After-pairs_of-n))

pub shape_of-o : goal.shape_of-o
shape_of-o c = as_long (goal.at.shape_of-o c).After-pairs_of-n

pub returns : goal.returns
returns c =
    c.count_different.ensures
    ∙ ap (λ (x : List ℕ). length (without_repeats eqb x)) (front (goal.at.returns c).After-pairs_of-n)
    ∙ numbers-are c.args.r c.args.l.now (λ i. (c.type_inv.l i).fits)
