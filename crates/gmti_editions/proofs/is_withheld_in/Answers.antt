-- `gmti_editions::is_withheld_in` meets its contract. The field and the mark of the record's kind, as the tables place them.
-- Assumes nothing.
use mathlib.Core.Path.{sym, ◌∙◌}
use borrow.Author.Tests.{ne_eqb}
use Rattle.octets.specs.Layout.{total}
use Rattle.demands.specs.Places.{is_in_field, is_withheld_in}
use Rattle.gmti_editions.proofs.is_withheld_in.Goals as goal

pub returns-then-is_within : goal.returns-then-is_within
unfolding is_withheld_in is_in_field total
returns-then-is_within c b = rw (c.if-kind-eq-KIND.true, sym c.is_within.ensures ∙ c.if-is_within.true) c.if-is_within.true

pub returns-else-is_within : goal.returns-else-is_within
unfolding is_withheld_in is_in_field total
returns-else-is_within c b =
    rw (c.if-kind-eq-KIND.true, sym c.is_within.ensures ∙ c.if-is_within.false) c.is_within-else-is_within.ensures

pub returns-then-is_within-2 : goal.returns-then-is_within-2
unfolding is_withheld_in is_in_field total
returns-then-is_within-2 c b = rw (c.if-kind-eq-KIND-2.true, sym c.is_within-then-kind-eq-KIND-2.ensures ∙ c.if-is_within-2.true) c.if-is_within-2.true

pub returns-else-is_within-2 : goal.returns-else-is_within-2
unfolding is_withheld_in is_in_field total
returns-else-is_within-2 c b =
    rw (c.if-kind-eq-KIND-2.true, sym c.is_within-then-kind-eq-KIND-2.ensures ∙ c.if-is_within-2.false) c.is_within-else-is_within-2.ensures

pub returns : goal.returns
unfolding is_withheld_in
returns c b = let kind = c.args.kind in rw (ne_eqb kind 3 c.if-kind-eq-KIND.false, ne_eqb kind 8 c.if-kind-eq-KIND-2.false)
