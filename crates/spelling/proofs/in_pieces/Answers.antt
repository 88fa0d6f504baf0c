-- `spelling::in_pieces` meets its contract: the length that stands in a text's record, or in that of an opaque segment.
-- Assumes nothing.
use mathlib.Core.Path.{◌≡◌, sym, ap, ◌∙◌}
use mathlib.Core.Logic.{⊎_elim}
use native.Mathlib.Omega.{arith}
use Rattle.format.specs.Sheet.{body_length}
use Rattle.format.specs.Writer.{Due}
use Rattle.spelling.proofs.Nexts.{text-due, opaque-due}
use Rattle.spelling.proofs.in_pieces.Goals as goal
use Rattle.spelling.proofs.in_pieces.Goals.{Else-kind-eq-KIND}

-- if it is no text's, it is the other
is-opaque : (c : Else-kind-eq-KIND) → c.args.kind ≡ 7
is-opaque c = ⊎_elim (λ e. absurd (c.if-kind-eq-KIND.false e)) (λ e. e) c.requires.1

pub get_u32-requires : goal.get_u32-requires
unfolding body_length
get_u32-requires c = omega (arith, c.requires.0, ap body_length c.if-kind-eq-KIND.true)

pub get_u32-requires-else-kind-eq-KIND : goal.get_u32-requires-else-kind-eq-KIND
unfolding body_length
get_u32-requires-else-kind-eq-KIND c = omega (arith, c.requires.0, ap body_length (is-opaque (goal.at.get_u32-requires-else-kind-eq-KIND c).Else-kind-eq-KIND))

pub returns-then-kind-eq-KIND : goal.returns-then-kind-eq-KIND
returns-then-kind-eq-KIND c =
    let a = c.args in
    c.get_u32.ensures ∙ sym (ap (λ (d : Due). d.left) (text-due a.kind a.b.now c.if-kind-eq-KIND.true))

pub returns-else-kind-eq-KIND : goal.returns-else-kind-eq-KIND
returns-else-kind-eq-KIND c =
    let a = c.args in
    c.get_u32-else-kind-eq-KIND.ensures ∙ sym (ap (λ (d : Due). d.left) (opaque-due a.kind a.b.now (is-opaque (goal.at.returns-else-kind-eq-KIND c).Else-kind-eq-KIND)))
