-- What std says of the suffix.
use Rattle.std.proofs.Common.{Bor, List, ℕ, ap, ◌∙◌}
use Rattle.gmti_longest.proofs.Inputs.{stripped}
use Rattle.gmti_longest.proofs.without_line_feed.Goals as goal

pub returns : goal.returns
returns c = ap (λ (b : Bor (List ℕ)). b.now) c.unwrap_or.ensures ∙ stripped c.args.input c.strip_suffix.result c.strip_suffix.ensures.cases
