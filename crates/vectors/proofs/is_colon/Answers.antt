-- std's test of the first bytes.
use Rattle.vectors.proofs.Spellings.{colon_at}
use Rattle.vectors.proofs.is_colon.Goals as goal

pub returns : goal.returns
returns c = colon_at c.args.s.now c.args.at c.starts_with.ensures.value
