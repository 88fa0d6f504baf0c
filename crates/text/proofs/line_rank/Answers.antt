-- `text::line_rank` meets its contract. What wraps is a byte below the space.
-- Assumes nothing.
use Rattle.std.proofs.Common.{arith}
use Rattle.text.proofs.Bytes.{line-within}
use Rattle.text.proofs.line_rank.Goals as goal

pub returns : goal.returns
returns c = line-within c.args.c _ (omega arith) (omega arith)
