-- `text::text_rank` meets its contract. The lower of the two ranks, which is computed for every byte.
-- Assumes nothing.
use Rattle.std.proofs.Common.{arith}
use Rattle.text.proofs.Bytes.{text-within}
use Rattle.text.proofs.text_rank.Goals as goal

pub returns : goal.returns
returns c = rw (c.min.ensures, c.saturating_sub-printable.ensures) (text-within c.args.c (omega arith))
