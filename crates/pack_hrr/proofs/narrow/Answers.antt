-- `pack_hrr::narrow` meets its contract. The last bytes are taken where they begin.
-- Assumes nothing.
use mathlib.Core.Path.{◌∙◌}
use Rattle.pack_hrr.proofs.Narrowed.{last-is}
use Rattle.pack_hrr.proofs.narrow.Goals as goal

pub returns : goal.returns
returns c =
    (c.get.ensures.0, c.get.ensures.1 ∙ last-is c.args.w c.args.at c.args.x.now c.requires.0)
