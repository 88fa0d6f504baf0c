-- `gmti_longest::lay_out` meets its contract: each run of stores begins where the one before it ends.
-- Assumes nothing.
use mathlib.Core.Path.{refl}
use Rattle.gmti_longest.proofs.Laid.{laid_out}
use Rattle.gmti_longest.proofs.lay_out.Goals as goal

pub returns : goal.returns
returns c = (
  refl,
  laid_out c.args.o.now c.args.k _ refl
      c.copy_all.ensures
      c.put_u32.ensures
      c.copy_all-2.ensures
      c.put_u32-2.ensures
      c.put_u64.ensures
      c.clear.ensures
      c.put_u16.ensures
      c.clear-2.ensures,
)
