-- `spelling::put_head` meets its contract. The type, and the size behind it.
-- Assumes nothing.
use native.Mathlib.Omega.{arith}
use lib.ListN.{length-set}
use Rattle.spelling.proofs.put_head.Goals as goal

pub shape_of-o : goal.shape_of-o
shape_of-o c = omega (arith, c.put_u32.auto.s, length-set c.args.o.now 0 c.args.segment_type)
