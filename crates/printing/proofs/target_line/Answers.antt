-- `printing::target_line` meets its contract. The two numbers that are read from the body, and the end of the line.
-- Assumes nothing.
use mathlib.Core.Path.{◌∙◌}
use borrow.Author.Rules.{rules, sfits_of}
use mir.Syntax.{w32}
use mir.Facts.{to_z-of_z}
use native.Mathlib.Omega.{arith}
use Rattle.octets.specs.Layout.{total}
use Rattle.format.specs.Sheet.{body_length}
use Rattle.printing.proofs.Lines.{put-within, put_same, put-target}
use Rattle.printing.proofs.target_line.Goals as goal

pub returns : goal.returns
unfolding total body_length
returns c =
    let latitude = c.get_i32 in
    put-within (put-target _ _ c.args.b.now (to_z-of_z (sfits_of {w = w32} latitude.type_inv) ∙ latitude.ensures) c.get_u32.ensures c.put_signed-p.ensures c.put_spaced-q.ensures) (omega arith)

pub get_i32-requires : goal.get_i32-requires
unfolding body_length
get_i32-requires c = search rules

pub put_signed-p-requires : goal.put_signed-p-requires
unfolding body_length
put_signed-p-requires c = search rules

pub get_u32-requires : goal.get_u32-requires
unfolding body_length
get_u32-requires c = search rules

pub put_spaced-q-requires : goal.put_spaced-q-requires
unfolding body_length
put_spaced-q-requires c = search rules

pub bounds-o-q : goal.bounds-o-q
unfolding body_length
bounds-o-q c = omega (arith, put_same c.put_signed-p.ensures, put_same c.put_spaced-q.ensures)
