-- `gmti_editions::fault` meets its contract. Without colon and space, and with them.
-- Assumes nothing.
use native.Mathlib.Omega.{arith}
use Prim.Native.Nat.{◌≤◌}
use mathlib.Core.Path.{sym, ap, ◌∙◌}
use lib.ListN.{length}
use Rattle.lines.proofs.Search.{before-le}
use Rattle.vectors.specs.Vectors.{hex_fault}
use Rattle.gmti_editions.proofs.Said.{hex-from, fault-form, fault-hex}
use Rattle.gmti_editions.proofs.fault.Goals as goal
use Rattle.gmti_editions.proofs.fault.Goals.{Start}

-- the name ends within the line
within : (c : Start) → c.args.name ≤ length c.args.line.now
within c = omega (arith, c.requires, before-le 58 c.args.line.now)

pub is_colon-requires : goal.is_colon-requires
is_colon-requires c = within (goal.at.is_colon-requires c).Start

pub returns-then-not-is_colon : goal.returns-then-not-is_colon
returns-then-not-is_colon c = sym (fault-form c.args.line.now c.requires (sym c.is_colon.ensures ∙ c.if-not-is_colon.true))

pub further-hex-requires : goal.further-hex-requires
further-hex-requires c = within (goal.at.further-hex-requires c).Start

pub returns : goal.returns
returns c =
    let line = c.args.line.now in
    let colon = fault-hex line c.requires (sym c.is_colon.ensures ∙ c.if-not-is_colon.false) in
    c.hex_fault.ensures ∙ ap hex_fault (hex-from line c.requires c.further-hex.ensures.0) ∙ sym colon
