-- `gmti_editions::is_older_body` meets its contract. The loop keeps that the bytes that are left decide as all of them do.
-- Assumes nothing.
use native.Mathlib.Omega.{arith}
use mathlib.Core.Path.{refl, ◌∙◌}
use Rattle.gmti_editions.proofs.Sheets.{byte-differs, byte-same, body_end}
use Rattle.gmti_editions.proofs.is_older_body.Invariants.{places}
use Rattle.gmti_editions.proofs.is_older_body.Goals as goal

pub returns-then-older_byte-older : goal.returns-then-older_byte-older
returns-then-older_byte-older c =
    let newer = c.args.newer.now in
    let within = c.loop-i-test.true in
    byte-differs (places c.args.kind newer) newer c.args.older.now c.loop-i.i (omega (arith, c.loop-i.invariant.0, within)) (omega (arith, c.requires, c.loop-i.invariant.0, within)) (c.older_byte.ensures newer) c.if-older_byte-older.true
    ∙ c.loop-i.invariant.2

pub loop-i-preserved : goal.loop-i-preserved
loop-i-preserved c =
    let newer = c.args.newer.now in
    let within = c.loop-i-test.true in (
      c.loop-i.invariant.0,
      omega (arith, c.loop-i.invariant.0, within),
      byte-same (places c.args.kind newer) newer c.args.older.now c.loop-i.i (omega (arith, c.loop-i.invariant.0, within)) (omega (arith, c.requires, c.loop-i.invariant.0, within)) (c.older_byte.ensures newer) c.if-older_byte-older.false
          ∙ c.loop-i.invariant.2,
    )

pub returns : goal.returns
returns c =
    let newer = c.args.newer.now in
    let end = c.loop-i-test.false in
    body_end (places c.args.kind newer) newer c.args.older.now c.loop-i.i (omega (arith, c.loop-i.invariant.0, end)) (omega (arith, c.requires, c.loop-i.invariant.0, end))
    ∙ c.loop-i.invariant.2

pub loop-i-init : goal.loop-i-init
loop-i-init c = (refl, omega arith, refl)
