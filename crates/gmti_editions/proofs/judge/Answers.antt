-- `gmti_editions::judge` meets its contract. The Edition 3 reading's answer by cases; the rest is the law on both readings.
-- Assumes nothing.
use native.Mathlib.Omega.{arith}
use mathlib.Core.Path.{◌≡◌, sym, ap, ◌∙◌}
use Rattle.format.specs.Edition.{as_edition}
use Rattle.format.specs.Answer.{Answer, Accepted, answer_of, outcome}
use Rattle.format.specs.Reader.{read}
use Rattle.gmti_editions.proofs.Cases.{verdict-refused, verdict-read}
use Rattle.gmti_editions.proofs.Verdicts.{read-within, judged}
use Rattle.gmti_editions.proofs.judge.Goals as goal
use Rattle.gmti_editions.proofs.judge.Goals.{In-Ok}

-- what the Edition 3 reading gave, where it accepts
module _ (c : In-Ok) where
  reads-3 : let a = c.in-Ok.counts in
      outcome (Accepted a.segments a.dwells a.targets a.length) c.read-a3.new.sheet ≡ read (as_edition 3) c.args.l.now c.args.newer.now
  reads-3 = ap (λ (a : Answer). outcome a c.read-a3.new.sheet) (ap answer_of (sym c.in-Ok.is)) ∙ c.read-a3.ensures

pub older_verdict-verdict-requires : goal.older_verdict-verdict-requires
older_verdict-verdict-requires c =
    let x = c.args in
    let a = c.in-Ok.counts in
    let within = read-within (as_edition 3) x.l.now x.newer.now _ a.segments a.dwells a.targets a.length (reads-3 (goal.at.older_verdict-verdict-requires c).In-Ok) in (
      within.checked,
      omega (arith, within.fits, c.read-a1.auto.sheet, c.requires),
      omega (arith, within.fits, c.read-a3.auto.sheet),
    )

pub returns-in-Err : goal.returns-in-Err
returns-in-Err c =
    let x = c.args in
    let j =
    judged x.l.now x.older.now x.newer.now x.buffer.now _ _ _ _ _ c.read-a3.ensures c.read-a1.ensures
    (verdict-refused x.l.now x.older.now x.newer.now x.buffer.now _ _ _ _ _ c.read-a3.ensures (ap answer_of c.in-Err.is)) in
    record { verdict_value = j.0; newer_after = j.1.0; demanded = j.1.1.0; verdict_value_2 = j.1.1.1 }

pub returns-in-Ok : goal.returns-in-Ok
returns-in-Ok c =
    let x = c.args in
    let a = c.in-Ok.counts in
    let j =
    judged x.l.now x.older.now x.newer.now x.buffer.now _ _ _ _ _ (reads-3 (goal.at.returns-in-Ok c).In-Ok) c.read-a1.ensures
    (verdict-read x.l.now x.older.now x.newer.now x.buffer.now _ a.segments a.dwells a.targets a.length _ _ (reads-3 (goal.at.returns-in-Ok c).In-Ok) c.read-a1.ensures _ c.older_verdict-verdict.ensures) in
    record { verdict_value = j.0; newer_after = j.1.0; demanded = j.1.1.0; verdict_value_2 = j.1.1.1 }
