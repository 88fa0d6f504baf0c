-- `sheet_walk::lead_of` meets its contract: a case for each kind.
-- Assumes nothing.
use native.Mathlib.Omega.{arith}
use mathlib.Core.Path.{ap, ◌∙◌}
use Rattle.format.specs.Sheet.{body_length}
use Rattle.format.specs.Writer.{called_for, type_of, given}
use Rattle.sheet_walk.specs.InnerShape.{each_takes, lead_of}
use Rattle.sheet_walk.proofs.Leads.{body-bound, text-lead, job-lead, other-lead}
use Rattle.sheet_walk.proofs.lead_of.Goals as goal

pub alone-requires : goal.alone-requires
alone-requires c = omega (arith, body-bound c.args.kind)

pub with_targets-requires : goal.with_targets-requires
with_targets-requires c = c.requires.0 ∙ ap body_length c.in-3.is

pub get_u32-bytes-requires : goal.get_u32-bytes-requires
unfolding body_length
get_u32-bytes-requires c = omega (arith, c.requires.0 ∙ ap body_length c.in-5.is)

pub get_u32-bytes-requires-in-7 : goal.get_u32-bytes-requires-in-7
unfolding body_length
get_u32-bytes-requires-in-7 c = omega (arith, c.requires.0 ∙ ap body_length c.in-7.is)

pub alone-requires-in-9 : goal.alone-requires-in-9
alone-requires-in-9 c = omega (arith, body-bound c.args.kind)

pub alone-requires-in-10 : goal.alone-requires-in-10
alone-requires-in-10 c = omega (arith, body-bound c.args.kind)

pub with_scatterers-requires : goal.with_scatterers-requires
with_scatterers-requires c = c.requires.0 ∙ ap body_length c.in-11.is

pub alone-requires-in_default : goal.alone-requires-in_default
alone-requires-in_default c = omega (arith, body-bound c.args.kind)

-- a mission's
pub returns-in-2 : goal.returns-in-2
unfolding lead_of type_of given called_for each_takes
returns-in-2 c = record { bounded = c.alone.ensures.bounded; value = rw c.in-2.is c.alone.ensures.value }

-- a dwell's
pub returns-in-3 : goal.returns-in-3
returns-in-3 c = record { bounded = c.with_targets.ensures.bounded; value = rw c.in-3.is c.with_targets.ensures.value }

-- a text's
pub returns-in-5 : goal.returns-in-5
returns-in-5 c =
    let e = c.in-5.is in
    record { bounded = c.in_pieces.ensures.bounded; value = rw e (c.in_pieces.ensures.value ∙ text-lead c.args.b.now (c.requires.0 ∙ ap body_length e) _ c.get_u32-bytes.ensures) }

-- an opaque segment's
pub returns-in-7 : goal.returns-in-7
unfolding lead_of type_of given called_for each_takes
returns-in-7 c = record { bounded = c.in_pieces-in-7.ensures.bounded; value = rw (c.in-7.is, ← c.get_u32-bytes-in-7.ensures) c.in_pieces-in-7.ensures.value }

-- a job's
pub returns-in-8 : goal.returns-in-8
returns-in-8 c =
    let e = c.in-8.is in
    record { bounded = c.alone-in-8.ensures.bounded; value = rw e (c.alone-in-8.ensures.value ∙ job-lead c.args.b.now (c.requires.0 ∙ ap body_length e)) }

-- a test's, and a location's
pub returns-in-9 : goal.returns-in-9
unfolding lead_of type_of given called_for each_takes
returns-in-9 c = record { bounded = c.alone-in-9.ensures.bounded; value = rw c.in-9.is c.alone-in-9.ensures.value }

pub returns-in-10 : goal.returns-in-10
unfolding lead_of type_of given called_for each_takes
returns-in-10 c = record { bounded = c.alone-in-10.ensures.bounded; value = rw c.in-10.is c.alone-in-10.ensures.value }

-- an HRR segment's
pub returns-in-11 : goal.returns-in-11
returns-in-11 c = record { bounded = c.with_scatterers.ensures.bounded; value = rw c.in-11.is c.with_scatterers.ensures.value }

-- any other
pub returns-in_default : goal.returns-in_default
returns-in_default c =
    let b = c.args.b.now in
    record {
      bounded = c.alone-in_default.ensures.bounded;
      value = c.alone-in_default.ensures.value ∙ other-lead b c.args.kind (omega arith) (omega arith) (omega arith) (omega arith) (omega arith) (omega arith) (omega arith) (omega arith);
    }
