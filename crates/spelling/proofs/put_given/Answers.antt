-- `spelling::put_given` meets its contract. A dwell and an HRR segment give their mask and the announced fields, any other record the front of
-- its body.
-- Assumes nothing.
use mathlib.Core.Path.{sym, ap, ◌∙◌}
use Prim.Native.Nat.{ℕ, ◌≤◌}
use native.Mathlib.Omega.{arith}
use lib.ListN.{length, take, length-take}
use lib.Seq.{sets, length-take-le}
use Rattle.octets.specs.Layout.{total}
use Rattle.mask.specs.Fields.{announced_length, dwell_widths}
use Rattle.format.specs.Sheet.{body_length}
use Rattle.format.specs.Writer.{given}
use Rattle.spelling.specs.InnerSpelling.{record_in}
use Rattle.spelling.proofs.Stored.{copied, dwell-long, dwell-length, dwell-stored}
use Rattle.spelling.proofs.put_given.Goals as goal
use Rattle.spelling.proofs.put_given.Goals.{Else-kind-eq-KIND-2}

pub copy-requires : goal.copy-requires
copy-requires c =
    let e = c.if-kind-eq-KIND.true in
    omega (arith, dwell-long c.args.kind c.args.b.now c.requires.0 e, dwell-length c.args.kind c.args.b.now c.requires.0 e)

pub get_u64-requires : goal.get_u64-requires
get_u64-requires c =
    omega (arith, dwell-long c.args.kind c.args.b.now c.requires.0 c.if-kind-eq-KIND.true)

pub dwell_fields-requires : goal.dwell_fields-requires
unfolding total
dwell_fields-requires c =
    let mask = c.get_u64.ensures in
    let e = c.if-kind-eq-KIND.true in
    let long = dwell-length c.args.kind c.args.b.now c.requires.0 e in
    record {
      held = omega (arith, dwell-long c.args.kind c.args.b.now c.requires.0 e);
      room = omega (arith, long, ap (λ (m : ℕ). announced_length m 2 dwell_widths) mask, c.copy.auto.o, c.requires.1, c.requires.2);
    }

pub returns-then-kind-eq-KIND : goal.returns-then-kind-eq-KIND
returns-then-kind-eq-KIND c =
    dwell-stored c.args.kind c.args.b.now c.requires.0 c.if-kind-eq-KIND.true _ c.get_u64.ensures c.args.o.now c.copy.ensures c.dwell_fields.ensures.stored

pub put_masked_hrr-requires : goal.put_masked_hrr-requires
put_masked_hrr-requires c =
    let e = c.if-kind-eq-KIND-2.true in
    let n = ap (λ (k : ℕ). length (given (record_in k c.args.b.now))) e in
    (c.requires.0 ∙ ap body_length e, omega (arith, n, c.requires.1, c.requires.2))

pub returns-then-kind-eq-KIND-2 : goal.returns-then-kind-eq-KIND-2
returns-then-kind-eq-KIND-2 c =
    c.put_masked_hrr.ensures ∙ ap (λ (k : ℕ). sets c.args.o.now 0 (given (record_in k c.args.b.now))) (sym c.if-kind-eq-KIND-2.true)

-- the bytes to copy are within the body
within : (c : Else-kind-eq-KIND-2) → c.args.n ≤ length c.args.b.now
within c =
    omega (arith, (copied c.args.kind c.args.b.now c.if-kind-eq-KIND.false c.if-kind-eq-KIND-2.false).0, c.requires.1)

pub slice_bounds-copy_each-end : goal.slice_bounds-copy_each-end
slice_bounds-copy_each-end c = sym (length-take-le _ _ (within (goal.at.slice_bounds-copy_each-end c).Else-kind-eq-KIND-2))

pub copy_each-requires : goal.copy_each-requires
copy_each-requires c =
    omega (arith, length-take c.args.n c.args.b.now, c.requires.2)

pub returns : goal.returns
returns c =
    let b = c.args.b.now in
    c.copy_each.ensures
    ∙ ap (sets c.args.o.now 0) (ap (λ (n : ℕ). take n b) c.requires.1 ∙ (copied c.args.kind b c.if-kind-eq-KIND.false c.if-kind-eq-KIND-2.false).1)
