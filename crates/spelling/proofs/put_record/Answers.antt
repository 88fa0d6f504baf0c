-- `spelling::put_record` meets its contract. A target goes by the mask at the front of its leader; a piece, or a record that begins a
-- segment, by itself.
-- Assumes nothing.
use borrow.Author.Tests.{ne_eqb}
use mathlib.Core.Path.{ap, ◌∙◌}
use native.Mathlib.Omega.{arith}
use lib.ListN.{length}
use lib.Seq.{sets}
use Rattle.octets.specs.Layout.{total}
use Rattle.spelling.proofs.Stored.{leader-spelt, target-spelt, target-long, target-length, piece-spelt, piece-long, piece-length}
use Rattle.spelling.proofs.put_record.Goals as goal

pub get_u64-requires : goal.get_u64-requires
get_u64-requires c = c.requires.0.3 c.if-kind-eq-KIND.true

pub target_fields-requires : goal.target_fields-requires
unfolding total
target_fields-requires c =
    let a = c.args in
    let e = c.if-kind-eq-KIND.true in
    record {
      held = omega (arith, target-long a.leader.now a.kind a.b.now c.requires.0.0 e);
      room = omega (arith, target-length a.leader.now a.kind a.b.now c.requires.0.0 e _ c.get_u64.ensures, c.requires.1);
    }

pub returns-then-kind-eq-KIND : goal.returns-then-kind-eq-KIND
returns-then-kind-eq-KIND c =
    let a = c.args in
    let e = c.if-kind-eq-KIND.true in
    record {
      value = omega (arith, c.target_fields.ensures.next, target-length a.leader.now a.kind a.b.now c.requires.0.0 e _ c.get_u64.ensures);
      o_after = c.target_fields.ensures.stored ∙ ap (sets a.o.now 0) (target-spelt a.leader.now a.kind a.b.now e _ c.get_u64.ensures);
    }

pub put_piece-requires : goal.put_piece-requires
put_piece-requires c =
    let a = c.args in
    let e = c.if-kind-eq-KIND-2.true in
    let n = c.requires.0.4 e in
    (piece-long a.leader.now a.kind a.b.now c.requires.0.0 e, n, omega (arith, piece-length a.leader.now a.kind a.b.now c.requires.0.0 e n, c.requires.1))

pub returns-then-kind-eq-KIND-2 : goal.returns-then-kind-eq-KIND-2
returns-then-kind-eq-KIND-2 c =
    let a = c.args in
    let e = c.if-kind-eq-KIND-2.true in
    record {
      value = c.put_piece.ensures.value ∙ piece-length a.leader.now a.kind a.b.now c.requires.0.0 e (c.requires.0.4 e);
      o_after = c.put_piece.ensures.o_after ∙ ap (sets a.o.now 0) (piece-spelt a.leader.now a.kind a.b.now e);
    }

pub put_leader-requires : goal.put_leader-requires
put_leader-requires c =
    let a = c.args in
    let t = c.if-kind-eq-KIND.false in
    let p = c.if-kind-eq-KIND-2.false in
    let size = rw (ne_eqb a.kind 4 t, ne_eqb a.kind 6 p, ne_eqb a.kind 12 c.requires.0.5) at c.requires.0.2 in
    ((c.requires.0.0, c.requires.0.1, size), omega (arith, ap length (leader-spelt a.leader.now a.kind a.b.now t p c.requires.0.5), c.requires.1))

pub returns : goal.returns
returns c =
    let a = c.args in
    let e = leader-spelt a.leader.now a.kind a.b.now c.if-kind-eq-KIND.false c.if-kind-eq-KIND-2.false c.requires.0.5 in
    record { value = c.put_leader.ensures.value ∙ ap length e; o_after = c.put_leader.ensures.o_after ∙ ap (sets a.o.now 0) e }
