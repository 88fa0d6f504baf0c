-- `spelling::put_pieces` meets its contract. The row of a record of kind 5 or 7 are the full pieces, which the loop stores.
-- Assumes nothing.
use mathlib.Core.Path.{◌≡◌, sym, ap, ap₂, subst, ◌∙◌}
use mathlib.Core.Logic.{⊎_elim}
use Prim.Native.Nat.{ℕ, ◌*◌, ◌/◌, ◌≤◌}
use native.Mathlib.Omega.{arith}
use lib.ListN.{length}
use lib.Seq.{sets}
use Rattle.format.specs.Sheet.{Record}
use Rattle.format.specs.Lengths.{record_length}
use Rattle.format.specs.Writer.{Due, due, called_for}
use Rattle.sheet_walk.specs.InnerShape.{BeginsWith}
use Rattle.spelling.specs.InnerSpelling.{row_behind, row_given, given_in_row, read_next, carried_all, record_in}
use Rattle.spelling.proofs.Nexts.{text-due, opaque-due, pieces-row, read_is, pieces-given, length-carried}
use Rattle.spelling.proofs.put_pieces.Goals as goal
use Rattle.spelling.proofs.put_pieces.Goals.{After-in_pieces, After-put_full_pieces, Start}

-- pieces are due, as many bytes of them as are left
of-pieces : (d : Due) (m : ℕ) → d ≡ due 6 m → d ≡ due 6 d.left
of-pieces d m e = e ∙ ap (due 6) (sym (ap (λ (x : Due). x.left) e))

module _ (s : Start) where
  abbrev leader : Record
  leader = record_in s.args.kind s.args.b.now

  -- how many of them are full
  abbrev many : ℕ
  many = (called_for leader).left / 32

  row_is : (row_behind leader ≡ many) × ((called_for leader).kind ≡ 6)
  row_is =
      pieces-row leader (called_for leader).left
      (⊎_elim (λ e. of-pieces (called_for leader) _ (text-due s.args.kind s.args.b.now e)) (λ e. of-pieces (called_for leader) _ (opaque-due s.args.kind s.args.b.now e)) s.requires.1)

  begins : BeginsWith 6 many s.args.rest.now
  begins =
      subst (λ (k : ℕ). BeginsWith k many s.args.rest.now) row_is.1
      (subst (λ (n : ℕ). BeginsWith (called_for leader).kind n s.args.rest.now) row_is.0 s.requires.2.0)

  given_is : given_in_row leader s.args.rest.now ≡ carried_all many s.args.rest.now
  given_is =
      ap₂ (λ (k n : ℕ). row_given leader k n s.args.rest.now) row_is.1 row_is.0
      ∙ pieces-given leader many s.args.rest.now begins

  given-length : length (given_in_row leader s.args.rest.now) ≡ many * 32
  given-length = ap length given_is ∙ length-carried many s.args.rest.now begins.long

  read_all : many * record_length 6 ≡ read_next leader
  read_all = sym (ap₂ (λ (n k : ℕ). n * record_length k) row_is.0 row_is.1) ∙ read_is leader

-- the code counts as many
count-is : (c : After-in_pieces) → c.in_pieces.result / 32 ≡ many (goal.at.After-in_pieces c).Start
count-is c = ap (λ (n : ℕ). n / 32) c.in_pieces.ensures

pub put_full_pieces-requires : goal.put_full_pieces-requires
put_full_pieces-requires c =
    (omega (arith, (begins (goal.at.put_full_pieces-requires c).Start).long, count-is (goal.at.put_full_pieces-requires c).After-in_pieces), omega (arith, given-length (goal.at.put_full_pieces-requires c).Start, c.requires.2.1, count-is (goal.at.put_full_pieces-requires c).After-in_pieces))

-- what it takes on the sheet and in the packet
module _ (c : After-put_full_pieces) where
  counts : c.in_pieces.result / 32 ≡ many (goal.at.After-put_full_pieces c).Start
  counts = count-is (goal.at.After-put_full_pieces c).After-in_pieces

  mul-read : c.in_pieces.result / 32 * record_length 6 ≤ length c.args.rest.now
  mul-read = omega (arith, (begins (goal.at.After-put_full_pieces c).Start).long, counts)

  mul-written : c.in_pieces.result / 32 * 32 ≤ length c.args.rest.now
  mul-written = omega (arith, mul-read)

pub overflow_mul-result : goal.overflow_mul-result
overflow_mul-result c = omega (arith, mul-read (goal.at.overflow_mul-result c).After-put_full_pieces, c.well_formed)

pub overflow_mul-result-2 : goal.overflow_mul-result-2
overflow_mul-result-2 c = omega (arith, mul-written (goal.at.overflow_mul-result-2 c).After-put_full_pieces, c.well_formed)

pub returns : goal.returns
returns c =
    record {
      read_is = ap (λ (n : ℕ). n * record_length 6) (counts (goal.at.returns c).After-put_full_pieces) ∙ read_all (goal.at.returns c).Start;
      written_is = ap (λ (n : ℕ). n * 32) (counts (goal.at.returns c).After-put_full_pieces) ∙ sym (given-length (goal.at.returns c).Start);
      stored =
          c.put_full_pieces.ensures
          ∙ ap (λ (n : ℕ). sets c.args.o.now 0 (carried_all n c.args.rest.now)) (counts (goal.at.returns c).After-put_full_pieces)
          ∙ sym (ap (sets c.args.o.now 0) (given_is (goal.at.returns c).Start));
    }
