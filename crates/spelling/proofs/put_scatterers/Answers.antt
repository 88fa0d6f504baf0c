-- `spelling::put_scatterers` meets its contract. So many of them, of the widths that the record gives.
-- Assumes nothing.
use mathlib.Core.Path.{◌≡◌, refl, sym, ap, ◌∙◌}
use Prim.Native.Nat.{ℕ, ◌*◌, ◌≤◌}
use native.Mathlib.Omega.{arith}
use lib.ListN.{length}
use lib.Seq.{sets}
use Rattle.octets.specs.Layout.{total}
use Rattle.hrr.specs.declared.Scatterers.{Scatterers}
use Rattle.hrr.specs.InnerScatterers.{widths_of}
use Rattle.pack_hrr.specs.InnerNarrowed.{narrowed_all}
use Rattle.format.specs.Sheet.{Record}
use Rattle.format.specs.Lengths.{record_length}
use Rattle.format.specs.Writer.{called_for}
use Rattle.sheet_walk.specs.InnerShape.{scatterers_behind}
use Rattle.spelling.specs.InnerSpelling.{row_of, given_in_row, read_next, record_in}
use Rattle.spelling.proofs.Narrow.{widths_behind, length-all}
use Rattle.spelling.proofs.Nexts.{scatterers-given}
use Rattle.spelling.proofs.put_scatterers.Goals as goal
use Rattle.spelling.proofs.put_scatterers.Goals.{After-each_of-each, Start}

-- how much there is to store
module _ (s : Start) where
  abbrev leader : Record
  leader = record_in 11 s.args.b.now

  abbrev many : ℕ
  many = (scatterers_behind s.args.b.now).count * total (widths_of (scatterers_behind s.args.b.now))

  -- there are as many as are called for
  long : (scatterers_behind s.args.b.now).count * record_length 12 ≤ length s.args.rest.now
  unfolding row_of called_for
  long = s.requires.1.0.long

  given_is : given_in_row leader s.args.rest.now ≡ narrowed_all (widths_behind leader) (scatterers_behind s.args.b.now).count s.args.rest.now
  unfolding row_of called_for
  given_is = scatterers-given leader (scatterers_behind s.args.b.now).count s.args.rest.now

  all_are : length (given_in_row leader s.args.rest.now) ≡ many
  all_are = ap length given_is ∙ length-all leader (scatterers_behind s.args.b.now).count s.args.rest.now long

  read_all : (scatterers_behind s.args.b.now).count * record_length 12 ≡ read_next leader
  unfolding row_of called_for read_next
  read_all = refl

pub each_of-each-requires : goal.each_of-each-requires
each_of-each-requires c =
    let narrow = c.scatterers_behind-s.ensures.2 in
    (omega (arith, narrow.0), omega (arith, narrow.1), omega (arith, narrow.2), omega (arith, narrow.3))

-- what they take, by what is known of them
takes : (c : After-each_of-each) → let x = c.scatterers_behind-s.result in
    x.count * c.each_of-each.result ≡ many (goal.at.After-each_of-each c).Start
takes c =
    let few = c.scatterers_behind-s in
    ap (λ (n : ℕ). few.result.count * n) c.each_of-each.ensures.0 ∙ ap (λ (y : Scatterers). y.count * total (widths_of y)) few.ensures.0

pub scatterers-requires : goal.scatterers-requires
scatterers-requires c =
    let few = c.scatterers_behind-s.ensures in
    (few.2, omega (arith, long (goal.at.scatterers-requires c).Start, ap (λ (x : Scatterers). x.count) few.0), omega (arith, ap (λ (x : Scatterers). x.count * total (widths_of x)) few.0, all_are (goal.at.scatterers-requires c).Start, c.requires.1.1))

pub returns : goal.returns
returns c =
    let few = c.scatterers_behind-s.ensures.0 in
    let stored = c.scatterers.ensures in
    record {
      read_is = ap (λ (x : Scatterers). x.count * record_length 12) few ∙ read_all (goal.at.returns c).Start;
      written_is = takes (goal.at.returns c).After-each_of-each ∙ sym (all_are (goal.at.returns c).Start);
      stored =
          stored
          ∙ ap (λ (x : Scatterers). sets c.args.o.now 0 (narrowed_all (widths_of x) x.count c.args.rest.now)) few
          ∙ sym (ap (sets c.args.o.now 0) (given_is (goal.at.returns c).Start));
    }
