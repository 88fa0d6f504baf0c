-- The lines of records, one record after another as the code goes through a sheet.
-- Assumes nothing.
use mathlib.Core.Path.{◌≡◌, refl, sym, ap, ◌∙◌}
use mathlib.Core.Bool.{Bool}
use mathlib.Core.List.{List, [], ◌++◌, append-nil, append_assoc}
use Prim.Native.Nat.{ℕ, ◌+◌, ◌≤◌}
use native.Mathlib.Nat.{zero-add}
use native.Mathlib.Omega.{arith}
use borrow.Rule.Slice.PartMut.{mid_len}
use lib.ListN.{length, take, drop, length-take}
use lib.Seq.{sets}
use Rattle.format.specs.Answer.{Answer, Accepted, Refused}
use Rattle.format.specs.Sheet.{body_length}
use Rattle.format.specs.Writer.{Listed, listed}
use Rattle.sheet_walk.proofs.Places.{WholeAt, cut_at}
use Rattle.printing.specs.Printing.{answer_line, record_line, target_lines, printed}
use Rattle.printing.specs.InnerPut.{Put}
use Rattle.printing.proofs.Lines.{laid-join, put-none, put-join, put-within}

-- a record ends behind the body that its kind fixes
pub body-ends : {x : List ℕ} {at kind end : ℕ} → WholeAt x at kind end → at + 1 + body_length kind ≡ end
body-ends {x} {at} {end = end} w = omega (arith, w.formed.length_is, mid_len (at + 1) end x w.fits, w.within)

-- at a place of x: the lines so far, which stand in o up to p, and those of the records behind it are all that is due
pub record Walked (x o₀ o : List ℕ) (start p at : ℕ) : Type 0 where
  pub done : List ℕ
  pub within : at ≤ length x
  pub laid : Put at o₀ start done p o
  pub rest : done ++ target_lines (listed (drop at x)).records ≡ target_lines (listed x).records

pub walk_start : (x o : List ℕ) (start : ℕ) → Walked x o o start start 0
walk_start x o start = record { done = []; within = omega arith; laid = put-none o start; rest = refl }

-- where no record is left, all is laid out
pub walk_end : {x o₀ o : List ℕ} {start p at : ℕ} {whole : Bool} → Walked x o₀ o start p at → listed (drop at x) ≡ record { records = []; whole = whole }
    → Put (length x) o₀ start (target_lines (listed x).records) p o
unfolding target_lines
walk_end w e =
    let all = sym w.rest ∙ ap (λ (l : Listed). w.done ++ target_lines l.records) e ∙ append-nil w.done in
    rw all (put-within w.laid w.within)

-- a turn: the line of the record at the place
pub walk_turn : {x o₀ o b : List ℕ} {start p q at kind end : ℕ} → Walked x o₀ o start p at → WholeAt x at kind end
    → Put (body_length kind) o p (record_line (cut_at x at kind end)) q b → Walked x o₀ b start q end
unfolding target_lines
walk_turn {x} {at = at} {kind = kind} {end = end} w r l =
    let line = record_line (cut_at x at kind end) in
    record {
      done = w.done ++ line;
      within = r.fits;
      laid = put-within (put-join w.laid l) (omega (arith, body-ends r));
      rest = append_assoc w.done line _ ∙ sym (ap (λ (k : Listed). w.done ++ target_lines k.records) r.listed-is) ∙ w.rest;
    }

-- what is printed: the answer's line and, where it accepts, those of the targets behind it
module _ (x : List ℕ) (a : Answer) where
  pub printed-refused : {number segment field : ℕ} → a ≡ Refused number segment field → printed a x ≡ answer_line a
  unfolding printed
  printed-refused e = rw e

  pub printed-accepted : (l y : List ℕ) {segments dwells targets n p q : ℕ} {b c : List ℕ}
      → a ≡ Accepted segments dwells targets n
      → y ≡ take n x
      → ((p ≡ length (answer_line a)) × (p ≤ 96)) × (b ≡ sets l 0 (answer_line a))
      → Put (length y) b p (target_lines (listed y).records) q c
      → (q ≡ length (printed a x)) × ((c ≡ sets l 0 (printed a x)) × (q ≤ 96 + length x))
  unfolding printed
  printed-accepted l y {n = n} e f h k =
      let lines : printed a x ≡ answer_line a ++ target_lines (listed y).records = rw (f, e) in
      let both = laid-join (answer_line a) (target_lines (listed y).records) l 0 (omega (arith, h.0.0), h.1) (k.next, k.stored) in
      rw lines (both.0 ∙ zero-add _, (both.1, omega (arith, k.room, h.0.1, ap length f, length-take n x)))
