-- How long a sheet can get: no more than the bound, so that whoever sets the bound aside never sees 16. The rows of the header and of the
-- segments have other numbers; a packet that gets past its header has a length for which the bound is answered.
-- Assumes nothing.
use Prim.Native.Nat.{ℕ, ◌≤◌}
use native.Mathlib.Omega.{arith}
use mathlib.Core.Path.{◌≡◌, refl, sym, ap}
use mathlib.Core.Bool.{true, false, not, true≢false}
use mathlib.Core.List.{List}
use borrow.Author.Tests.{le-leb}
use lib.Dec.{leb, eqb}
use lib.ListN.{length, get_or, drop}
use Rattle.format.specs.declared.Settings.{Settings}
use Rattle.format.specs.Check.{Check, Passed, Failed}
use Rattle.format.specs.Answer.{Answer, Refused, numbers_of}
use Rattle.format.specs.Rows.{first_row, header_rows}
use Rattle.format.specs.Reader.{reading_of, parsed, sheet, segments_answer, reading_answer, read}
use Rattle.format.specs.Bound.{formula, sheet_bound, EnoughFor}
use Rattle.format.proofs.Rows.{both}
use Rattle.format.proofs.Acceptance.{header-sized}
use Rattle.format.proofs.Longest.{sheet-bounded}
use Rattle.demands.specs.Demands.{SheetBound}
use Rattle.demands.proofs.Numbers.{last_number, Proper, header-first-proper, parse-proper}
use Rattle.demands.proofs.Written.{demand-2}

-- a row that applies has another number than 16
not_16 : (number field : ℕ) → Proper (Failed number field) → number ≡ 16 → ⊥
unfolding Proper
not_16 number field s e = let other : false ≡ true = rw e at (both (leb number last_number) (not (eqb number 16)) s.0).1 in true≢false (sym other)

-- for a length that a packet has, the bound is the formula
pub bound-is : (n : ℕ) → 32 ≤ n → n ≤ 65536 → sheet_bound n ≡ formula n
unfolding sheet_bound
bound-is n long short = rw (le-leb 32 n long, le-leb n 65536 short)

-- an answer's number
abbrev number_of : Answer → ℕ
number_of a = get_or (numbers_of a) 0 0

-- that of a reading, where so much is lent
never-16 : (settings : Settings) (l : List ℕ) (lent : ℕ) → sheet_bound (length l) ≤ lent → number_of (reading_answer settings l lent) ≡ 16 → ⊥
unfolding reading_answer numbers_of parsed
never-16 settings l lent h = go (first_row (header_rows settings l)) refl (header-first-proper settings l)
  where
    m : ℕ
    m = length (sheet settings l)

    ended : m ≤ lent → (c : Check) → Proper c
        → number_of (segments_answer (record { segments = (parsed settings l).segments; ending = c }) m lent) ≡ 16 → ⊥
    ended fits Passed s e = let z : ◌≡◌ {A = ℕ} 0 16 = rw (le-leb m lent fits) at e in absurd (omega arith)
    ended fits (Failed number field) s e = not_16 number field s e

    go : (c : Check) → first_row (header_rows settings l) ≡ c → Proper c
        → number_of (elim c [ Passed ↦ segments_answer (parsed settings l) m lent | Failed number field ↦ Refused number 0 field ]) ≡ 16 → ⊥
    go Passed e s =
        let sized = header-sized settings l e in
        let fits : m ≤ lent = omega (arith, sheet-bounded settings l, bound-is (length l) sized.long sized.short) in
        ended fits (parsed settings l).ending (parse-proper (reading_of settings l) (length (drop 32 l)) (drop 32 l)).1
    go (Failed number field) e s = not_16 number field s

-- so much is enough
pub enough : (n : ℕ) → EnoughFor n (sheet_bound n)
unfolding read numbers_of
enough n settings l lent segment field e h refused =
    never-16 settings l (length lent) (omega (arith, ap sheet_bound e)) (ap number_of refused)

pub sheet-bound : SheetBound
sheet-bound = record {
  at_most = λ settings l lent s d t n e. omega (arith, (demand-2.counts settings l lent s d t n e).length_is, sheet-bounded settings l);
  enough = enough;
}
