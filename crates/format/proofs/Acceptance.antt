-- What an accepted reading says: no row applies to the header, the walk over the segments ends with the packet, the sheet fits, and
-- the counts and the length are those of what was read.
-- Assumes nothing.
use Prim.Native.Nat.{ℕ, ◌+◌, ◌≤◌}
use native.Mathlib.Omega.{arith}
use mathlib.Core.Path.{◌≡◌, refl, sym, ap, ◌∙◌}
use mathlib.Core.Bool.{Bool, true, false, cond, ◌&&◌, ◌||◌, true≢false}
use mathlib.Core.List.{List}
use borrow.Author.Tests.{leb-true, ltb-false, le-leb, eqb-true, not-false}
use lib.Dec.{ltb, leb, eqb}
use lib.ListN.{length, get_or}
use Rattle.octets.specs.Layout.{over}
use Rattle.octets.specs.Octets.{between}
use Rattle.format.specs.declared.Settings.{Settings}
use Rattle.format.specs.Check.{Check, Passed, Failed}
use Rattle.format.specs.Answer.{Answer, Accepted, Refused, outcome, left_by}
use Rattle.format.specs.Packet.{is_p1}
use Rattle.format.specs.Rows.{first_row, header_rows}
use Rattle.format.specs.Reader.{parsed, sheet, dwells_in, targets_in, segments_answer, reading_answer, read}
use Rattle.format.proofs.Rows.{first_passes, neither}

-- an answer does not both accept and refuse
pub no-refusal : {A : Type 0} (number segment field s d t n : ℕ) → Refused number segment field ≡ Accepted s d t n → A
no-refusal number segment field s d t n e = let z : ◌≡◌ {A = ℕ} 0 1 = cc in absurd (omega arith)

-- equal acceptances have equal counts, whatever length stands beside them
pub same-counts : (s d t n s' d' t' n' m : ℕ) → Accepted s d t n ≡ Accepted s' d' t' n' → Accepted s d t m ≡ Accepted s' d' t' m
same-counts s d t n s' d' t' n' m e = cc

-- and equal lengths
pub same_length : (s d t n s' d' t' n' : ℕ) → Accepted s d t n ≡ Accepted s' d' t' n' → n ≡ n'
same_length s d t n s' d' t' n' e = cc

-- the packet l is accepted where so many bytes are lent
pub record Acceptable (settings : Settings) (l : List ℕ) (lent : ℕ) : Type 0 where
  pub header : first_row (header_rows settings l) ≡ Passed
  pub ending : (parsed settings l).ending ≡ Passed
  pub fits : length (sheet settings l) ≤ lent

-- the answer that it then gets
abbrev pub answer_of : Settings → List ℕ → Answer
answer_of settings l =
    Accepted (length (parsed settings l).segments) (dwells_in (parsed settings l).segments) (targets_in (parsed settings l).segments) (length (sheet settings l))

module _ (settings : Settings) (l : List ℕ) (lent : ℕ) where
  -- the answer by how the walk over the segments ends, and by the first row of the header
  abbrev segments_read : Check → Answer
  segments_read c = segments_answer (record { segments = (parsed settings l).segments; ending = c }) (length (sheet settings l)) lent

  abbrev header_read : Check → Answer
  header_read c = elim c [ Passed ↦ segments_read (parsed settings l).ending | Failed number field ↦ Refused number 0 field ]

  -- an acceptable packet is accepted
  pub accepted-when : Acceptable settings l lent → reading_answer settings l lent ≡ answer_of settings l
  unfolding reading_answer
  accepted-when a = ap header_read a.header ∙ ap segments_read a.ending ∙ rw (le-leb _ _ a.fits)

  -- and no other one
  pub accepted-only : (s d t n : ℕ) → reading_answer settings l lent ≡ Accepted s d t n → Acceptable settings l lent × (answer_of settings l ≡ Accepted s d t n)
  unfolding reading_answer
  accepted-only s d t n e = go (first_row (header_rows settings l)) (parsed settings l).ending (leb (length (sheet settings l)) lent) refl refl refl e
    where
      go : (c c' : Check) (b : Bool) → first_row (header_rows settings l) ≡ c → (parsed settings l).ending ≡ c' → leb (length (sheet settings l)) lent ≡ b
          → elim c [
            | Passed ↦ elim c' [ Passed ↦ cond b (answer_of settings l) (Refused 16 0 0) | Failed number field ↦ Refused number (length (parsed settings l).segments + 1) field ]
            | Failed number field ↦ Refused number 0 field
          ] ≡ Accepted s d t n
          → Acceptable settings l lent × (answer_of settings l ≡ Accepted s d t n)
      go (Failed number field) c' b h p f e = no-refusal _ _ _ s d t n e
      go Passed (Failed number field) b h p f e = no-refusal _ _ _ s d t n e
      go Passed Passed false h p f e = no-refusal _ _ _ s d t n e
      go Passed Passed true h p f e = (record { header = h; ending = p; fits = leb-true _ _ f }, e)

-- an accepted packet has 32 to 65,536 bytes
pub record Sized (l : List ℕ) : Type 0 where
  pub long : 32 ≤ length l
  pub short : length l ≤ 65536

-- by row 2
pub header-sized : (settings : Settings) (l : List ℕ) → first_row (header_rows settings l) ≡ Passed → Sized l
unfolding header_rows
header-sized settings l e =
    let one = first_passes _ _ e in
    let two = first_passes _ _ one.1 in
    let sizes = neither (ltb (length l) 32) (ltb 65536 (length l)) two.0 in
    record { long = ltb-false _ _ sizes.0; short = ltb-false _ _ sizes.1 }

-- the first character of P1 is 1 or 3, so the version is its distance from the character 0
digit : (a b : ℕ) → ((eqb a 0x31 || eqb a 0x33) && between 0x30 0x39 b) ≡ true → 48 ≤ a
digit a b e = go (eqb a 0x31) (eqb a 0x33) refl refl e
  where
    go : (x y : Bool) → eqb a 0x31 ≡ x → eqb a 0x33 ≡ y → ((x || y) && between 0x30 0x39 b) ≡ true → 48 ≤ a
    go true y hx hy e = omega (arith, eqb-true a 0x31 hx)
    go false true hx hy e = omega (arith, eqb-true a 0x33 hy)
    go false false hx hy e = absurd (true≢false (sym e))

-- so in a header to which no row applies
pub header-digit : (settings : Settings) (l : List ℕ) → first_row (header_rows settings l) ≡ Passed → 48 ≤ get_or l 0 0
unfolding header_rows is_p1
header-digit settings l e =
    let one = first_passes _ _ e in
    let two = first_passes _ _ one.1 in
    let three = first_passes _ _ two.1 in
    digit (get_or l 0 0) (get_or l 1 0) (not-false _ three.0)

-- ---- what an accepted reading leaves

-- the sheet is laid over what was lent
pub read-when : (settings : Settings) (l lent : List ℕ) → Acceptable settings l (length lent) → read settings l lent ≡ outcome (answer_of settings l) (over (sheet settings l) lent)
unfolding read left_by
read-when settings l lent a =
    ap (λ (c : Answer). outcome c (left_by c (sheet settings l) lent)) (accepted-when settings l (length lent) a)

-- an accepted packet is acceptable
pub read_only : (settings : Settings) (l lent : List ℕ) (s d t n : ℕ) → (read settings l lent).answer ≡ Accepted s d t n
    → Acceptable settings l (length lent) × (answer_of settings l ≡ Accepted s d t n)
unfolding read
read_only settings l lent s d t n e = accepted-only settings l (length lent) s d t n e
