-- What a record adds with the row behind it: by the kind of the record, what the row is and what it gives.
-- Assumes nothing.
use mathlib.Core.Path.{◌≡◌, refl, sym, ap, ap₂, ◌∙◌}
use mathlib.Core.Bool.{Bool, true, false, ◌||◌, cond, true≢false}
use mathlib.Core.Logic.{◌⊎◌, inl, inr}
use mathlib.Core.List.{List, ◌++◌, append-nil}
use Prim.Native.Nat.{ℕ, zero, suc, ◌+◌, ◌-◌, ◌*◌, ◌/◌, ◌≤◌, ◌<◌}
use native.Mathlib.Nat.{sub-zero}
use native.Mathlib.Omega.{arith}
use borrow.Author.Tests.{eqb-true}
use lib.Dec.{eqb}
use lib.ListN.{length, get_or, take, drop, length-append, length-drop}
use lib.Seq.{sets, drop-drop, take-take, get_or-drop, get_or-take, length-take-le}
use Rattle.octets.specs.Octets.{be}
use Rattle.octets.proofs.Laws.{then}
use Rattle.hrr.specs.Hrr.{narrowed}
use Rattle.pack_hrr.specs.InnerNarrowed.{narrowed_all}
use Rattle.format.specs.Sheet.{Record, body_length}
use Rattle.format.specs.Lengths.{record_length}
use Rattle.format.specs.Dwell.{D}
use Rattle.format.specs.Writer.{Due, due, called_for, given_behind}
use Rattle.format.proofs.Rows.{both, neither}
use Rattle.format.proofs.Segments.{part-is}
use Rattle.sheet_walk.specs.InnerShape.{scatterers_behind, BeginsWith}
use Rattle.sheet_walk.proofs.Runs.{parted}
use Rattle.spelling.specs.InnerSpelling.{spelt, row_of, row_behind, row_given, given_in_row, read_next, spelt_next, carried_all, record_in}
use Rattle.spelling.proofs.Narrow.{widths_behind, narrowed-front, scatterer-narrowed}

-- ---- a record and its row

module _ (leader r : Record) (rest : List ℕ) where
  pub next-is : spelt leader r ++ given_in_row r rest ≡ spelt_next leader r rest
  unfolding spelt_next
  next-is = refl

  pub next-length : length (spelt leader r) + length (given_in_row r rest) ≡ length (spelt_next leader r rest)
  unfolding spelt_next
  next-length = sym (length-append (spelt leader r) (given_in_row r rest))

  -- where there is none
  module _ (e : row_behind r ≡ 0) where
    pub alone-next : spelt leader r ≡ spelt_next leader r rest
    unfolding spelt_next row_given
    alone-next = sym (ap (λ (n : ℕ). spelt leader r ++ row_given r (called_for r).kind n rest) e ∙ append-nil (spelt leader r))

    pub alone-read : 0 ≡ read_next r
    unfolding read_next
    alone-read = rw e (omega arith)

pub read_is : (r : Record) → row_behind r * record_length (called_for r).kind ≡ read_next r
unfolding read_next
read_is r = refl

-- a record that leads a row is of kind 5, 7 or 11
pub led-rows : (kind : ℕ) → (eqb kind 5 || eqb kind 7 || eqb kind 11) ≡ true → (kind ≡ 11 → ⊥) → (kind ≡ 5) ⊎ (kind ≡ 7)
led-rows kind e h = go (eqb kind 5) refl (eqb kind 7) refl (eqb kind 11) refl e
  where
    go : (a : Bool) → eqb kind 5 ≡ a → (b : Bool) → eqb kind 7 ≡ b → (c : Bool) → eqb kind 11 ≡ c → (a || b || c) ≡ true → (kind ≡ 5) ⊎ (kind ≡ 7)
    go true p b q c s e = inl (eqb-true kind 5 p)
    go false p true q c s e = inr (eqb-true kind 7 q)
    go false p false q true s e = absurd (h (eqb-true kind 11 s))
    go false p false q false s e = absurd (true≢false (sym e))

-- and one that is of none of them leads none
pub no_row : (kind : ℕ) (b : List ℕ) → (eqb kind 5 || eqb kind 7 || eqb kind 11) ≡ false → row_behind (record_in kind b) ≡ 0
unfolding row_of called_for
no_row kind b e =
    let rest = neither (eqb kind 5 || eqb kind 7) _ e in
    let two = neither (eqb kind 5) _ rest.0 in
    rw (two.0, two.1, rest.1) (go (eqb kind 3))
  where
    go : (t : Bool) → row_of (cond {A = Due} t (due 4 (D 5 (drop 8 b))) (due 0 0)) ≡ 0
    go true = refl
    go false = refl

-- ---- scatterers

module _ (b : List ℕ) where
  pub scatterers-due : called_for (record_in 11 b) ≡ due 12 (scatterers_behind b).count
  unfolding called_for
  scatterers-due = refl

  pub scatterers-row : row_behind (record_in 11 b) ≡ (scatterers_behind b).count
  unfolding row_of called_for
  scatterers-row = refl

-- one gives its numbers in the widths of the packet
scatterer-given : (leader : Record) (rest : List ℕ) → given_behind leader (record_in 12 (take (body_length 12) (drop 1 rest))) ≡ narrowed (widths_behind leader) (drop 1 rest)
unfolding body_length
scatterer-given leader rest = scatterer-narrowed leader (record_in 12 (take 8 (drop 1 rest))) refl ∙ narrowed-front (widths_behind leader) (drop 1 rest) 8 (omega arith)

pub scatterers-given : (leader : Record) (n : ℕ) (rest : List ℕ) → row_given leader 12 n rest ≡ narrowed_all (widths_behind leader) n rest
unfolding row_given narrowed_all
scatterers-given leader zero rest = refl
scatterers-given leader (suc n) rest = ap₂ ◌++◌ (scatterer-given leader rest) (scatterers-given leader n (drop (record_length 12) rest))

-- ---- pieces

module _ (kind : ℕ) (b : List ℕ) where
  pub text-due : kind ≡ 5 → called_for (record_in kind b) ≡ due 6 (be 4 (drop 20 b))
  unfolding called_for
  text-due e = rw e

  pub opaque-due : kind ≡ 7 → called_for (record_in kind b) ≡ due 6 (be 4 (drop 1 b))
  unfolding called_for
  opaque-due e = rw e

-- what is due where a record of kind 5 or 7 begins the segment
pub pieces-row : (r : Record) (n : ℕ) → called_for r ≡ due 6 n → (row_behind r ≡ n / 32) × ((called_for r).kind ≡ 6)
unfolding row_of
pieces-row r n e = (ap row_of e, ap (λ (d : Due). d.kind) e)

-- a full one gives 32 bytes
piece-given : (leader : Record) (rest : List ℕ) → BeginsWith 6 1 rest → given_behind leader (record { kind = 6; body = take (body_length 6) (drop 1 rest) }) ≡ take 32 (drop 2 rest)
unfolding given_behind body_length
piece-given leader rest b =
    let count : get_or (take 33 (drop 1 rest)) 0 0 ≡ 32 = get_or-take 33 (drop 1 rest) 0 0 (omega arith) ∙ get_or-drop 1 rest 0 0 ∙ eqb-true (get_or rest 1 0) 32 (both (eqb (get_or rest 0 0) 6) _ (b.each 0 (omega arith))).1 in
    ap (λ (n : ℕ). take n (drop 1 (take 33 (drop 1 rest)))) count
    ∙ ap (take 32) (sym (part-is 1 32 (drop 1 rest)))
    ∙ take-take 32 32 (drop 1 (drop 1 rest)) (omega arith)
    ∙ ap (take 32) (drop-drop 1 1 rest)

pub pieces-given : (leader : Record) (n : ℕ) (rest : List ℕ) → BeginsWith 6 n rest → row_given leader 6 n rest ≡ carried_all n rest
unfolding row_given carried_all
pieces-given leader zero rest b = refl
pieces-given leader (suc n) rest b =
    let e : suc n ≡ 1 + n = omega arith in
    let two = parted 6 1 n rest (rw e at b) in
    ap₂ ◌++◌ (piece-given leader rest two.0) (pieces-given leader n (drop (record_length 6) rest) two.1)

-- as many bytes
pub length-carried : (n : ℕ) (rest : List ℕ) → n * record_length 6 ≤ length rest → length (carried_all n rest) ≡ n * 32
unfolding carried_all
length-carried zero rest h = refl
length-carried (suc n) rest h =
    length-append (take 32 (drop 2 rest)) (carried_all n (drop (record_length 6) rest))
    ∙ omega (arith, length-take-le 32 (drop 2 rest) (rw length-drop (omega arith)), length-carried n (drop (record_length 6) rest) (rw length-drop (omega arith)))

-- the loop that stores them: once piece i is stored, what is left to store still gives all of them
pub carried-next : (count i : ℕ) (rest o all : List ℕ) {m : List ℕ} → i < count → count * record_length 6 ≤ length rest
    → m ≡ sets o (i * 32) (take 32 (drop (2 + i * record_length 6) rest)) → sets o (i * 32) (carried_all (count - i) (drop (i * record_length 6) rest)) ≡ all
    → sets m ((i + 1) * 32) (carried_all (count - (i + 1)) (drop ((i + 1) * record_length 6) rest)) ≡ all
unfolding carried_all
carried-next count i rest o all {m} h room hm e =
    let at = i * record_length 6 in
    let k = count - (i + 1) in
    let more : count - i ≡ suc k = omega arith in
    let to : (i + 1) * 32 ≡ i * 32 + 32 = omega arith in
    let two : at + 2 ≡ 2 + at = omega arith in
    let later : at + record_length 6 ≡ (i + 1) * record_length 6 = omega arith in
    let here = take 32 (drop 2 (drop at rest)) in
    let here-is : take 32 (drop (2 + at) rest) ≡ here = ap (take 32) (ap (λ (n : ℕ). drop n rest) (sym two) ∙ sym (drop-drop 2 at rest)) in
    let long : length here ≡ 32 = length-take-le 32 (drop 2 (drop at rest)) (omega (arith, length-drop 2 (drop at rest), length-drop at rest)) in
    let behind : drop (record_length 6) (drop at rest) ≡ drop ((i + 1) * record_length 6) rest = drop-drop (record_length 6) at rest ∙ ap (λ (n : ℕ). drop n rest) later in
    ap₂ (λ (n : ℕ) (y : List ℕ). sets m n (carried_all k y)) to (sym behind)
    ∙ then here (carried_all k (drop (record_length 6) (drop at rest))) o (i * 32) 32 (hm ∙ ap (sets o (i * 32)) here-is) long refl
    ∙ sym (ap (λ (n : ℕ). sets o (i * 32) (carried_all n (drop at rest))) more)
    ∙ e

-- at first all are left to store, and at the end none
pub carried_first : (count : ℕ) (rest o : List ℕ) → sets o (0 * 32) (carried_all (count - 0) (drop (0 * record_length 6) rest)) ≡ sets o 0 (carried_all count rest)
carried_first count rest o = rw sub-zero

pub carried-last : (count i : ℕ) (rest o w : List ℕ) → count ≤ i → sets o (i * 32) (carried_all (count - i) (drop (i * record_length 6) rest)) ≡ w → o ≡ w
unfolding carried_all
carried-last count i rest o w h e = let n : count - i ≡ 0 = omega arith in rw n at e
