-- What the code stores in the body of a record is what the definition puts there.
-- Assumes nothing.
use Prim.Native.Nat.{ℕ, ◌+◌, ◌≤◌}
use native.Mathlib.Omega.{arith}
use mathlib.Core.Path.{◌≡◌, refl, sym, ap, ◌∙◌}
use mathlib.Core.List.{List, [], ◌∷◌}
use borrow.Author.Tests.{eq-eqb, ne_eqb}
use lib.ListN.{length}
use lib.Seq.{sets}
use Rattle.octets.specs.Layout.{width, offset, field, replaced, copied}
use Rattle.octets.proofs.Laws.{stores-are}
use Rattle.octets.proofs.Layouts.{length-field, length-copied}
use Rattle.format.specs.Sheet.{Record, body_length}
use Rattle.demands.specs.Filled.{filled_record}

-- stores from the place of a field on put the bytes into the field
stored-field : (ws : List ℕ) (n : ℕ) (v b : List ℕ) → length v ≡ width 1 ws n → offset 1 ws n + width 1 ws n ≤ length b
    → sets b (offset 1 ws n) v ≡ replaced 1 ws n v b
unfolding replaced
stored-field ws n v b e h = stores-are v b (offset 1 ws n) (omega arith) ∙ rw e

-- a record of the kind
abbrev of_kind : ℕ → List ℕ → Record
of_kind kind b = record { kind = kind; body = b }

-- the field of q stored, and then its mark, in a record of the kind that has them
pub filled-as : (k : ℕ) (ws : List ℕ) (n mark : ℕ) (b q : List ℕ) {kind : ℕ} {p : List ℕ} → length b ≡ body_length kind → length q ≡ body_length kind → kind ≡ k
    → offset 1 ws n + width 1 ws n ≤ body_length k → offset 1 ws mark + width 1 ws mark ≤ body_length k → width 1 ws mark ≡ 1
    → replaced 1 ws mark (1 ∷ []) (copied 1 ws n q b) ≡ (filled_record (of_kind k b) (of_kind k q)).body
    → p ≡ sets b (offset 1 ws n) (field 1 ws n q)
    → sets p (offset 1 ws mark) (1 ∷ []) ≡ (filled_record (of_kind kind b) (of_kind kind q)).body
filled-as k ws n mark b q hb hq e within last one is stored =
    let lb : length b ≡ body_length k = hb ∙ ap body_length e in
    let lq : length q ≡ body_length k = hq ∙ ap body_length e in
    let both = length-copied 1 ws n q b (omega arith) (omega arith) in
    ap (λ (l : List ℕ). sets l (offset 1 ws mark) (1 ∷ [])) (stored ∙ stored-field ws n (field 1 ws n q) b (length-field 1 ws n q (omega arith)) (omega arith))
    ∙ stored-field ws mark (1 ∷ []) (copied 1 ws n q b) (sym one) (omega (arith, both))
    ∙ is
    ∙ sym (ap (λ (m : ℕ). (filled_record (of_kind m b) (of_kind m q)).body) e)

-- a record of any other kind is left as it was
pub filled_none : (kind : ℕ) (b q : List ℕ) → (kind ≡ 3 → ⊥) → (kind ≡ 8 → ⊥) → b ≡ (filled_record (of_kind kind b) (of_kind kind q)).body
unfolding filled_record
filled_none kind b q h3 h8 = rw (eq-eqb kind kind refl, ne_eqb kind 3 h3, ne_eqb kind 8 h8)

-- and so is one that meets one of another kind
pub filled_apart : (kind other : ℕ) (b q : List ℕ) → (kind ≡ other → ⊥) → b ≡ (filled_record (of_kind kind b) (of_kind other q)).body
unfolding filled_record
filled_apart kind other b q h = rw (ne_eqb kind other h)
