-- Lines of fields: two lines, one after the other, are one; a line that is announced whole is copied, and one that is not announced at all
-- is passed over. Assumes nothing.
use mathlib.Core.Path.{◌≡◌, refl, sym, ap, ◌∙◌}
use mathlib.Core.Bool.{Bool, true, not, and-eq-true_iff}
use mathlib.Core.List.{List, [], ◌∷◌, ◌++◌}
use Prim.Native.Nat.{ℕ, suc, ◌+◌, ◌≤◌}
use native.Mathlib.Nat.{add_assoc}
use native.Mathlib.Omega.{arith}
use borrow.Author.Tests.{eqb-true, not-true}
use lib.Bits.{bit_and}
use lib.Dec.{eqb}
use lib.ListN.{length, take, drop, length-drop}
use lib.Seq.{sets, drop-drop, take-add}
use Rattle.octets.specs.Layout.{total}
use Rattle.octets.proofs.Laws.{then}
use Rattle.mask.specs.Fields.{announced, announced_length, announced_fields}
use Rattle.mask.proofs.FullWidth.{length-announced, announced-append, fields-append}
use Rattle.unpack.proofs.Together.{all_set, none_set}
use Rattle.unpack.proofs.Lines.{total-append, all_of, none_of, all-length, none-length}
use Rattle.unpack.specs.declared.Cursor.{Cursor}
use Rattle.unpack.specs.InnerLaid.{Stored}
use Rattle.pack.specs.InnerPacked.{PackableFor, PackedBy}

-- a line of the widths us, then one of the widths vs where it ends, is a line of both, if s has the fields of both
pub onward : {n : ℕ} {us vs : List ℕ} {u v w : Cursor} → (u.p + total us ≤ length u.s.now → PackedBy n us u v)
    → PackedBy (n + length us) vs v w → u.p + (total us + total vs) ≤ length u.s.now → PackedBy n (us ++ vs) u w
onward {n} {us} {vs} {u} {v} {w} line g h =
    let f = line (omega arith) in
    let m = announced_length u.mask n us in
    let s = u.s.now in
    let long : total us ≤ length (drop u.p s) = rw (length-drop u.p s) (omega arith) in
    let rest : w.o.now ≡ sets v.o.now (u.q + m) (announced_fields u.mask (n + length us) vs (drop (u.p + total us) s)) =
    g.stored ∙ (rw (f.behind, f.masked, f.next, f.given)) in
    record {
      next = g.next ∙ rw (f.next, add_assoc u.p (total us) (total vs), total-append us vs);
      behind = g.behind ∙ rw (f.behind, f.masked, add_assoc u.q m (announced_length u.mask (n + length us) vs), announced-append u.mask n us vs);
      stored =
          then (announced_fields u.mask n us (drop u.p s)) (announced_fields u.mask (n + length us) vs (drop (u.p + total us) s)) u.o.now u.q m f.stored
          (length-announced u.mask n us (drop u.p s) long) rest
          ∙ rw (fields-append u.mask n us vs (drop u.p s), drop-drop (total us) u.p s);
      long = g.long ∙ f.long;
      given = g.given ∙ f.given;
      masked = g.masked ∙ f.masked;
      lent = g.lent ∙ f.lent;
    }

-- where all are announced, they are the bytes themselves; where none is, nothing
all-announced : (mask n : ℕ) (ws full : List ℕ) → all_set mask n ws ≡ true → announced_fields mask n ws full ≡ take (total ws) full
unfolding announced_fields total
all-announced mask n [] full h = refl
all-announced mask n (w ∷ ws) full h =
    let k = (and-eq-true_iff (announced mask n) (all_set mask (suc n) ws)).0 h in rw (k.0, all-announced mask (suc n) ws (drop w full) k.1, take-add w (total ws) full)

none-announced : (mask n : ℕ) (ws full : List ℕ) → none_set mask n ws ≡ true → announced_fields mask n ws full ≡ []
unfolding announced_fields
none-announced mask n [] full h = refl
none-announced mask n (w ∷ ws) full h =
    let k = (and-eq-true_iff (not (announced mask n)) (none_set mask (suc n) ws)).0 h in rw (not-true (announced mask n) k.0, none-announced mask (suc n) ws (drop w full) k.1)

-- what is announced whole is packed by a copy; what is not announced at all, by nothing. One field is a block of one
module _ {n : ℕ} {ws : List ℕ} {u : Cursor} where
  pub block_needs : PackableFor n ws u → all_set u.mask n ws ≡ true → (u.p + total ws ≤ length u.s.now) × (u.q + total ws ≤ length u.o.now)
  block_needs h e = omega (arith, all-length u.mask n ws e, h.held, h.room)

  module _ {v : Cursor} {k : ℕ} where
    pub block : k ≡ total ws → all_set u.mask n ws ≡ true → Stored k k (sets u.o.now u.q (take k (drop u.p u.s.now))) u v → PackedBy n ws u v
    block i e f =
        record {
          next = f.next ∙ ap (λ (m : ℕ). u.p + m) i;
          behind = f.behind ∙ ap (λ (m : ℕ). u.q + m) (i ∙ sym (all-length u.mask n ws e));
          stored = f.stored ∙ ap (λ (m : ℕ). sets u.o.now u.q (take m (drop u.p u.s.now))) i ∙ ap (sets u.o.now u.q) (sym (all-announced u.mask n ws (drop u.p u.s.now) e));
          long = f.long;
          given = f.given;
          masked = f.masked;
          lent = f.lent;
        }

    pub blank : k ≡ total ws → none_set u.mask n ws ≡ true → Stored k 0 u.o.now u v → PackedBy n ws u v
    blank i e f =
        record {
          next = f.next ∙ ap (λ (m : ℕ). u.p + m) i;
          behind = omega (arith, f.behind, none-length u.mask n ws e);
          stored = f.stored ∙ ap (sets u.o.now u.q) (sym (none-announced u.mask n ws (drop u.p u.s.now) e));
          long = f.long;
          given = f.given;
          masked = f.masked;
          lent = f.lent;
        }

  -- the same by a test of the set of these fields
  module _ {b : Bool} (set : ℕ) where
    pub copied-needs : PackableFor n ws u → b ≡ eqb (bit_and u.mask set) set → b ≡ true → all_set set n ws ≡ true → (u.p + total ws ≤ length u.s.now) × (u.q + total ws ≤ length u.o.now)
    copied-needs h e t every = block_needs h (all_of u.mask set n ws (eqb-true _ _ (sym e ∙ t)) every)

    module _ {v : Cursor} where
      pub copied : b ≡ eqb (bit_and u.mask set) set → b ≡ true → all_set set n ws ≡ true → Stored (total ws) (total ws) (sets u.o.now u.q (take (total ws) (drop u.p u.s.now))) u v → PackedBy n ws u v
      copied e t every f = block refl (all_of u.mask set n ws (eqb-true _ _ (sym e ∙ t)) every) f

      pub passed : b ≡ eqb (bit_and u.mask set) 0 → b ≡ true → all_set set n ws ≡ true → Stored (total ws) 0 u.o.now u v → PackedBy n ws u v
      passed e t every f = blank refl (none_of u.mask set n ws (eqb-true _ _ (sym e ∙ t)) every) f

-- what is packed, where the next place is worked out from the first: j is what the branches leave, of which this one has left v
module _ {n : ℕ} {ws : List ℕ} {u : Cursor} (j : Cursor) {k : ℕ} where
  pub ending : {v : Cursor} → j ≡ v → k ≡ u.p + total ws → PackedBy n ws u v → PackedBy n ws u (record { s = j.s; p = k; mask = j.mask; o = j.o; q = j.q })
  ending e i f = rw e (record { next = i; behind = f.behind; stored = f.stored; long = f.long; given = f.given; masked = f.masked; lent = f.lent })

  -- where none is announced, it has left all as it was
  pub passing : {b : Bool} (set : ℕ) → j ≡ u → k ≡ u.p + total ws → b ≡ eqb (bit_and u.mask set) 0 → b ≡ true → all_set set n ws ≡ true
      → PackedBy n ws u (record { s = j.s; p = k; mask = j.mask; o = j.o; q = j.q })
  passing set e i f t every =
      rw e (passed set f t every (record { next = i; behind = omega arith; stored = refl; long = refl; given = refl; masked = refl; lent = refl }))
