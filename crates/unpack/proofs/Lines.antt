-- Lines of fields: what is laid out in two steps, one after the other, is laid out in one; blocks of fields, which a copy or zeros lay out;
-- and fields laid out onto zeros.
-- Assumes nothing.
use mathlib.Core.Path.{◌≡◌, refl, sym, ap, ◌∙◌}
use mathlib.Core.Bool.{Bool, true, false, not, ◌&&◌, and-true, and-eq-true_iff}
use mathlib.Core.List.{List, [], ◌∷◌, ◌++◌, append_assoc}
use Prim.Native.Nat.{ℕ, zero, suc, ◌+◌, ◌-◌, ◌≤◌}
use native.Mathlib.Nat.{suc-add, zero-add, add_assoc}
use native.Mathlib.Omega.{arith}
use lib.Bits.{bit_and}
use lib.Dec.{eqb}
use borrow.Author.Tests.{eqb-true, not-true}
use lib.ListN.{length, set, take, drop, length-drop, take-append-drop}
use lib.Seq.{sets, sets-eq, drop-set-lt, drop-drop, take-take, take-add, take_at, drop_at, length-take-le}
use Rattle.octets.specs.Layout.{pad, total}
use Rattle.octets.proofs.Laws.{then}
use Rattle.octets.proofs.Layouts.{length-pad, pad-take}
use Rattle.copies.proofs.Stores.{sets-again}
use Rattle.mask.specs.Fields.{announced, announced_length, full_fields}
use Rattle.mask.proofs.FullWidth.{length-full, announced-append, full-append}
use Rattle.mask.proofs.Bit.{set-and, set-none}
use Rattle.unpack.specs.declared.Cursor.{Cursor}
use Rattle.unpack.specs.InnerLaid.{RoomFor, Stored, Moved, Clear}
use Rattle.unpack.proofs.Together.{all_set, none_set}

-- ---- lines

-- the lengths of two lines
pub total-append : (us vs : List ℕ) → total (us ++ vs) ≡ total us + total vs
unfolding total
total-append [] vs = omega arith
total-append (u ∷ us) vs = omega (arith, total-append us vs)

module _ {n : ℕ} {us vs : List ℕ} {u v w : Cursor} where
  -- fields of the widths us laid out, then of the widths vs where they end, are fields of both laid out
  pub onward : Moved n us u v → Moved (n + length us) vs v w → Moved n (us ++ vs) u w
  onward f g =
      let m = announced_length u.mask n us in
      let s = u.s.now in
      let rest : List ℕ → List ℕ = λ x. full_fields u.mask (n + length us) vs x in
      record {
        next = g.next ∙ rw (f.next, f.masked, add_assoc u.p m (announced_length u.mask (n + length us) vs), announced-append u.mask n us vs);
        behind = g.behind ∙ rw (f.behind, add_assoc u.q (total us) (total vs), total-append us vs);
        stored =
            then (full_fields u.mask n us (drop u.p s)) (rest (drop (u.p + m) s)) u.o.now u.q (total us) f.stored (length-full u.mask n us (drop u.p s))
            (g.stored ∙ rw (f.behind, f.masked, f.next, f.given))
            ∙ ap (sets u.o.now u.q)
            (ap (λ (x : List ℕ). full_fields u.mask n us (drop u.p s) ++ rest x) (sym (drop-drop m u.p s)) ∙ sym (full-append u.mask n us vs (drop u.p s)));
        long = g.long ∙ f.long;
        given = g.given ∙ f.given;
        masked = g.masked ∙ f.masked;
        lent = g.lent ∙ f.lent;
      }

-- ---- blocks: fields that are announced together, or not at all

-- a mask that has the whole word has every field of the word; one that has nothing of it has none
pub all_of : (mask word n : ℕ) (ws : List ℕ) → bit_and mask word ≡ word → all_set word n ws ≡ true → all_set mask n ws ≡ true
all_of mask word n [] e h = refl
all_of mask word n (w ∷ ws) e h =
    let k = (and-eq-true_iff (announced word n) (all_set word (suc n) ws)).0 h in
    let t = (and-eq-true_iff (announced mask n) (announced word n)).0 (sym (set-and mask word n) ∙ ap (λ (v : ℕ). announced v n) e ∙ k.0) in
    rw (t.0, all_of mask word (suc n) ws e k.1)

pub none_of : (mask word n : ℕ) (ws : List ℕ) → bit_and mask word ≡ 0 → all_set word n ws ≡ true → none_set mask n ws ≡ true
none_of mask word n [] e h = refl
none_of mask word n (w ∷ ws) e h =
    let k = (and-eq-true_iff (announced word n) (all_set word (suc n) ws)).0 h in
    let t : announced mask n ≡ false =
    sym (and-true (announced mask n)) ∙ ap (λ (v : Bool). announced mask n && v) (sym k.0) ∙ sym (set-and mask word n) ∙ ap (λ (v : ℕ). announced v n) e ∙ set-none n in
    rw (t, none_of mask word (suc n) ws e k.1)

-- where all are announced, they take all their widths, and at full widths they are the bytes themselves
pub all-length : (mask n : ℕ) (ws : List ℕ) → all_set mask n ws ≡ true → announced_length mask n ws ≡ total ws
unfolding announced_length total
all-length mask n [] h = refl
all-length mask n (w ∷ ws) h = let k = (and-eq-true_iff (announced mask n) (all_set mask (suc n) ws)).0 h in rw (k.0, all-length mask (suc n) ws k.1)

all-full : (mask n : ℕ) (ws b : List ℕ) → all_set mask n ws ≡ true → total ws ≤ length b → full_fields mask n ws b ≡ take (total ws) b
unfolding full_fields total
all-full mask n [] b h i = refl
all-full mask n (w ∷ ws) b h i =
    let k = (and-eq-true_iff (announced mask n) (all_set mask (suc n) ws)).0 h in
    rw (k.0, pad-take w b (omega arith), all-full mask (suc n) ws (drop w b) k.1 (rw (length-drop w b) (omega arith)), take-add w (total ws) b)

-- where none is, they take nothing, and at full widths they are zeros
pub none-length : (mask n : ℕ) (ws : List ℕ) → none_set mask n ws ≡ true → announced_length mask n ws ≡ 0
unfolding announced_length
none-length mask n [] h = refl
none-length mask n (w ∷ ws) h = let k = (and-eq-true_iff (not (announced mask n)) (none_set mask (suc n) ws)).0 h in rw (not-true (announced mask n) k.0, none-length mask (suc n) ws k.1)

zeros-append : (j k : ℕ) → pad (j + k) [] ≡ pad j [] ++ pad k []
unfolding pad
zeros-append zero k = rw zero-add
zeros-append (suc j) k = rw suc-add (ap (λ (t : List ℕ). 0 ∷ t) (zeros-append j k))

none-full : (mask n : ℕ) (ws b : List ℕ) → none_set mask n ws ≡ true → full_fields mask n ws b ≡ pad (total ws) []
unfolding full_fields total pad
none-full mask n [] b h = refl
none-full mask n (w ∷ ws) b h =
    let k = (and-eq-true_iff (not (announced mask n)) (none_set mask (suc n) ws)).0 h in rw (not-true (announced mask n) k.0, none-full mask (suc n) ws b k.1, zeros-append w (total ws))

-- what is announced whole is laid out by a copy; what is not announced at all, by zeros. One field is a block of one
module _ {n : ℕ} {ws : List ℕ} {u : Cursor} where
  pub block_needs : RoomFor n ws u → all_set u.mask n ws ≡ true → (u.p + total ws ≤ length u.s.now) × (u.q + total ws ≤ length u.o.now)
  block_needs h e = omega (arith, all-length u.mask n ws e, h.held, h.room)

  module _ {v : Cursor} {k : ℕ} where
    pub block : k ≡ total ws → RoomFor n ws u → all_set u.mask n ws ≡ true → Stored k k (sets u.o.now u.q (take k (drop u.p u.s.now))) u v → Moved n ws u v
    block i h e f =
        let needs = block_needs h e in
        record {
          next = f.next ∙ ap (λ (m : ℕ). u.p + m) (i ∙ sym (all-length u.mask n ws e));
          behind = f.behind ∙ ap (λ (m : ℕ). u.q + m) i;
          stored = f.stored ∙ ap (λ (m : ℕ). sets u.o.now u.q (take m (drop u.p u.s.now))) i ∙ ap (sets u.o.now u.q) (sym (all-full u.mask n ws (drop u.p u.s.now) e (rw (length-drop u.p u.s.now) (omega (arith, needs)))));
          long = f.long;
          given = f.given;
          masked = f.masked;
          lent = f.lent;
        }

    pub blank : k ≡ total ws → none_set u.mask n ws ≡ true → Stored 0 k (sets u.o.now u.q (pad k [])) u v → Moved n ws u v
    blank i e f =
        record {
          next = f.next ∙ ap (λ (m : ℕ). u.p + m) (sym (none-length u.mask n ws e));
          behind = f.behind ∙ ap (λ (m : ℕ). u.q + m) i;
          stored = f.stored ∙ ap (λ (m : ℕ). sets u.o.now u.q (pad m [])) i ∙ ap (sets u.o.now u.q) (sym (none-full u.mask n ws (drop u.p u.s.now) e));
          long = f.long;
          given = f.given;
          masked = f.masked;
          lent = f.lent;
        }

  -- the same by a test of the set of these fields
  module _ {b : Bool} (set : ℕ) where
    pub copied-needs : RoomFor n ws u → b ≡ eqb (bit_and u.mask set) set → b ≡ true → all_set set n ws ≡ true → (u.p + total ws ≤ length u.s.now) × (u.q + total ws ≤ length u.o.now)
    copied-needs h e t every = block_needs h (all_of u.mask set n ws (eqb-true _ _ (sym e ∙ t)) every)

    module _ {v : Cursor} where
      pub copied : RoomFor n ws u → b ≡ eqb (bit_and u.mask set) set → b ≡ true → all_set set n ws ≡ true → Stored (total ws) (total ws) (sets u.o.now u.q (take (total ws) (drop u.p u.s.now))) u v → Moved n ws u v
      copied h e t every f = block refl h (all_of u.mask set n ws (eqb-true _ _ (sym e ∙ t)) every) f

      pub cleared : b ≡ eqb (bit_and u.mask set) 0 → b ≡ true → all_set set n ws ≡ true → Stored 0 (total ws) (sets u.o.now u.q (pad (total ws) [])) u v → Moved n ws u v
      cleared e t every f = blank refl (none_of u.mask set n ws (eqb-true _ _ (sym e ∙ t)) every) f

-- ---- onto zeros

-- of m zeros from q on, the first j; and the k from j behind q on
pub clear-front : (j : ℕ) {m q : ℕ} {l : List ℕ} → j ≤ m → Clear m l q → Clear j l q
clear-front j {m} {q} {l} h c =
    let n : m ≡ j + (m - j) = omega arith in
    record {
      zeros = sym (take-take j m (drop q l) h) ∙ ap (take j) (c.zeros ∙ ap (λ (i : ℕ). pad i []) n ∙ zeros-append j (m - j))
          ∙ take_at (pad j []) (pad (m - j) []) j (length-pad j []);
    }

clear-part : (j k : ℕ) {m q : ℕ} {l : List ℕ} → j + k ≤ m → Clear m l q → Clear k l (q + j)
clear-part j k {m} {q} {l} h c =
    let both = (clear-front (j + k) h c).zeros in
    let front = (clear-front j (omega arith) c).zeros in
    let part = take k (drop j (drop q l)) in
    let joined : pad j [] ++ part ≡ pad j [] ++ pad k [] =
    ap (λ (x : List ℕ). x ++ part) (sym front) ∙ sym (take-add j k (drop q l)) ∙ both ∙ zeros-append j k in
    record {
      zeros = ap (take k) (sym (drop-drop j q l)) ∙ sym (drop_at (pad j []) part j (length-pad j [])) ∙ ap (drop j) joined
          ∙ drop_at (pad j []) (pad k []) j (length-pad j []);
    }

-- stores in front of a place leave everything from it on
drop-sets : (vs l : List ℕ) (i n : ℕ) → i + length vs ≤ n → drop n (sets l i vs) ≡ drop n l
drop-sets [] l i n h = refl
drop-sets (v ∷ vs) l i n h = drop-sets vs (set l i v) (suc i) n (omega arith) ∙ drop-set-lt n l i v (omega arith)

-- so fields that are laid out leave the zeros behind them
pub clear_behind : {n m : ℕ} {us : List ℕ} {u v : Cursor} (k : ℕ) → total us + k ≤ m → Clear m u.o.now u.q → Moved n us u v → Clear k v.o.now v.q
clear_behind {n} {m} {us} {u} {v} k h c f =
    let full = full_fields u.mask n us (drop u.p u.s.now) in
    let same = ap (drop (u.q + total us)) f.stored ∙ drop-sets full u.o.now u.q (u.q + total us) (omega (arith, length-full u.mask n us (drop u.p u.s.now))) in
    record { zeros = ap (λ (x : ℕ). take k (drop x v.o.now)) f.behind ∙ ap (take k) same ∙ (clear-part (total us) k h c).zeros }

module _ {n : ℕ} {ws : List ℕ} {u : Cursor} where
  -- where zeros were stored, they are
  pub clear-stored : {a : List ℕ} → RoomFor n ws u → a ≡ sets u.o.now u.q (pad (total ws) []) → Clear (total ws) a u.q
  clear-stored h ha =
      let long = length-pad (total ws) [] in
      let z = pad (total ws) [] in
      let q = u.q in
      let l = u.o.now in
      let rest = drop (q + length z) l in
      let i : q + length z ≤ length l = omega (arith, long, h.room) in
      record {
        zeros = ap (λ (x : List ℕ). take (total ws) (drop q x)) (ha ∙ sets-eq z l q i ∙ append_assoc (take q l) z rest)
            ∙ ap (take (total ws)) (drop_at (take q l) (z ++ rest) q (length-take-le q l (omega arith)))
            ∙ take_at z rest (total ws) long;
      }

  -- fields of which none is announced are laid out where their places have zeros already
  pub blank-there : {v : Cursor} {k : ℕ} → k ≡ total ws → RoomFor n ws u → none_set u.mask n ws ≡ true → Clear k u.o.now u.q → Stored 0 k u.o.now u v → Moved n ws u v
  blank-there {k = k} j h e c₀ f =
      let c : Clear (total ws) u.o.now u.q = record { zeros = rw (← j) c₀.zeros } in
      let long = length-pad (total ws) [] in
      let z = pad (total ws) [] in
      let q = u.q in
      let l = u.o.now in
      let i : q + length z ≤ length l = omega (arith, long, h.room) in
      let there : z ++ drop (q + length z) l ≡ drop q l =
      ap (λ (m : ℕ). z ++ drop (q + m) l) long ∙ ap (λ (x : List ℕ). z ++ x) (sym (drop-drop (total ws) q l))
      ∙ ap (λ (x : List ℕ). x ++ drop (total ws) (drop q l)) (sym c.zeros) ∙ take-append-drop (total ws) (drop q l) in
      let same : l ≡ sets l q z =
      sym (sets-eq z l q i ∙ append_assoc (take q l) z (drop (q + length z) l) ∙ ap (λ (x : List ℕ). take q l ++ x) there ∙ take-append-drop q l) in
      blank refl e (record { next = f.next; behind = f.behind ∙ ap (λ (m : ℕ). u.q + m) j; stored = f.stored ∙ same; long = f.long; given = f.given; masked = f.masked; lent = f.lent })

  -- fields laid out where zeros were stored before are laid out
  pub onto-zeros : {v w : Cursor} → Stored 0 0 (sets u.o.now u.q (pad (total ws) [])) u v → Moved n ws v w → Moved n ws u w
  onto-zeros {v} {w} g f =
      let full = full_fields u.mask n ws (drop u.p u.s.now) in
      let p : v.p ≡ u.p = omega (arith, g.next) in
      let q : v.q ≡ u.q = omega (arith, g.behind) in
      let there : sets v.o.now v.q (full_fields v.mask n ws (drop v.p v.s.now)) ≡ sets v.o.now u.q full = rw (q, g.masked, p, g.given) in
      record {
        next = f.next ∙ rw (p, g.masked);
        behind = f.behind ∙ ap (λ (x : ℕ). x + total ws) q;
        stored = f.stored ∙ there ∙ ap (λ (x : List ℕ). sets x u.q full) g.stored
            ∙ sets-again (pad (total ws) []) full u.o.now u.q (omega (arith, length-pad (total ws) [], length-full u.mask n ws (drop u.p u.s.now)));
        long = f.long ∙ g.long;
        given = f.given ∙ g.given;
        masked = f.masked ∙ g.masked;
        lent = f.lent ∙ g.lent;
      }

-- ---- blocks that end where they are said to end

-- what is laid out, where the next place on the sheet is worked out from the first
pub ending : {n k : ℕ} {ws : List ℕ} {u v : Cursor} → k ≡ u.q + total ws → Moved n ws u v
    → Moved n ws u (record { s = v.s; p = v.p; mask = v.mask; o = v.o; q = k })
ending e f = record { next = f.next; behind = e; stored = f.stored; long = f.long; given = f.given; masked = f.masked; lent = f.lent }
