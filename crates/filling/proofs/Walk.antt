-- The walk through two sheets: what the older one is, filled in from a place on, by what is at the places.
-- Assumes nothing.
use Prim.Native.Nat.{ℕ, zero, suc, ◌+◌, ◌-◌, ◌<◌}
use native.Mathlib.Omega.{arith}
use native.Mathlib.Numerals.{add-one}
use mathlib.Core.Path.{◌≡◌, refl, sym, ap, ap₂, ◌∙◌}
use mathlib.Core.Bool.{Bool, true, false, cond, ◌&&◌}
use mathlib.Core.List.{List, [], ◌∷◌, ◌++◌, append_assoc}
use borrow.Author.Tests.{leb-true}
use borrow.Rule.Slice.PartMut.{put_mid, same_len_mid, Post-is, mid_len}
use lib.Dec.{ltb, leb, eqb}
use lib.ListN.{length, take, drop, length-append, take-append-drop}
use lib.Seq.{length-take-le, take-suc, take_at, drop_at, drop-drop}
use Rattle.octets.specs.Layout.{over}
use Rattle.format.specs.Sheet.{Record, body_length, record_bytes}
use Rattle.format.specs.Writer.{Listed, list, listed}
use Rattle.sheet_walk.proofs.Places.{WholeAt, cut_at}
use Rattle.demands.specs.Filled.{filled_record, filled_records, filled_in}

-- bytes laid over others, one run after another
over-append : (a e o : List ℕ) → over (a ++ e) o ≡ a ++ over e (drop (length a) o)
unfolding over
over-append a e o = rw (length-append a e, drop-drop (length e) (length a) o) (append_assoc a e (drop (length a + length e) o))

-- the bytes of its own records leave a sheet as it was
over-own : (k : ℕ) (x : List ℕ) → over (record_bytes (list k x).records) x ≡ x
unfolding over record_bytes list
over-own zero x = refl
over-own (suc k) [] = refl
over-own (suc k) (kind ∷ x) = go (ltb 0 n) (leb n (length x)) refl (over-own k (drop n x))
  where
    n : ℕ
    n = body_length kind

    rest : Listed
    rest = list k (drop n x)

    go : (s t : Bool) → leb n (length x) ≡ t → over (record_bytes rest.records) (drop n x) ≡ drop n x
        → over (record_bytes (cond {A = Listed} (s && t) (record { records = record { kind = kind; body = take n x } ∷ rest.records; whole = rest.whole }) (record { records = []; whole = false })).records) (kind ∷ x) ≡ kind ∷ x
    go true true f i =
        let l : length (take n x) ≡ n = length-take-le n x (leb-true n (length x) f) in
        ap (λ (z : List ℕ). kind ∷ z) (over-append (take n x) (record_bytes rest.records) x ∙ rw (l, i, take-append-drop))
    go true false f i = refl
    go false t f i = refl

-- where either has no record any more, x is as it was
pub filled-end : (x y : List ℕ) → (listed x).records ≡ [] → filled_in x y ≡ x
unfolding over filled_in filled_records record_bytes
filled-end x y e = ap (λ (rs : List Record). over (record_bytes (filled_records rs (listed y).records)) x) e

pub given-end : (x y : List ℕ) → (listed y).records ≡ [] → filled_in x y ≡ x
unfolding filled_in filled_records
given-end x y e = ap (λ (rs : List Record). over (record_bytes (filled_records (listed x).records rs)) x) e ∙ ap (λ (rs : List Record). over (record_bytes rs) x) (go (listed x).records) ∙ over-own (length x) x
  where
    go : (rs : List Record) → filled_records rs [] ≡ rs
    go [] = refl
    go (r ∷ rs) = refl

-- how far a walk is: x₀ and y are as they were handed in, x is the older sheet now, filled in up to a place
pub record Filled (x₀ y x : List ℕ) (at from : ℕ) : Type 0 where
  pub same : length x ≡ length x₀
  pub rest : take at x ++ filled_in (drop at x) (drop from y) ≡ filled_in x₀ y

-- where nothing more is filled in
pub left-as-is : {x₀ y x : List ℕ} {at from : ℕ} → Filled x₀ y x at from → filled_in (drop at x) (drop from y) ≡ drop at x → x ≡ filled_in x₀ y
left-as-is {x = x} {at = at} i e = sym (take-append-drop at x) ∙ sym (ap (λ (z : List ℕ). take at x ++ z) e) ∙ i.rest

-- a record keeps its kind
filled-kind : (r q : Record) → (filled_record r q).kind ≡ r.kind
unfolding filled_record
filled-kind r q = go (eqb r.kind q.kind) _
  where
    go : (t : Bool) (b : List ℕ) → (cond {A = Record} t (record { kind = r.kind; body = b }) r).kind ≡ r.kind
    go true b = refl
    go false b = refl

-- a turn: at a place of x and at one of y there is a whole record; the body of that of x is lent, and comes back as p
module _ {x y p : List ℕ} {at kind next from other end : ℕ} (wx : WholeAt x at kind next) (wy : WholeAt y from other end)
    (e : p ≡ (filled_record (cut_at x at kind next) (cut_at y from other end)).body) (l : length p ≡ length (cut_at x at kind next).body) where
  -- the record ends where the next begins
  end_is : at + suc (length p) ≡ next
  end_is = omega (arith, wx.within, mid_len (at + 1) next x wx.fits)

  -- what is filled in from the places on: the record, and the rest
  rest-is : filled_in (drop at x) (drop from y) ≡ (kind ∷ p) ++ filled_in (drop next x) (drop end y)
  unfolding filled_in filled_records record_bytes
  rest-is =
      let rest = filled_records (listed (drop next x)).records (listed (drop end y)).records in
      ap₂ (λ (u v : Listed). over (record_bytes (filled_records u.records v.records)) (drop at x)) wx.listed-is wy.listed-is
      ∙ rw (filled-kind, ← e) (over-append (kind ∷ p) (record_bytes rest) (drop at x) ∙ rw (drop-drop, end_is))

  -- the sheet as it comes back: up to the place behind the record, and behind it
  back_is : put_mid (at + 1) (next - (at + 1)) x p ≡ (take at x ++ (kind ∷ p)) ++ drop next x
  back_is =
      let h : at < length x = omega (arith, wx.within, wx.fits) in
      rw (Post-is (at + 1) next x (omega (arith, wx.within)), add-one, take-suc x at 0 h, ← wx.kind_is) (simp append_assoc)

  -- so what is filled in from the next places on, behind it, is what was to be filled in before
  pub turn : {x₀ : List ℕ} → Filled x₀ y x at from → Filled x₀ y (put_mid (at + 1) (next - (at + 1)) x p) next end
  turn i =
      let front = take at x ++ (kind ∷ p) in
      let n : length front ≡ next = length-append (take at x) (kind ∷ p) ∙ omega (arith, end_is, length-take-le at x (omega (arith, wx.within, wx.fits))) in
      record {
        same = same_len_mid (at + 1) (next - (at + 1)) x p l ∙ i.same;
        rest =
            rw (back_is, take_at front (drop next x) next n, drop_at front (drop next x) next n) (append_assoc (take at x) (kind ∷ p) _)
            ∙ ap (λ (z : List ℕ). take at x ++ z) (sym rest-is)
            ∙ i.rest;
      }
