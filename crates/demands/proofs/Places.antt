-- A withheld sheet, byte by byte: zero at each place that is withheld, and as it was at every other.
-- Assumes nothing.
use Prim.Native.Nat.{ℕ, zero, suc, ◌+◌, ◌-◌, ◌≤◌}
use native.Mathlib.Omega.{arith}
use mathlib.Core.Path.{◌≡◌, refl, ap, ◌∙◌}
use mathlib.Core.Bool.{Bool, true, false, cond, ◌&&◌, ◌||◌}
use mathlib.Core.List.{List, [], ◌∷◌, ◌++◌}
use borrow.Author.Tests.{ltb-true, ltb-false, leb-true, leb-false, eqb-true}
use lib.Dec.{ltb, leb, eqb}
use lib.ListN.{length, get_or, take, drop, length-append, get_or-append}
use lib.Seq.{length-take-le, get_or-take, get_or-drop, get_or-append-add}
use Rattle.octets.specs.Layout.{pad, total, width, offset, replaced, zeroed}
use Rattle.octets.proofs.Layouts.{length-pad, length-zeroed}
use Rattle.format.specs.Sheet.{Record, body_length, record_bytes}
use Rattle.format.specs.Writer.{listed}
use Rattle.format.proofs.Records.{Formed, AllFormed}
use Rattle.format.proofs.Listing.{listed-formed}
use Rattle.demands.specs.Filled.{dwell_body_widths, job_body_widths}
use Rattle.demands.specs.Places.{is_in_field, is_in_either, is_withheld_in, is_withheld_at}
use Rattle.demands.proofs.Withheld.{withheld_record, withheld_records, withheld_sheet}

-- ---- bytes of lists

-- a byte of one list after another
get_d-either : (a b : List ℕ) (i : ℕ) → get_or (a ++ b) i 0 ≡ cond (ltb i (length a)) (get_or a i 0) (get_or b (i - length a) 0)
get_d-either a b i = go (ltb i (length a)) refl
  where
    go : (t : Bool) → ltb i (length a) ≡ t → get_or (a ++ b) i 0 ≡ cond t (get_or a i 0) (get_or b (i - length a) 0)
    go true e = get_or-append a b 0 i (ltb-true _ _ e)
    go false e =
        let h : length a ≤ i = ltb-false i (length a) e in
        let f : i ≡ length a + (i - length a) = omega arith in
        ap (λ (j : ℕ). get_or (a ++ b) j 0) f ∙ get_or-append-add a b (i - length a) 0

-- a byte of zeros
get_d-zeros : (w i : ℕ) → get_or (pad w []) i 0 ≡ 0
unfolding pad
get_d-zeros zero i = refl
get_d-zeros (suc w) zero = refl
get_d-zeros (suc w) (suc i) = get_d-zeros w i

-- ---- runs of bytes that differ in some places

-- c is b with zeros where f holds
pub record ZeroWhere (f : ℕ → Bool) (b c : List ℕ) : Type 0 where
  pub as_long : length c ≡ length b
  pub at : (i : ℕ) → get_or c i 0 ≡ cond (f i) 0 (get_or b i 0)

-- where f holds nowhere, nothing is changed
zero-nowhere : (b : List ℕ) → ZeroWhere (λ _. false) b b
zero-nowhere b = record { as_long = refl; at = λ i. refl }

-- in some places, and then in others
zero-both : {f g : ℕ → Bool} {b c d : List ℕ} → ZeroWhere f b c → ZeroWhere g c d → ZeroWhere (λ i. f i || g i) b d
zero-both {f} {g} {b} {c} {d} p q = record { as_long = q.as_long ∙ p.as_long; at = λ i. q.at i ∙ rw (p.at i) (go (f i) (g i) (get_or b i 0)) }
  where
    go : (s t : Bool) (x : ℕ) → cond t 0 (cond s 0 x) ≡ cond (s || t) 0 x
    go true true x = refl
    go true false x = refl
    go false true x = refl
    go false false x = refl

-- in one run, and in the run after it
zero-after : {f g : ℕ → Bool} {b c bs cs : List ℕ} → ZeroWhere f b c → ZeroWhere g bs cs → ZeroWhere (λ i. cond (ltb i (length b)) (f i) (g (i - length b))) (b ++ bs) (c ++ cs)
zero-after {f} {g} {b} {c} {bs} {cs} p q = record {
  as_long = simp length-append (omega (arith, p.as_long, q.as_long));
  at = λ i. get_d-either c cs i ∙ rw (p.as_long, p.at i, q.at (i - length b), get_d-either b bs i) (go (ltb i (length b)) (f i) (g (i - length b)) (get_or b i 0) (get_or bs (i - length b) 0));
}
  where
    go : (t u v : Bool) (x y : ℕ) → cond t (cond u 0 x) (cond v 0 y) ≡ cond (cond t u v) 0 (cond t x y)
    go true u v x y = refl
    go false u v x y = refl

-- ---- a body with a field zeroed

module _ (ws : List ℕ) (n : ℕ) (b : List ℕ) (within : offset 1 ws n + width 1 ws n ≤ length b) where
  zeroed-at : (i : ℕ) → get_or (zeroed 1 ws n b) i 0 ≡ cond (is_in_field ws n i) 0 (get_or b i 0)
  unfolding replaced is_in_field
  zeroed-at i = get_d-either (front ++ zeros) behind i ∙ rw (g, get_d-either front zeros i, f) (go (leb o i) (ltb i (o + w)) (ltb i o) refl refl refl)
    where
      o : ℕ
      o = offset 1 ws n

      w : ℕ
      w = width 1 ws n

      front : List ℕ
      front = take o b

      zeros : List ℕ
      zeros = pad w []

      behind : List ℕ
      behind = drop (o + w) b

      f : length front ≡ o
      f = length-take-le o b (omega arith)

      g : length (front ++ zeros) ≡ o + w
      g = length-append front zeros ∙ (omega (arith, f, length-pad w []))

      past : ltb i (o + w) ≡ false → get_or behind (i - (o + w)) 0 ≡ get_or b i 0
      past q =
          let e : o + w + (i - (o + w)) ≡ i = omega (arith, ltb-false i (o + w) q) in
          get_or-drop (o + w) b (i - (o + w)) 0 ∙ ap (λ (j : ℕ). get_or b j 0) e

      go : (s t u : Bool) → leb o i ≡ s → ltb i (o + w) ≡ t → ltb i o ≡ u
          → cond t (cond u (get_or front i 0) (get_or zeros (i - o) 0)) (get_or behind (i - (o + w)) 0) ≡ cond (s && t) 0 (get_or b i 0)
      go true true true p q r = absurd (omega (arith, leb-true o i p, ltb-true i o r))
      go true true false p q r = get_d-zeros w (i - o)
      go true false u p q r = past q
      go false true true p q r = get_or-take o b i 0 (ltb-true i o r)
      go false true false p q r = absurd (omega (arith, leb-false o i p, ltb-false i o r))
      go false false u p q r = past q

  zero_field : ZeroWhere (is_in_field ws n) b (zeroed 1 ws n b)
  zero_field = record { as_long = length-zeroed 1 ws n b within; at = zeroed-at }

-- two fields zeroed, both within the body
zero-either : (ws : List ℕ) (n mark : ℕ) (b : List ℕ) → offset 1 ws n + width 1 ws n ≤ length b → offset 1 ws mark + width 1 ws mark ≤ length b
    → ZeroWhere (is_in_either ws n mark) b (zeroed 1 ws mark (zeroed 1 ws n b))
zero-either ws n mark b h k = zero-both (zero_field ws n b h) (zero_field ws mark (zeroed 1 ws n b) (rw (length-zeroed 1 ws n b h) k))

-- ---- records

-- a record withheld
zero-record : (r : Record) → Formed r → ZeroWhere (is_withheld_in r) r.body (withheld_record r).body
unfolding withheld_record is_withheld_in body_length total
zero-record r f = go (eqb r.kind 3) (eqb r.kind 8) refl refl
  where
    of : (k : ℕ) → eqb r.kind k ≡ true → length r.body ≡ body_length k
    of k e = f.length_is ∙ ap body_length (eqb-true r.kind k e)

    go : (s t : Bool) → eqb r.kind 3 ≡ s → eqb r.kind 8 ≡ t
        → ZeroWhere (λ i. cond s (is_in_either dwell_body_widths 27 32 i) (cond t (is_in_either job_body_widths 26 29 i) false)) r.body
        (cond s (zeroed 1 dwell_body_widths 32 (zeroed 1 dwell_body_widths 27 r.body)) (cond t (zeroed 1 job_body_widths 29 (zeroed 1 job_body_widths 26 r.body)) r.body))
    go true t p q = zero-either dwell_body_widths 27 32 r.body (omega (arith, of 3 p)) (omega (arith, of 3 p))
    go false true p q = zero-either job_body_widths 26 29 r.body (omega (arith, of 8 q)) (omega (arith, of 8 q))
    go false false p q = zero-nowhere r.body

-- records withheld
zero-records : (rs : List Record) → AllFormed rs → ZeroWhere (is_withheld_at rs) (record_bytes rs) (record_bytes (withheld_records rs))
unfolding record_bytes withheld_records is_withheld_at withheld_record
zero-records [] f = zero-nowhere []
zero-records (r ∷ rs) f = behind (zero-after (zero-record r f.0) (zero-records rs f.1))
  where
    behind : ZeroWhere (λ i. cond (ltb i (length r.body)) (is_withheld_in r i) (is_withheld_at rs (i - length r.body))) (r.body ++ record_bytes rs) ((withheld_record r).body ++ record_bytes (withheld_records rs))
        → ZeroWhere (is_withheld_at (r ∷ rs)) (record_bytes (r ∷ rs)) (record_bytes (withheld_records (r ∷ rs)))
    behind h = record { as_long = ap suc h.as_long; at = go }
      where
        go : (i : ℕ) → get_or (record_bytes (withheld_records (r ∷ rs))) i 0 ≡ cond (is_withheld_at (r ∷ rs) i) 0 (get_or (record_bytes (r ∷ rs)) i 0)
        go zero = refl
        go (suc i) = h.at i

-- ---- sheets

-- a sheet withheld is zero at each place that is withheld, and as it was at every other
pub withheld-at : (x : List ℕ) → record_bytes (listed x).records ≡ x → (i : ℕ) → get_or (withheld_sheet x) i 0 ≡ cond (is_withheld_at (listed x).records i) 0 (get_or x i 0)
unfolding withheld_sheet
withheld-at x e i = (zero-records (listed x).records (listed-formed x)).at i ∙ ap (λ (y : List ℕ). cond (is_withheld_at (listed x).records i) 0 (get_or y i 0)) e
