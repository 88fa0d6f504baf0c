-- Records that the two readings make of one packet: alike but for a field that is withheld and its mark. What follows from that: the
-- older ones are the newer ones withheld, filled in they are the newer ones, and both take as many bytes.
-- Assumes nothing.
use Prim.Native.Nat.{ℕ}
use native.Mathlib.Omega.{arith}
use mathlib.Core.Path.{◌≡◌, refl, sym, ap, ap₂}
use mathlib.Core.Bool.{false}
use mathlib.Core.List.{List, [], ◌∷◌, ◌++◌}
use borrow.Author.Tests.{eq-eqb}
use lib.Dec.{eqb}
use lib.ListN.{length, length-append}
use Rattle.octets.specs.Layout.{total, zeroed}
use Rattle.format.specs.Sheet.{Record, record_bytes}
use Rattle.demands.specs.Filled.{dwell_body_widths, job_body_widths, filled_record, filled_records}
use Rattle.demands.proofs.Withheld.{withheld_record, withheld_records, withheld-body, filled-body, length-body}

-- the older record and the newer one
pub data Alike : Record → Record → Type 0 where
  dwell : (b : List ℕ) → length b ≡ 86 → Alike (record { kind = 3; body = zeroed 1 dwell_body_widths 27 b ++ 0 ∷ [] }) (record { kind = 3; body = b ++ 1 ∷ [] })
  job : (b : List ℕ) → length b ≡ 68 → Alike (record { kind = 8; body = zeroed 1 job_body_widths 26 b ++ 0 ∷ [] }) (record { kind = 8; body = b ++ 1 ∷ [] })
  other : {r : Record} → eqb r.kind 3 ≡ false → eqb r.kind 8 ≡ false → Alike r r

-- so all of them, one by one
pub data AllAlike : List Record → List Record → Type 0 where
  none : AllAlike [] []
  next : {q r : Record} {qs rs : List Record} → Alike q r → AllAlike qs rs → AllAlike (q ∷ qs) (r ∷ rs)

-- alike records after alike records are alike
pub alike-append : {qs rs qs' rs' : List Record} → AllAlike qs rs → AllAlike qs' rs' → AllAlike (qs ++ qs') (rs ++ rs')
alike-append none b = b
alike-append (next h a) b = next h (alike-append a b)

-- the older record is the newer one withheld
withheld-one : {q r : Record} → Alike q r → q ≡ withheld_record r
unfolding withheld_record total
withheld-one (dwell b h) = ap (λ (x : List ℕ). record { kind = 3; body = x }) (sym (withheld-body dwell_body_widths 27 32 b (omega arith) h refl))
withheld-one (job b h) = ap (λ (x : List ℕ). record { kind = 8; body = x }) (sym (withheld-body job_body_widths 26 29 b (omega arith) h refl))
withheld-one (other h3 h8) = rw (h3, h8)

-- so with all of them
pub alike-withheld : {qs rs : List Record} → AllAlike qs rs → qs ≡ withheld_records rs
unfolding withheld_records
alike-withheld none = refl
alike-withheld (next h a) = ap₂ ◌∷◌ (withheld-one h) (alike-withheld a)

-- the older record, filled in from the newer one, is that one
filled-one : {q r : Record} → Alike q r → filled_record q r ≡ r
unfolding filled_record total
filled-one (dwell b h) = ap (λ (x : List ℕ). record { kind = 3; body = x }) (filled-body dwell_body_widths 27 32 b (omega arith) h refl)
filled-one (job b h) = ap (λ (x : List ℕ). record { kind = 8; body = x }) (filled-body job_body_widths 26 29 b (omega arith) h refl)
filled-one (other {r = r} h3 h8) = rw (eq-eqb r.kind r.kind refl, h3, h8)

-- so with all of them
pub alike-filled : {qs rs : List Record} → AllAlike qs rs → filled_records qs rs ≡ rs
unfolding filled_records
alike-filled none = refl
alike-filled (next h a) = ap₂ ◌∷◌ (filled-one h) (alike-filled a)

-- both bodies have as many bytes
pub length-one : {q r : Record} → Alike q r → length q.body ≡ length r.body
unfolding total
length-one (dwell b h) = length-body dwell_body_widths 27 32 b (omega arith) h refl
length-one (job b h) = length-body job_body_widths 26 29 b (omega arith) h refl
length-one (other h3 h8) = refl

-- so have all of them
pub alike-length : {qs rs : List Record} → AllAlike qs rs → length (record_bytes qs) ≡ length (record_bytes rs)
unfolding record_bytes
alike-length none = refl
alike-length (next h a) = simp length-append (omega (arith, length-one h, alike-length a))
