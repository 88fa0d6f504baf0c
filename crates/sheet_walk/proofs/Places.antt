-- The law of a sheet's places: what the records from a place on are, by what is there.
-- Assumes nothing.
use mathlib.Core.Path.{◌≡◌, refl, sym, ap, ◌∙◌}
use mathlib.Core.Bool.{Bool, true, false, ◌&&◌, cond}
use mathlib.Core.List.{List, []}
use Prim.Native.Nat.{ℕ, ◌+◌, ◌-◌, ◌≤◌, ◌<◌}
use native.Mathlib.Omega.{arith}
use borrow.Author.Tests.{ltb-true, ltb-false, leb-true, leb-false}
use lib.Dec.{ltb, leb}
use lib.ListN.{length, get_or, take, drop}
use Rattle.octets.proofs.Parts.{part-is, length_part}
use Rattle.format.specs.Sheet.{Record, body_length}
use Rattle.format.specs.Writer.{Listed, listed}
use Rattle.format.proofs.Records.{Formed}
use Rattle.format.proofs.Listing.{before, listed_more, listed-none, listed-cut, listed-end}
use Rattle.sheet_walk.specs.declared.Place.{Place}
use Rattle.sheet_walk.specs.declared.Place.TheVariants.{Whole, End, Cut}
use Rattle.sheet_walk.specs.InnerShape.{place_at}

-- the record from a place up to another, as code cuts its body out
abbrev pub cut_at : List ℕ → ℕ → ℕ → ℕ → Record
cut_at x at kind end = record { kind = kind; body = take (end - (at + 1)) (drop (at + 1) x) }

-- what is known of a place, by what is there: a whole record and those behind it, or none, at the end or not
pub record WholeAt (x : List ℕ) (at kind end : ℕ) : Type 0 where
  pub kind_is : kind ≡ get_or x at 0
  pub within : at < end
  pub fits : end ≤ length x
  pub formed : Formed (cut_at x at kind end)
  pub listed-is : listed (drop at x) ≡ before (cut_at x at kind end) (listed (drop end x))

abbrev pub Known : List ℕ → ℕ → Place → Type 0
Known x at (Whole kind end) = WholeAt x at kind end
Known x at End = listed (drop at x) ≡ record { records = []; whole = true }
Known x at Cut = listed (drop at x) ≡ record { records = []; whole = false }

-- a whole record
more : (x : List ℕ) (at n : ℕ) → at < length x → n ≡ body_length (get_or x at 0) → 0 < n → n ≤ length x - at - 1 → WholeAt x at (get_or x at 0) (at + 1 + n)
more x at n h e p f =
    let fits : at + 1 + n ≤ length x = omega arith in
    record {
      kind_is = refl;
      within = omega arith;
      fits = fits;
      formed = record { kind = omega (arith, e, p); length_is = length_part x (at + 1) n fits ∙ e };
      listed-is =
          listed_more x at h n e p fits
          ∙ ap (λ (b : List ℕ). before (record { kind = get_or x at 0; body = b }) (listed (drop (at + 1 + n) x))) (sym (part-is x (at + 1) n));
    }

-- the law
pub known : (x : List ℕ) (at : ℕ) → Known x at (place_at x at)
unfolding place_at
known x at = go (ltb at (length x)) (ltb 0 n) (leb n (length x - at - 1)) refl refl refl
  where
    n : ℕ
    n = body_length (get_or x at 0)

    go : (s a b : Bool) → ltb at (length x) ≡ s → ltb 0 n ≡ a → leb n (length x - at - 1) ≡ b
        → Known x at (cond s (cond (a && b) (Whole (get_or x at 0) (at + 1 + n)) Cut) End)
    go true true true h p f = more x at n (ltb-true _ _ h) refl (ltb-true _ _ p) (leb-true _ _ f)
    go true true false h p f = listed-cut x at (ltb-true _ _ h) (leb-false _ _ f)
    go true false b h p f = listed-none x at (ltb-true _ _ h) (omega (arith, ltb-false 0 n p))
    go false a b h p f = listed-end x at (ltb-false _ _ h)

-- the same of what code found there
pub at_place : (x : List ℕ) (at : ℕ) {p q : Place} → p ≡ place_at x at → p ≡ q → Known x at q
at_place x at {p} {q} e f =
    let g : place_at x at ≡ q = sym e ∙ f in
    rw g at (known x at)

-- where code was told that there is no whole record, there is none
pub none-at : (x : List ℕ) (at : ℕ) (p : Place) → p ≡ place_at x at → ((kind end : ℕ) → p ≡ Whole kind end → ⊥) → (listed (drop at x)).records ≡ []
none-at x at (Whole kind end) e told = absurd (told kind end refl)
none-at x at End e told = ap (λ (l : Listed). l.records) (at_place x at e refl)
none-at x at Cut e told = ap (λ (l : Listed). l.records) (at_place x at e refl)
