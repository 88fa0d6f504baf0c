-- What a verdict is, case by case as the code comes to it.
-- Assumes nothing.
use Prim.Native.Nat.{ℕ}
use Rattle.std.specs.Prelude.{Result, Ok, Err}
use Rattle.std.specs.Result.{result_eq}
use borrow.Author.Tests.{eq-eqb, ne_eqb, eqb-true, eqb-false}
use Rattle.format.specs.declared.Counts.{Counts}
use Rattle.format.specs.declared.Refusal.{Refusal}
use mathlib.Core.Path.{◌≡◌, refl, sym, ap, ap₂, ◌∙◌}
use mathlib.Core.Bool.{Bool, true, false, ◌&&◌, cond, and-true}
use Rattle.std.proofs.Math.Bool.{and_assoc}
use mathlib.Core.List.{List}
use lib.Dec.{eqb}
use lib.ListN.{take}
use Rattle.format.specs.Edition.{as_edition}
use Rattle.format.specs.Answer.{Answer, Accepted, Refused, answer_of, Outcome, outcome}
use Rattle.format.specs.New.{New as NewThing, Nothing, Found}
use Rattle.format.specs.Reader.{read}
use Rattle.format.specs.Writer.{is_same, write}
use Rattle.gmti_editions.specs.declared.Verdict.{Verdict}
use Rattle.gmti_editions.specs.declared.Verdict.TheVariants.{NotRead, New, Alike, Broken}
use Rattle.gmti_editions.specs.Verdict.{is_older_sheet, filled_for, is_returned, is_alike, alike_verdict, new_verdict, older_verdict, new_in, verdict}

-- ---- counts and refusals, as the code compares them

abbrev same_counts : Counts → Counts → Bool
same_counts x y = eqb x.segments y.segments && (eqb x.dwells y.dwells && (eqb x.targets y.targets && eqb x.length y.length))

abbrev same_refusals : Refusal → Refusal → Bool
same_refusals x y = eqb x.number y.number && (eqb x.segment y.segment && eqb x.field y.field)

flip : (a b : ℕ) → eqb a b ≡ eqb b a
flip a b = go (eqb a b) refl
  where
    go : (t : Bool) → eqb a b ≡ t → t ≡ eqb b a
    go true e = sym (eq-eqb b a (sym (eqb-true a b e)))
    go false e = sym (ne_eqb b a (λ q. eqb-false a b e (sym q)))

-- the tests of counts in the order and the sense of the definitions
flip-counts : (x y : Counts) → same_counts x y ≡ (eqb y.segments x.segments && eqb y.dwells x.dwells && eqb y.targets x.targets && eqb y.length x.length)
flip-counts x y =
    rw (flip x.segments y.segments, flip x.dwells y.dwells, flip x.targets y.targets, flip x.length y.length, and_assoc, and_assoc)

flip-refusals : (x y : Refusal) → same_refusals x y ≡ (eqb x.number y.number && eqb x.segment y.segment && eqb x.field y.field)
flip-refusals x y = sym (and_assoc (eqb x.number y.number) (eqb x.segment y.segment) (eqb x.field y.field))

-- ---- the writer's answer, and what it left of the buffer

module _ (l : List ℕ) (k : Counts) (left : List ℕ) where
  -- nothing is returned with a refusal
  pub returned-refused : (a : Result Counts Refusal) (f : Refusal) → a ≡ Err f → false ≡ is_returned l k.segments k.dwells k.targets (outcome (answer_of a) left)
  unfolding is_returned
  returned-refused a f e = ap (λ (x : Result Counts Refusal). is_returned l k.segments k.dwells k.targets (outcome (answer_of x) left)) (sym e)

  -- an acceptance, by the test of its counts: those of the reading, but for the length
  pub returned-by : (a : Result Counts Refusal) (w : Counts) → a ≡ Ok w
      → (b : Bool) → b ≡ same_counts w (record { segments = k.segments; dwells = k.dwells; targets = k.targets; length = w.length })
      → (b && is_same (take w.length left) l) ≡ is_returned l k.segments k.dwells k.targets (outcome (answer_of a) left)
  unfolding is_returned
  returned-by a w e b h =
      let last : eqb w.length w.length ≡ true = eq-eqb w.length w.length refl in
      ap (λ (x : Bool). x && is_same (take w.length left) l) (h ∙ flip-counts w (record { segments = k.segments; dwells = k.dwells; targets = k.targets; length = w.length }) ∙ rw (last, and-true))
      ∙ ap (λ (x : Result Counts Refusal). is_returned l k.segments k.dwells k.targets (outcome (answer_of x) left)) (sym e)

-- ---- both sheets

module _ (l : List ℕ) (s d t : ℕ) (older newer buffer : List ℕ) {due : Bool} (is : due ≡ is_older_sheet l older newer) where
  -- the older one is not the one that is due
  pub not_alike : due ≡ false → false ≡ is_alike l s d t older newer buffer
  unfolding is_alike
  not_alike e = rw (← is, e)

  -- it is: it is filled in, the writer is called, and what it returned is tested, one after another
  pub alike-by : due ≡ true → (filled : List ℕ) → filled ≡ filled_for l older newer
      → (w : Outcome) → w ≡ write filled buffer
      → (b : Bool) → b ≡ is_returned l s d t w
      → b ≡ is_alike l s d t older newer buffer
  unfolding is_alike
  alike-by e filled f w h b r = r ∙ ap (is_returned l s d t) (h ∙ ap (λ (x : List ℕ). write x buffer) f) ∙ rw (← is, e)

-- ---- the Edition 1 reading's answer, where nothing is new: it must be that of the Edition 3 reading

pub alike_said : (l : List ℕ) (k : Counts) (older newer buffer : List ℕ) (a : Result Counts Refusal) (b : Bool) → b ≡ result_eq same_counts same_refusals a (Ok k)
    → alike_verdict l k.segments k.dwells k.targets k.length (answer_of a) older newer buffer
    ≡ cond (b && is_alike l k.segments k.dwells k.targets (take k.length older) (take k.length newer) buffer) Alike Broken
unfolding alike_verdict
alike_said l k older newer buffer (Ok x) b h =
    ap (λ (t : Bool). cond (t && is_alike l k.segments k.dwells k.targets (take k.length older) (take k.length newer) buffer) Alike Broken)
    (sym (h ∙ flip-counts x k))
alike_said l k older newer buffer (Err f) b h =
    ap (λ (t : Bool). cond (t && is_alike l k.segments k.dwells k.targets (take k.length older) (take k.length newer) buffer) Alike Broken) (sym h)

-- ---- the same, where something is: it must be this refusal

pub new_said : (segment field : ℕ) (a : Result Counts Refusal) (b : Bool)
    → b ≡ result_eq same_counts same_refusals a (Err (record { number = 15; segment = segment; field = field }))
    → new_verdict segment field (answer_of a) ≡ cond b New Broken
unfolding new_verdict
new_said segment field (Ok x) b h = ap (λ (t : Bool). cond t New Broken) (sym h)
new_said segment field (Err f) b h =
    ap (λ (t : Bool). cond t New Broken) (sym (h ∙ flip-refusals f (record { number = 15; segment = segment; field = field })))

-- ---- by what is new

module _ (l : List ℕ) (s d t n : ℕ) (a : Answer) (older newer buffer : List ℕ) (new : NewThing) {v : Verdict} where
  pub older-nothing : new ≡ Nothing → v ≡ alike_verdict l s d t n a older newer buffer → v ≡ older_verdict l s d t n new a older newer buffer
  unfolding older_verdict
  older-nothing e h = h ∙ ap (λ (x : NewThing). older_verdict l s d t n x a older newer buffer) (sym e)

  pub older-found : (segment field : ℕ) → new ≡ Found segment field → v ≡ new_verdict segment field a → v ≡ older_verdict l s d t n new a older newer buffer
  unfolding older_verdict
  older-found segment field e h = h ∙ ap (λ (x : NewThing). older_verdict l s d t n x a older newer buffer) (sym e)

-- ---- both readings

-- the verdict by what they gave
abbrev verdict_by : List ℕ → List ℕ → Outcome → Outcome → Verdict
verdict_by l buffer newer older =
    elim newer.answer [
      | Refused number segment field ↦ NotRead
      | Accepted s d t n ↦ older_verdict l s d t n (new_in l) older.answer older.left newer.left buffer
    ]

module _ (l lent1 lent3 buffer left3 : List ℕ) where
  -- the Edition 3 reading refuses
  pub verdict-refused : (a : Answer) (number segment field : ℕ) → outcome a left3 ≡ read (as_edition 3) l lent3 → a ≡ Refused number segment field
      → NotRead ≡ verdict l lent1 lent3 buffer
  unfolding verdict
  verdict-refused a number segment field e r =
      ap (λ (x : Outcome). verdict_by l buffer x (read (as_edition 1) l lent1)) (ap (λ (x : Answer). outcome x left3) (sym r) ∙ e)

  -- it accepts: the Edition 1 reading decides
  pub verdict-read : (s d t n : ℕ) (a1 : Answer) (left1 : List ℕ) → outcome (Accepted s d t n) left3 ≡ read (as_edition 3) l lent3
      → outcome a1 left1 ≡ read (as_edition 1) l lent1
      → (v : Verdict) → v ≡ older_verdict l s d t n (new_in l) a1 left1 left3 buffer
      → v ≡ verdict l lent1 lent3 buffer
  unfolding verdict
  verdict-read s d t n a1 left1 e3 e1 v h = h ∙ ap₂ (verdict_by l buffer) e3 e1
