-- What is said of a line, laid out in a buffer one run after another.
-- Assumes nothing.
use Prim.Native.Nat.{ℕ, ◌+◌, ◌≤◌}
use native.Mathlib.Omega.{arith}
use mathlib.Core.Path.{◌≡◌}
use mathlib.Core.Bool.{Bool, true, false}
use mathlib.Core.List.{List, [], ◌∷◌, ◌++◌}
use borrow.Author.Tests.{lt-leb}
use Rattle.std.specs.Result.{result_ok}
use lib.ListN.{length, set}
use lib.Seq.{sets}
use Rattle.printing.specs.InnerPut.{Put}
use Rattle.printing.proofs.Lines.{Laid, laid-join, laid-byte}
use Rattle.vectors.specs.declared.Fault.TheVariants.{Number}
use Rattle.vectors.proofs.Spellings.{number-some, number_missing}
use Rattle.std.proofs.Common.{Option, Some, None, Result, Ok, Err, OkIff, MatchOption, le-leb, ◌<◌, refl, ◌∙◌}
use Rattle.vectors.specs.Vectors.{number_of, spelt, unread_line}
use Rattle.gmti_modes.specs.Line.{ascii, is_mode, system_text, new_text, mode_text, answer_of}

-- a word of so many bytes at most, which may be known under another name
pub worded : {l a word text : List ℕ} {at r most : ℕ} → text ≡ word → length word ≤ most → (r ≡ at + length word) × (a ≡ sets l at word) → Put most l at text r a
worded e h w = rw e (record { next = w.0; room = omega (arith, h, w.0); stored = w.1 })

-- a system's text, where the system is known under another name
pub under : {l a : List ℕ} {at r most m n : ℕ} → m ≡ n → Put most l at (system_text m) r a → Put most l at (system_text n) r a
under e h = rw (← e) h

-- what is said of the mode's being new
pub new-said : {b t : Bool} → b ≡ t → b ≡ true → new_text t ≡ ascii ", new"
unfolding new_text
new-said e h = rw (← e, h)

pub not-new-said : {b t : Bool} → b ≡ t → b ≡ false → new_text t ≡ ascii ", not new"
unfolding new_text
not-new-said e h = rw (← e, h)

-- the line, a colon and a space, what is said of the mode, and the end
pub said-laid : (line l : List ℕ) {p q most : ℕ} {a b text : List ℕ} → Laid l 0 (line ++ (58 ∷ 32 ∷ [])) p a → Put most a p text q b
    → (q + 1 ≡ length (line ++ (58 ∷ 32 ∷ []) ++ text ++ (10 ∷ []))) × (set b q 10 ≡ sets l 0 (line ++ (58 ∷ 32 ∷ []) ++ text ++ (10 ∷ [])))
said-laid line l {text = text} h k =
    let label = line ++ (58 ∷ 32 ∷ []) in
    let laid = laid-byte (label ++ text) l 0 10 (laid-join label text l 0 h (k.next, k.stored)) in
    (omega (arith, laid.0), laid.1)

module _ (line : List ℕ) where
  -- whether a line is a mode's number
  pub mode-found : {E : Type 0} {n : ℕ} {r : Option ℕ} (q : Result ℕ E) → number_of line ≡ Some n → OkIff q (n < 256) n → r ≡ result_ok q
      → MatchOption r (is_mode line ≡ false) (λ mode. (is_mode line ≡ true) × (mode ≡ spelt line 0))
  unfolding is_mode
  mode-found {n = n} (Ok m) f h e =
      let i = number-some line f in
      rw e (rw (i.0, le-leb (spelt line 0) 255 (omega (arith, i.1))) refl, h.1 ∙ i.1)
  mode-found {n = n} (Err x) f h e =
      let i = number-some line f in
      rw (e, i.0, lt-leb (spelt line 0) 255 (omega (arith, i.1, h))) refl

  pub mode_missing : number_of line ≡ None → is_mode line ≡ false
  unfolding is_mode
  mode_missing h = number_missing line 255 (omega arith) h

  -- the line that answers it
  pub mode-answer : {mode : ℕ} → is_mode line ≡ true → mode ≡ spelt line 0 → answer_of line ≡ line ++ (58 ∷ 32 ∷ []) ++ mode_text mode ++ (10 ∷ [])
  unfolding answer_of ascii
  mode-answer h k = rw (h, k)

  pub unread-answer : is_mode line ≡ false → answer_of line ≡ unread_line line (Err Number)
  unfolding answer_of
  unread-answer h = rw h
