-- Runs of stores: a later one that lies within an earlier one, or goes over it.
-- Assumes nothing.
use mathlib.Core.Path.{◌≡◌, refl, ap, ◌∙◌}
use mathlib.Core.List.{List, [], ◌∷◌}
use Prim.Native.Nat.{ℕ, zero, suc, ◌+◌, ◌≤◌, ◌<◌}
use native.Mathlib.Nat.{add-zero, add-suc, suc-add}
use native.Mathlib.Omega.{arith}
use lib.ListN.{length, set, length-set}
use lib.Seq.{sets, set-set, set_comm}

-- a store in front of a run of stores may as well come first
set-sets : (us l : List ℕ) (i j v : ℕ) → i < j → set (sets l j us) i v ≡ sets (set l i v) j us
set-sets [] l i j v h = refl
set-sets (u ∷ us) l i j v h =
    set-sets us (set l j u) i (suc j) v (omega arith)
    ∙ ap (λ (x : List ℕ). sets x (suc j) us) (set_comm l j i u v (λ e. omega arith))

-- a store within a run changes what the run stores
set-within : (us l : List ℕ) (i k v : ℕ) → k < length us → set (sets l i us) (i + k) v ≡ sets l i (set us k v)
set-within [] l i k v h = absurd (omega arith)
set-within (u ∷ us) l i zero v h =
    rw add-zero (set-sets us (set l i u) i (suc i) v (omega arith) ∙ ap (λ (x : List ℕ). sets x (suc i) us) (set-set l i u v))
set-within (u ∷ us) l i (suc k) v h = rw (add-suc, ← suc-add) (set-within us (set l i u) (suc i) k v (omega arith))

-- so does a run within it
pub sets-within : (vs us l : List ℕ) (i k : ℕ) → k + length vs ≤ length us → sets (sets l i us) (i + k) vs ≡ sets l i (sets us k vs)
sets-within [] us l i k h = refl
sets-within (v ∷ vs) us l i k h =
    ap (λ (x : List ℕ). sets x (suc (i + k)) vs) (set-within us l i k v (omega arith))
    ∙ rw (← add-suc) (sets-within vs (set us k v) l i (suc k) (rw length-set (omega arith)))

-- a run that goes over an earlier one from its first place on, and as far, is all that is left
pub sets-again : (us vs l : List ℕ) (i : ℕ) → length us ≤ length vs → sets (sets l i us) i vs ≡ sets l i vs
sets-again [] vs l i h = refl
sets-again (u ∷ us) [] l i h = absurd (omega arith)
sets-again (u ∷ us) (v ∷ vs) l i h =
    ap (λ (x : List ℕ). sets x (suc i) vs) (set-sets us (set l i u) i (suc i) v (omega arith) ∙ ap (λ (x : List ℕ). sets x (suc i) us) (set-set l i u v))
    ∙ sets-again us vs (set l i v) (suc i) (omega arith)
