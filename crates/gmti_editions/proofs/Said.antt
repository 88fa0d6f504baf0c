-- What is said of a packet and of a line, laid out in a buffer one run after another.
-- Assumes nothing.
use mathlib.Core.Path.{◌≡◌, refl, sym, ap, ◌∙◌}
use mathlib.Core.Logic.{◌⊎◌, inl, inr}
use mathlib.Core.Bool.{Bool, true, false, cond}
use mathlib.Core.List.{List, [], ◌∷◌, ◌++◌, append_assoc}
use Prim.Native.Nat.{ℕ, zero, suc, ◌+◌, ◌-◌, ◌/◌, ◌≤◌, ◌<◌, min}
use native.Mathlib.Nat.{eq-or-lt_of_le}
use native.Mathlib.Omega.{arith}
use lib.ListN.{length, take, drop, set, length-drop, drop_of_length-le}
use lib.Seq.{sets, sets-eq, take_all, take_at}
use Rattle.format.specs.Edition.{as_edition}
use Rattle.format.specs.Answer.{Answer}
use Rattle.format.specs.Reader.{read}
use Rattle.printing.specs.Printing.{answer_text}
use Rattle.printing.proofs.Lines.{Laid, laid-join, laid-byte}
use Rattle.vectors.specs.declared.Fault.{Fault}
use Rattle.vectors.specs.declared.Fault.TheVariants.{Form}
use Rattle.std.proofs.Common.{Result, Ok, Err, IsOk}
use Rattle.std.specs.Result.{is_ok}
use Rattle.lines.specs.Lines.{before}
use Rattle.vectors.specs.Vectors.{is_colon, hex_fault, pairs, unhexed, unread_line}
use Rattle.gmti_editions.specs.declared.Verdict.{Verdict}
use Rattle.gmti_editions.specs.declared.Verdict.TheVariants.{NotRead, New, Alike, Broken}
use Rattle.gmti_editions.specs.Verdict.{verdict}
use Rattle.gmti_editions.specs.Line.{judged_text, packet_text, name_of, hex_of, line_fault, text_of, said_of, answer_of}

-- what a verdict says, where it is known which it is
module _ (newer older : Answer) where
  pub not-read : {v : Verdict} → v ≡ NotRead → judged_text v newer older ≡ answer_text newer
  unfolding judged_text
  not-read e = rw e

  pub new : {v : Verdict} → v ≡ New → judged_text v newer older ≡ (110 ∷ 101 ∷ 119 ∷ 32 ∷ []) ++ answer_text older
  unfolding judged_text
  new e = rw e

  pub alike : {v : Verdict} → v ≡ Alike → judged_text v newer older ≡ (97 ∷ 108 ∷ 105 ∷ 107 ∷ 101 ∷ 32 ∷ []) ++ answer_text older
  unfolding judged_text
  alike e = rw e

  pub broken : {v : Verdict} → v ≡ Broken → judged_text v newer older ≡ 98 ∷ 114 ∷ 111 ∷ 107 ∷ 101 ∷ 110 ∷ []
  unfolding judged_text
  broken e = rw e

-- bytes laid out under another name for them, and no further than this
pub under : (l : List ℕ) (at : ℕ) {us vs a : List ℕ} {p n : ℕ} → vs ≡ us → p ≤ n → Laid l at us p a → ((p ≡ at + length vs) × (p ≤ n)) × (a ≡ sets l at vs)
under l at e w h = rw e ((h.0, w), h.1)

-- what stands from a place on, or from the end where it lies behind
pub rest_from : (s : List ℕ) (k : ℕ) {h : ℕ} → h ≡ min (length s) k → take (length s - h) (drop h s) ≡ drop k s
rest_from s k {h} e =
    let all = take_all (length s - h) (drop h s) (omega (arith, length-drop h s)) in
    let within : h ≤ k = omega (arith, e) in
    all ∙ go (eq-or-lt_of_le within)
  where
    go : (h ≡ k) ⊎ (h < k) → drop h s ≡ drop k s
    go (inl i) = ap (λ (j : ℕ). drop j s) i
    go (inr l) =
        let end : length s ≤ h = omega (arith, e) in
        let behind : length s ≤ k = omega (arith, e) in
        drop_of_length-le s end ∙ sym (drop_of_length-le s behind)

-- the hex of a line, from where its name ends
pub hex-from : (line : List ℕ) {name h : ℕ} → name ≡ before 58 line → h ≡ min (length line) (name + 2) → take (length line - h) (drop h line) ≡ hex_of line
unfolding hex_of
hex-from line {name} e k = rest_from line (name + 2) k ∙ ap (λ (i : ℕ). drop (i + 2) line) e

-- what is wrong with a line, by whether a colon and a space stand behind its name
module _ (line : List ℕ) {name : ℕ} (e : name ≡ before 58 line) where
  pub fault-form : is_colon (drop name line) ≡ false → line_fault line ≡ Err Form
  unfolding line_fault
  fault-form h = rw (← e, h)

  pub fault-hex : is_colon (drop name line) ≡ true → line_fault line ≡ hex_fault (hex_of line)
  unfolding line_fault
  fault-hex h = rw (← e, h)

-- the line of a packet: its name, what is said of it, and the end
pub judged-laid : (name l : List ℕ) (v : Verdict) (newer older : Answer) {p q : ℕ} {a b : List ℕ}
    → Laid l 0 (name ++ (58 ∷ 32 ∷ [])) p a
    → Laid a p (judged_text v newer older) q b
    → Laid l 0 (name ++ (58 ∷ 32 ∷ []) ++ judged_text v newer older ++ (10 ∷ [])) (q + 1) (set b q 10)
judged-laid name l v newer older h k =
    laid-byte (name ++ (58 ∷ 32 ∷ []) ++ judged_text v newer older) l 0 10 (laid-join (name ++ (58 ∷ 32 ∷ [])) (judged_text v newer older) l 0 h k)

-- the packet that hex spells, at the front of what it was spelt into
length_pairs : (k : ℕ) (s : List ℕ) → length (pairs k s) ≡ k
unfolding pairs
length_pairs zero s = refl
length_pairs (suc k) s = ap suc (length_pairs k (drop 2 s))

pub spelt-front : (s l : List ℕ) {n : ℕ} {a : List ℕ} → n ≡ length s / 2 → n ≤ length l → a ≡ sets l 0 (unhexed s) → take n a ≡ unhexed s
unfolding unhexed
spelt-front s l {n} {a} e w h =
    let k = length_pairs (length s / 2) s in
    let fits : 0 + length (pairs (length s / 2) s) ≤ length l = omega (arith, k, e) in
    rw (h, sets-eq (pairs (length s / 2) s) l 0 fits, append_assoc) (take_at (pairs (length s / 2) s) (drop (0 + length (pairs (length s / 2) s)) l) n (k ∙ sym e))

-- what is said of it, by the answers and the verdict that are known
pub packet-said : (line lent1 lent3 buffer : List ℕ) {name : ℕ} {l : List ℕ} {v : Verdict} {newer older : Answer}
    → name ≡ before 58 line
    → l ≡ unhexed (hex_of line)
    → v ≡ verdict l lent1 lent3 buffer
    → newer ≡ (read (as_edition 3) l lent3).answer
    → older ≡ (read (as_edition 1) l lent1).answer
    → take name line ++ (58 ∷ 32 ∷ []) ++ judged_text v newer older ++ (10 ∷ []) ≡ said_of line (packet_text (unhexed (hex_of line)) lent1 lent3 buffer)
unfolding said_of name_of packet_text
packet-said line lent1 lent3 buffer e k ev en eo = rw (ev, en, eo, k, e)

-- a line that nothing is wrong with has its hex, and one that something is wrong with has nothing else said of it
pub fault-none : (line : List ℕ) {u : Unit {0}} → line_fault line ≡ Ok u → IsOk (hex_fault (hex_of line))
unfolding line_fault
fault-none line {u} h = go (is_colon (drop (before 58 line) line)) (hex_fault (hex_of line)) h
  where
    go : (t : Bool) (r : Result (Unit {0}) Fault) → cond t r (Err Form) ≡ Ok u → IsOk r
    go true r h = ap is_ok h
    go false r h = cc

module _ (line lent1 lent3 buffer : List ℕ) {r : Result (Unit {0}) Fault} (e : r ≡ line_fault line) where
  pub nothing_said : {u : Unit {0}} → r ≡ Ok u → answer_of line lent1 lent3 buffer ≡ said_of line (packet_text (unhexed (hex_of line)) lent1 lent3 buffer)
  unfolding answer_of text_of
  nothing_said h = rw (← e, h)

  pub fault-said : {name : ℕ} {f : Fault} → name ≡ before 58 line → r ≡ Err f → answer_of line lent1 lent3 buffer ≡ unread_line (take name line) (Err f)
  unfolding answer_of said_of name_of unread_line text_of
  fault-said k h = rw (← e, h, k)
