-- The pieces of a text are those that document 01 gives, and they change no byte behind them.
-- Assumes nothing.
use Prim.Native.Nat.{ℕ, zero, suc, ◌-◌, ◌*◌, ◌≤◌}
use native.Mathlib.Omega.{arith}
use mathlib.Core.Path.{◌≡◌, refl, sym, ap, ap₂, subst, ◌∙◌}
use mathlib.Core.List.{List, [], ◌∷◌, ◌++◌, append-nil}
use lib.ListN.{length, replicate, take, drop, length-append, length-take, length-drop, take-append-drop}
use lib.Seq.{sets, take_all, take_at, drop_at}
use Rattle.octets.specs.Layout.{pad, over}
use Rattle.octets.proofs.Layouts.{pad-append, pad-none, sets_over}
use Rattle.format.specs.Sheet.{Record, body_length, record_of, piece_record, piece_records, piece_count, pieces_of, record_bytes}
use Rattle.format.specs.Lengths.{record_length}
use Rattle.format.proofs.Lengths.{length-pieces}
use Rattle.demands.specs.Pieces.{Carries, Carry, none, last, full}
use Rattle.demands.specs.Demands.{PiecesFilled}

-- ---- one piece

-- bytes cut or filled up to so many, where there are no more: zeros stand behind them
filled : (w : ℕ) (b : List ℕ) → length b ≤ w → pad w b ≡ b ++ replicate (w - length b) 0
filled w b h =
    ap (pad w) (sym (append-nil b))
    ∙ pad-append w (w - length b) b [] (omega arith)
    ∙ ap (λ (zeros : List ℕ). b ++ zeros) (pad-none (w - length b))

-- the first piece of a text carries its first bytes, at most 32
carries : (text : List ℕ) → 1 ≤ length text → Carries (piece_record text) (take 32 text)
unfolding piece_record record_of body_length pad
carries text some =
    let n = length-take 32 text in
    record {
      kind_is = refl;
      from_1 = omega (arith, n);
      to_32 = omega (arith, n);
      body_is = ap₂ (λ (count : ℕ) (b : List ℕ). count ∷ b) (sym n) (filled 32 (take 32 text) (omega (arith, n)));
    }

-- two pieces that carry the same bytes are the same
same-piece : {r s : Record} {b : List ℕ} → Carries r b → Carries s b → r ≡ s
same-piece p q = ap₂ (λ (k : ℕ) (b : List ℕ). record { kind = k; body = b }) (p.kind_is ∙ sym q.kind_is) (p.body_is ∙ sym q.body_is)

-- so one that carries a text's first bytes, at most 32, is the first piece of it
first_piece : {r : Record} {b : List ℕ} (text : List ℕ) → take 32 text ≡ b → 1 ≤ length text → Carries r b → r ≡ piece_record text
first_piece text e some p = same-piece p (subst (Carries (piece_record text)) e (carries text some))

-- ---- all of them

-- as many pieces as the text's length gives carry it
carried : (n : ℕ) (text : List ℕ) → piece_count (length text) ≡ n → Carry (piece_records n text) text
unfolding piece_count piece_records
carried zero [] e = none
carried zero (x ∷ text) e = absurd (omega arith)
carried (suc zero) text e =
    subst (Carry (piece_record text ∷ [])) (take_all 32 text (omega arith)) (last (carries text (omega arith)))
carried (suc (suc n)) text e =
    subst (Carry (piece_records (suc (suc n)) text)) (take-append-drop 32 text)
    (full (carries text (omega arith)) (omega (arith, length-take 32 text)) (carried (suc n) (drop 32 text) (omega (arith, length-drop 32 text))))

-- and no other records carry it
only : {rs : List Record} {text : List ℕ} → Carry rs text → rs ≡ pieces_of text
unfolding piece_count piece_records
only none = refl
only (last {b = b} p) =
    let one : piece_count (length b) ≡ 1 = omega (arith, p.from_1, p.to_32) in
    ap (λ (r : Record). r ∷ []) (first_piece b (take_all 32 b p.to_32) p.from_1 p)
    ∙ ap (λ (n : ℕ). piece_records n b) (sym one)
only (full {b = b} {text = text} p f c) =
    let more : piece_count (length (b ++ text)) ≡ suc (piece_count (length text)) = omega (arith, f, length-append b text) in
    let some : 1 ≤ length (b ++ text) = omega (arith, f, length-append b text) in
    ap₂ (λ (r : Record) (rs : List Record). r ∷ rs) (first_piece (b ++ text) (take_at b text 32 f) some p)
    (only c ∙ ap (piece_records (piece_count (length text))) (sym (drop_at b text 32 f)))
    ∙ ap (λ (n : ℕ). piece_records n (b ++ text)) (sym more)

-- ---- where they are stored

-- in a part with room for them
stored : (text lent : List ℕ) → piece_count (length text) * record_length 6 ≤ length lent
    → sets lent 0 (record_bytes (pieces_of text)) ≡ over (record_bytes (pieces_of text)) lent
stored text lent h = sets_over (record_bytes (pieces_of text)) lent (rw (length-pieces (piece_count (length text)) text) h)

pub pieces-filled : PiecesFilled
pieces-filled = record {
  carry = λ text. carried (piece_count (length text)) text refl;
  no_others = λ text rs c. only c;
  take_room = λ text. length-pieces (piece_count (length text)) text;
  behind_unchanged = stored;
}
