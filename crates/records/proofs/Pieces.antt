-- Pieces: how one is laid out, the loop over those that are full, and the last.
-- Assumes nothing.
use mathlib.Core.Path.{◌≡◌, refl, sym, ap, ◌∙◌}
use mathlib.Core.List.{List, [], ◌∷◌, ◌++◌}
use Prim.Native.Nat.{ℕ, zero, suc, ◌+◌, ◌-◌, ◌*◌, ◌/◌, ◌≤◌, ◌<◌, min}
use native.Mathlib.Nat.{sub-zero, not-suc-le-zero}
use native.Mathlib.Numerals.{add-one}
use native.Mathlib.Omega.{arith}
use lib.ListN.{length, take, drop, set}
use lib.Seq.{sets, take_all, length-take-le}
use Rattle.octets.specs.Layout.{pad}
use Rattle.octets.proofs.Laws.{then}
use Rattle.octets.proofs.Layouts.{pad-take, length-pad}
use Rattle.format.specs.Sheet.{body_length, record_bytes, piece_record, piece_records, piece_count}
use Rattle.format.specs.Lengths.{record_length}
use Rattle.copies.proofs.Stores.{sets-within}
use Rattle.format.proofs.Lengths.{length-one, length-pieces}
use Rattle.records.proofs.Laid.{record-laid, records-then, records-next, records-append}

-- ---- one piece

-- what stands behind the kind of a piece of n bytes
piece-body : (n : ℕ) (b : List ℕ) → min 32 (length b) ≡ n → pad (body_length 6) (min 32 (length b) ∷ take 32 b) ≡ n ∷ pad 32 (take 32 b)
unfolding body_length pad
piece-body n b e = ap (λ (x : ℕ). x ∷ pad 32 (take 32 b)) e

-- a full one: its count is 32
pub full-laid : (b l : List ℕ) {x y w : List ℕ}
    → 32 ≤ length b → x ≡ sets l 0 (6 ∷ []) → y ≡ sets x 1 (32 ∷ []) → w ≡ sets y 2 (take 32 (drop 0 b)) → w ≡ sets l 0 (record_bytes (piece_record b ∷ []))
unfolding piece_record
full-laid b l {x} {y} h hx hy hw =
    let n : min 32 (length b) ≡ 32 = omega arith in
    let t : pad 32 (take 32 b) ≡ take 32 b = pad-take 32 (take 32 b) (rw (length-take-le 32 b h) (omega arith)) ∙ take_all 32 (take 32 b) (rw (length-take-le 32 b h) (omega arith)) in
    record-laid 6 _ (32 ∷ take 32 b) l (piece-body 32 b n ∙ ap (λ (z : List ℕ). 32 ∷ z) t) hx (then (32 ∷ []) (take 32 b) x 1 1 hy refl hw)

-- stores behind the first element
sets_behind : (vs l : List ℕ) (x i : ℕ) → sets (x ∷ l) (suc i) vs ≡ x ∷ sets l i vs
sets_behind [] l x i = refl
sets_behind (v ∷ vs) l x i = sets_behind vs (set l i v) x (suc i)

-- bytes stored over zeros are the bytes filled up with zeros
zeros-over : (w : ℕ) (b : List ℕ) → length b ≤ w → sets (pad w []) 0 b ≡ pad w b
unfolding pad
zeros-over w [] h = refl
zeros-over zero (x ∷ b) h = absurd (not-suc-le-zero h)
zeros-over (suc w) (x ∷ b) h = sets_behind b (pad w []) x 0 ∙ ap (λ (y : List ℕ). x ∷ y) (zeros-over w b (omega arith))

-- one that is not full: zeros, and its bytes stored over them
pub last-laid : (b l : List ℕ) {x y z w : List ℕ}
    → length b ≤ 31 → x ≡ sets l 0 (6 ∷ []) → y ≡ sets x 1 (length b ∷ []) → z ≡ sets y 2 (pad 32 []) → w ≡ sets z 2 b → w ≡ sets l 0 (record_bytes (piece_record b ∷ []))
unfolding piece_record
last-laid b l {x} {y} h hx hy hz hw =
    let n : min 32 (length b) ≡ length b = omega arith in
    let f : 0 + length b ≤ length (pad 32 []) = rw (length-pad 32 []) (omega arith) in
    let t : take 32 b ≡ b = take_all 32 b (omega arith) in
    let v = hw ∙ ap (λ (k : List ℕ). sets k 2 b) hz ∙ sets-within b (pad 32 []) y 2 0 f ∙ ap (sets y 2) (zeros-over 32 b (omega arith)) in
    record-laid 6 _ (length b ∷ pad 32 b) l (piece-body (length b) b n ∙ ap (λ (k : List ℕ). length b ∷ pad 32 k) t) hx (then (length b ∷ []) (pad 32 b) x 1 1 hy refl v)

-- ---- pieces in a row

-- the length of a piece
length-piece : (b : List ℕ) → length (record_bytes (piece_record b ∷ [])) ≡ record_length 6
unfolding piece_record body_length
length-piece b = length-one 6 _

-- the next piece of several
piece-step : (n : ℕ) (b : List ℕ) → piece_records (suc n) b ≡ piece_record b ∷ piece_records n (drop 32 b)
unfolding piece_records
piece-step n b = refl

-- the loop over full pieces: once piece i is stored, what is left to store still gives all of them
pub pieces-next : (count i : ℕ) (b o all : List ℕ) {m : List ℕ}
    → i < count → m ≡ sets o (i * record_length 6) (record_bytes (piece_record (drop (i * 32) b) ∷ [])) → sets o (i * record_length 6) (record_bytes (piece_records (count - i) (drop (i * 32) b))) ≡ all
    → sets m ((i + 1) * record_length 6) (record_bytes (piece_records (count - (i + 1)) (drop ((i + 1) * 32) b))) ≡ all
pieces-next count i b o all h hm e =
    let p : (i + 1) * record_length 6 ≡ i * record_length 6 + record_length 6 = omega arith in
    let q : (i + 1) * 32 ≡ i * 32 + 32 = omega arith in
    rw (p, q) (records-next piece_record piece_records 32 (record_length 6) piece-step length-piece (count - i) (count - (i + 1)) (i * 32) (i * record_length 6) b o all (omega arith) hm e)

-- at first all are left to store, and at the end none
pub pieces-first : (count : ℕ) (b o : List ℕ) → sets o (0 * record_length 6) (record_bytes (piece_records (count - 0) (drop (0 * 32) b))) ≡ sets o 0 (record_bytes (piece_records count b))
pieces-first count b o = rw sub-zero

pub pieces-last : (count i : ℕ) (b o w : List ℕ) → count ≤ i → sets o (i * record_length 6) (record_bytes (piece_records (count - i) (drop (i * 32) b))) ≡ w → o ≡ w
unfolding piece_records record_bytes
pieces-last count i b o w h e = let n : count - i ≡ 0 = omega arith in rw n at e

-- ---- all the pieces of a body

-- the first j pieces, and those behind them
pub pieces-append : (j k : ℕ) (b : List ℕ) → piece_records (j + k) b ≡ piece_records j b ++ piece_records k (drop (j * 32) b)
unfolding piece_records
pieces-append = records-append piece_record piece_records 32 (record_length 6) piece-step length-piece (λ b. refl)

-- one more piece comes behind the others
pieces_more : (n : ℕ) (b : List ℕ) → piece_records (suc n) b ≡ piece_records n b ++ (piece_record (drop (n * 32) b) ∷ [])
unfolding piece_records
pieces_more n b = ap (λ (k : ℕ). piece_records k b) (sym (add-one n)) ∙ pieces-append n 1 b

-- the full ones, and behind them one that is not full
pub pieces-with-last : (b o : List ℕ) {m w : List ℕ}
    → length b / 32 * 32 < length b → m ≡ sets o 0 (record_bytes (piece_records (length b / 32) b)) → w ≡ sets m (length b / 32 * record_length 6) (record_bytes (piece_record (drop (length b / 32 * 32) b) ∷ []))
    → w ≡ sets o 0 (record_bytes (piece_records (piece_count (length b)) b))
unfolding piece_count
pieces-with-last b o {m} h hm hw =
    let n : (length b + 31) / 32 ≡ suc (length b / 32) = omega arith in
    let k : 0 + length b / 32 * record_length 6 ≡ length b / 32 * record_length 6 = omega arith in
    rw (n, pieces_more (length b / 32) b)
    (records-then (piece_records (length b / 32) b) (piece_record (drop (length b / 32 * 32) b) ∷ []) o 0 (length b / 32 * record_length 6) hm (length-pieces (length b / 32) b) (rw k hw))

-- where all are full
pub pieces-all-full : (b o : List ℕ) {m : List ℕ}
    → length b ≤ length b / 32 * 32 → m ≡ sets o 0 (record_bytes (piece_records (length b / 32) b)) → m ≡ sets o 0 (record_bytes (piece_records (piece_count (length b)) b))
unfolding piece_count
pieces-all-full b o h hm = let n : (length b + 31) / 32 ≡ length b / 32 = omega arith in rw n hm
