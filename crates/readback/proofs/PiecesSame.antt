-- Pieces compared where they stand: a full one, a turn of the loop over those that are full, and all those of a body.
-- Assumes nothing.
use Prim.Native.Nat.{ℕ, ◌+◌, ◌-◌, ◌*◌, ◌/◌, ◌≤◌, ◌<◌, min}
use native.Mathlib.Nat.{sub-zero}
use native.Mathlib.Omega.{arith}
use mathlib.Core.Path.{◌≡◌, refl, sym, ap, ap₂, ◌∙◌}
use mathlib.Core.Bool.{Bool, true, false, ◌&&◌, and_assoc}
use mathlib.Core.List.{List, [], ◌∷◌, ◌++◌, append-nil}
use lib.Dec.{eqb}
use lib.ListN.{length, take, drop, length-take, length-drop}
use lib.Seq.{sets, take-take, length-take-le}
use borrow.Author.Tests.{eq-eqb, ne_eqb, eqb-true, eqb-false}
use Rattle.octets.specs.Layout.{pad}
use Rattle.octets.proofs.Layouts.{pad-same}
use Rattle.octets.proofs.Parts.{tail-is, part-is}
use Rattle.format.specs.Sheet.{body_length, record_of, record_bytes, piece_record, piece_records, piece_count, pieces_of}
use Rattle.format.specs.Lengths.{record_length}
use Rattle.format.specs.Writer.{is_same}
use Rattle.format.proofs.Lengths.{bytes-append, length-pieces}
use Rattle.format.proofs.Segments.{part-is as part-of-front}
use Rattle.records.proofs.Pieces.{pieces-append}
use Rattle.sheet_walk.specs.InnerShape.{is_full_at}
use Rattle.readback.proofs.Fronts.{first-differs, first-same}
use Rattle.readback.proofs.Types.{filled-same}
use Rattle.readback.proofs.Batches.{some-differ, some_same, batch-end}

-- ---- a full piece

-- its bytes
full-bytes : (b : List ℕ) → 32 ≤ length b → record_bytes (piece_record b ∷ []) ≡ 6 ∷ 32 ∷ take 32 b
unfolding piece_record record_of record_bytes body_length
full-bytes b h =
    let count : min 32 (length b) ≡ 32 = omega arith in
    let long : 33 ≡ length (32 ∷ take 32 b) = omega (arith, length-take-le 32 b h) in
    ap (λ (n : ℕ). 6 ∷ (pad 33 (n ∷ take 32 b) ++ [])) count
    ∙ ap (λ (y : List ℕ). 6 ∷ y) (append-nil (pad 33 (32 ∷ take 32 b)) ∙ ap (λ (n : ℕ). pad n (32 ∷ take 32 b)) long ∙ pad-same (32 ∷ take 32 b))

-- two numbers are equal either way round
turned : (a b : ℕ) → eqb a b ≡ eqb b a
turned a b = go (eqb b a) refl
  where
    go : (t : Bool) → eqb b a ≡ t → eqb a b ≡ t
    go true h = eq-eqb a b (sym (eqb-true b a h))
    go false h = ne_eqb a b (λ e. eqb-false b a h (sym e))

-- compared with what x begins with: the kind and the count, and the bytes
pub piece-told : (b x : List ℕ) → 32 ≤ length b → record_length 6 ≤ length x
    → is_same (record_bytes (piece_record b ∷ [])) (take (record_length 6) x) ≡ (is_full_at x 0 && is_same (take 32 b) (take 32 (drop 2 x)))
unfolding is_same
piece-told b x h long = ap (λ (y : List ℕ). is_same y (take (record_length 6) x)) (full-bytes b h) ∙ go x long
  where
    go : (y : List ℕ) → record_length 6 ≤ length y → is_same (6 ∷ 32 ∷ take 32 b) (take (record_length 6) y) ≡ (is_full_at y 0 && is_same (take 32 b) (take 32 (drop 2 y)))
    go [] k = absurd (omega arith)
    go (u ∷ []) k = absurd (omega arith)
    go (u ∷ v ∷ y) k =
        ap₂ (λ (s t : Bool). s && (t && is_same (take 32 b) (take 32 y))) (turned 6 u) (turned 32 v)
        ∙ sym (and_assoc (eqb u 6) (eqb v 32) (is_same (take 32 b) (take 32 y)))

-- ---- the loop over full pieces

-- bytes within a front
within-front : (a n k : ℕ) (x : List ℕ) → a + n ≤ k → take n (drop a (take k x)) ≡ take n (drop a x)
within-front a n k x h = part-of-front a n (take k x) ∙ ap (drop a) (take-take (a + n) k x h) ∙ sym (part-of-front a n x)

-- so many pieces of b, compared with the front of x that is as long: those from piece i on
abbrev pub same_from : List ℕ → List ℕ → ℕ → ℕ → Bool
same_from b x count i = is_same (record_bytes (piece_records (count - i) (drop (i * 32) b))) (drop (i * record_length 6) (take (count * record_length 6) x))

-- piece i of them, as the code cuts it out of b, compared with its part of x
module _ (b x : List ℕ) (count i : ℕ) {r : Bool} (some : i < count) (room : count * record_length 6 ≤ length x)
    (told : r ≡ is_same (record_bytes (piece_record (take (length b - i * 32) (drop (i * 32) b)) ∷ []))
    (take (record_length 6) (take (length x - i * record_length 6) (drop (i * record_length 6) x)))) where
  abbrev front : List ℕ
  front = take (count * record_length 6) x

  long : count * record_length 6 ≡ length front
  long = sym (length-take-le (count * record_length 6) x room)

  -- the part is of that front
  told-turn : r ≡ is_same (record_bytes (piece_records 1 (drop (i * 32) b))) (take (i * record_length 6 + 1 * record_length 6 - i * record_length 6) (drop (i * record_length 6) front))
  unfolding piece_records
  told-turn =
      told
      ∙ ap₂ (λ (y z : List ℕ). is_same (record_bytes (piece_record y ∷ [])) (take (record_length 6) z)) (tail-is (i * 32) b) (tail-is (i * record_length 6) x)
      ∙ ap (is_same (record_bytes (piece_record (drop (i * 32) b) ∷ [])))
      (sym (within-front (i * record_length 6) (record_length 6) (count * record_length 6) x (omega arith)) ∙ sym (part-is front (i * record_length 6) (record_length 6)))

  pub piece-differs : r ≡ false → false ≡ same_from b x count i
  piece-differs = some-differ piece_records 32 (record_length 6) pieces-append length-pieces b count i 1 (omega arith) front long told-turn

  pub piece-same : r ≡ true → same_from b x count (i + 1) ≡ same_from b x count i
  piece-same = some_same piece_records 32 (record_length 6) pieces-append length-pieces b count i 1 (omega arith) front long told-turn

-- at first all are left, and at the end none
pub pieces-first : (b x : List ℕ) (count : ℕ) → same_from b x count 0 ≡ is_same (record_bytes (piece_records count b)) (take (count * record_length 6) x)
pieces-first b x count = rw sub-zero

pub pieces_end : (b x : List ℕ) (count i : ℕ) → count ≤ i → same_from b x count i ≡ true
pieces_end b x count i h =
    let front = take (count * record_length 6) x in
    let none : count - i ≡ 0 = omega arith in
    let short : length front ≤ i * record_length 6 = omega (arith, length-take (count * record_length 6) x) in
    batch-end piece_records 32 (record_length 6) pieces-append length-pieces (count - i) (i * record_length 6) (drop (i * 32) b) front none short

-- ---- all the pieces of a body

-- b fills so many pieces, and x is as long as all its pieces are
module _ (b x : List ℕ) (whole : piece_count (length b) * record_length 6 ≡ length x) where
  abbrev full : ℕ
  full = length b / 32

  -- the full ones lie within x
  pub full-within : full * record_length 6 ≤ length x
  unfolding piece_count
  full-within = omega arith

  -- what is left of b and of x behind them, as the code cuts it out
  abbrev rest : List ℕ
  rest = take (length b - full * 32) (drop (full * 32) b)

  abbrev left : List ℕ
  left = take (length x - full * record_length 6) (drop (full * record_length 6) x)

  rest-length : length rest ≡ length b - full * 32
  rest-length = ap length (tail-is (full * 32) b) ∙ length-drop (full * 32) b

  left-length : length left ≡ length x - full * record_length 6
  left-length = ap length (tail-is (full * record_length 6) x) ∙ length-drop (full * record_length 6) x

  -- it has at most one piece, which takes all that is left of x
  rest-pieces : piece_count (length rest) * record_length 6 ≡ length left
  unfolding piece_count
  rest-pieces = omega (arith, rest-length, left-length)

  pub left-short : length left ≤ record_length 6
  unfolding piece_count
  left-short = omega (arith, left-length)

  -- the full ones, and the last
  both : record_bytes (pieces_of b) ≡ record_bytes (piece_records full b) ++ record_bytes (pieces_of (drop (full * 32) b))
  unfolding piece_count
  both =
      let counts : piece_count (length b) ≡ full + piece_count (length (drop (full * 32) b)) = omega (arith, length-drop (full * 32) b) in
      ap (λ (k : ℕ). record_bytes (piece_records k b)) counts
      ∙ ap record_bytes (pieces-append full (piece_count (length (drop (full * 32) b))) b)
      ∙ bytes-append (piece_records full b) (pieces_of (drop (full * 32) b))

  -- the full ones compared
  module _ {r : Bool} (told : r ≡ is_same (record_bytes (piece_records full b)) (take (full * record_length 6) x)) where
    pub full-differ : r ≡ false → false ≡ is_same (record_bytes (pieces_of b)) x
    full-differ e =
        first-differs (record_bytes (piece_records full b)) (record_bytes (pieces_of (drop (full * 32) b))) x (full * record_length 6) (length-pieces full b) full-within told e
        ∙ sym (ap (λ (y : List ℕ). is_same y x) both)

    -- and the last in the window
    pub full-same : (w₀ w : List ℕ) {s : Bool} → r ≡ true → w ≡ sets w₀ 0 (record_bytes (pieces_of rest)) → record_length 6 ≤ length w₀ → s ≡ is_same (take (length left) w) left
        → s ≡ is_same (record_bytes (pieces_of b)) x
    full-same w₀ w e filled room last =
        filled-same (record_bytes (pieces_of rest)) left w₀ w filled (length-pieces (piece_count (length rest)) rest ∙ rest-pieces) (omega (arith, left-short)) last
        ∙ ap₂ (λ (y z : List ℕ). is_same (record_bytes (pieces_of y)) z) (tail-is (full * 32) b) (tail-is (full * record_length 6) x)
        ∙ first-same (record_bytes (piece_records full b)) (record_bytes (pieces_of (drop (full * 32) b))) x (full * record_length 6) (length-pieces full b) full-within told e
        ∙ sym (ap (λ (y : List ℕ). is_same y x) both)
