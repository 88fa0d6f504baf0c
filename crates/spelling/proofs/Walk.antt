-- The walk that stores the packet: what is left to spell, stored from a place on, gives the packet.
-- Assumes nothing.
use mathlib.Core.Path.{◌≡◌, refl, sym, ap, ap₂, ◌∙◌}
use mathlib.Core.Bool.{Bool, true, false, true≢false}
use mathlib.Core.List.{List, [], ◌∷◌, ◌++◌, append_assoc}
use Prim.Native.Nat.{ℕ, ◌+◌, ◌-◌, ◌*◌, ◌≤◌}
use native.Mathlib.Omega.{arith}
use borrow.Author.Tests.{eqb-false}
use lib.Dec.{lit≤}
use lib.ListN.{length, get_or, take, drop, length-append, length-drop}
use lib.Seq.{sets}
use borrow.Rule.Slice.PartMut.{mid_of, put_mid}
use Rattle.octets.proofs.Laws.{then}
use Rattle.octets.proofs.Parts.{filled_next, filled-length}
use Rattle.format.specs.Sheet.{Record, body_length}
use Rattle.format.specs.Lengths.{record_length}
use Rattle.format.specs.Writer.{Listed, listed, Due, due, called_for, is_follower, share, is_complete, given_behind, spell}
use Rattle.format.proofs.Records.{Formed, AllFormed}
use Rattle.format.proofs.Rows.{neither}
use Rattle.format.proofs.Listing.{listed-formed}
use Rattle.sheet_walk.specs.InnerShape.{Shaped}
use Rattle.sheet_walk.proofs.Places.{cut_at, WholeAt}
use Rattle.sheet_walk.proofs.Runs.{none}
use Rattle.spelling.specs.InnerSpelling.{spelt, row_behind, given_in_row, spelt_next, read_next, leader_behind, spelt_all, record_in, leading, Spellable, BeginsRow}
use Rattle.spelling.proofs.Followers.{due_of, by_call, First, follows, begins, first}
use Rattle.spelling.proofs.Regrouped.{sizes, told}
use Rattle.spelling.proofs.Rows.{Behind, targets-behind, pieces-behind, scatterers-behind, none-behind, follower-row}
use Rattle.spelling.proofs.Nexts.{next-is, alone-next, alone-read, read_is}
use Rattle.spelling.proofs.Surveyed.{headed, complete-behind, spell-is}

-- the record from one place to another that began the segment
abbrev pub led : List ℕ → ℕ → ℕ → ℕ → Record
led x from to kind = record_in kind (take (to - from) (drop from x))

pub record Leader (x : List ℕ) (from to kind : ℕ) : Type 0 where
  pub within : from ≤ to
  pub fits : to ≤ length x
  pub formed : Formed (led x from to kind)

-- what is left to spell from a place on
abbrev pub left_at : List ℕ → Record → ℕ → List ℕ
left_at x leader at = spelt_all leader (listed (drop at x)).records

-- behind the header
abbrev pub segments : List ℕ → List ℕ
segments x = left_at x (cut_at x 0 1 33) 33

-- what the walk keeps; o₀ has the header already, and a row is passed with the record that calls for it, all its scatterers
pub record Left (x o₀ o : List ℕ) (at to from end : ℕ) : Type 0 where
  pub kind : ℕ
  pub left : ℕ
  pub leader : Leader x from end kind
  pub complete : is_complete (due_of (led x from end kind) left) (listed (drop at x)).records ≡ true
  pub passed : kind ≡ 11 → left ≡ 0
  pub same : length o ≡ length o₀
  pub short : length (left_at x (led x from end kind) at) ≤ 65536
  pub room : to + length (left_at x (led x from end kind) at) ≤ length o₀
  pub rest : sets o to (left_at x (led x from end kind) at) ≡ sets o₀ 32 (segments x)

-- at the front
module _ (x : List ℕ) (s : Shaped x) where
  pub header : WholeAt x 0 1 33
  header = headed x s.0

  complete-rest : is_complete (due 0 0) (listed (drop 33 x)).records ≡ true
  complete-rest = sym (complete-behind x 33 header) ∙ s.1

  body-length : length (take 32 (drop 1 x)) ≡ 32
  unfolding body_length
  body-length = header.formed.length_is

  pub spell-length-is : length (spell x) ≡ 32 + length (segments x)
  spell-length-is = ap length (spell-is x 33 header complete-rest) ∙ length-append (take 32 (drop 1 x)) (segments x) ∙ omega (arith, body-length)

  pub all_left : (o : List ℕ) → length (spell x) ≤ 65536 → length (spell x) ≤ length o → Left x o o 33 32 1 33
  unfolding called_for
  all_left o short room =
      record {
        kind = 1;
        left = 0;
        leader = record { within = lit≤ tt; fits = header.fits; formed = header.formed };
        complete = complete-rest;
        passed = λ _. refl;
        same = refl;
        short = omega (arith, spell-length-is);
        room = omega (arith, spell-length-is);
        rest = refl;
      }

  -- the header copied, and the segments behind it
  pub packet-stored : (o : List ℕ) {p w : List ℕ} → p ≡ sets o 0 (take 32 (drop 1 x)) → w ≡ sets p 32 (segments x) → w ≡ sets o 0 (spell x)
  packet-stored o hp hw = then (take 32 (drop 1 x)) (segments x) o 0 32 hp body-length hw ∙ ap (sets o 0) (sym (spell-is x 33 header complete-rest))

-- a turn of it
module _ (x o₀ o : List ℕ) (at to from end : ℕ) (l : Left x o₀ o at to from end) (k next : ℕ) (w : WholeAt x at k next) where
  -- the record, its leader, and the records behind it
  abbrev here : Record
  here = cut_at x at k next

  abbrev leads : Record
  leads = led x from end l.kind

  abbrev others : List Record
  others = (listed (drop next x)).records

  -- the bytes that it adds, with those of the row behind it
  abbrev pub adds : List ℕ
  adds = spelt_next (leading leads.body) here (drop next x)

  -- and the place behind them on the sheet
  abbrev pub then_at : ℕ
  then_at = next + read_next here

  records-are : (listed (drop at x)).records ≡ here ∷ others
  records-are = ap (λ (y : Listed). y.records) w.listed-is

  formed-all : AllFormed (here ∷ others)
  formed-all = (w.formed, listed-formed (drop next x))

  complete-all : is_complete (due_of leads l.left) (here ∷ others) ≡ true
  complete-all = sym (ap (is_complete (due_of leads l.left)) records-are) ∙ l.complete

  may-be : First leads l.left here others
  may-be = first leads l.left here others w.formed complete-all

  -- what is left is the record's bytes and the others'
  left_is : left_at x leads at ≡ spelt (leading leads.body) here ++ spelt_all (leader_behind leads here) others
  unfolding spelt_all spelt given_behind
  left_is = ap (spelt_all leads) records-are

  -- one that begins a segment has its row behind it
  row-behind : is_complete (called_for here) others ≡ true → Behind x here next (called_for here)
  row-behind =
      by_call (λ (d : Due). is_complete d others ≡ true → Behind x here next d) here
      (λ _ n. targets-behind x here next n) (λ n. pieces-behind x here next n) (λ _ n. scatterers-behind x here next n) (none-behind x here next)

  -- and no other has one
  pub begins-with : BeginsRow here (drop next x)
  begins-with = go may-be
    where
      go : First leads l.left here others → BeginsRow here (drop next x)
      go (follows h g c) = rw (follower-row here g.follows) (none (called_for here).kind (drop next x))
      go (begins z g c) = (row-behind c).row_is.begins

  -- so the place behind it lies within the sheet
  pub then-within : then_at ≤ length x
  then-within = omega (arith, w.fits, read_is here, begins-with.long, length-drop next x)

  -- what is certain of it
  pub spellable : Spellable leads.body here
  unfolding body_length sizes
  spellable =
      let f = behind may-be in
      let total = (told leads l.left (here ∷ others) formed-all complete-all).length_is in (
        w.formed.length_is,
        omega (arith, w.formed.kind, w.formed.length_is),
        omega (arith, total, ap (λ (y : List Record). length (spelt_all leads y)) records-are, l.short),
        λ e. omega (arith, l.leader.formed.length_is ∙ ap body_length (f.0 e)),
        f.1,
        f.2,
      )
    where
      behind : First leads l.left here others → (k ≡ 4 → leads.kind ≡ 3) × (k ≡ 6 → get_or here.body 0 0 ≤ 32) × (k ≡ 12 → ⊥)
      behind (follows h g c) = (g.led, g.count, λ e. absurd (omega (arith, l.passed (g.scattered e))))
      behind (begins z g c) =
          let n = neither _ _ g in
          let m = neither _ _ n.0 in
          (λ e. absurd (eqb-false k 4 m.0 e), λ e. absurd (eqb-false k 6 m.1 e), λ e. absurd (eqb-false k 12 n.1 e))

  -- the leader of what stands behind it
  pub record Turned (a e : ℕ) : Type 0 where
    pub kind : ℕ
    pub left : ℕ
    pub leader : Leader x a e kind
    pub complete : is_complete (due_of (led x a e kind) left) (listed (drop then_at x)).records ≡ true
    pub passed : kind ≡ 11 → left ≡ 0
    pub left-are : left_at x leads at ≡ adds ++ left_at x (led x a e kind) then_at

  -- a follower
  pub turned-follower : is_follower here ≡ true → Turned from end
  turned-follower f = go may-be
    where
      at_next : then_at ≡ next
      at_next = omega (arith, alone-read leads here (drop next x) (follower-row here f))

      go : First leads l.left here others → Turned from end
      go (follows h g c) =
          record {
            kind = l.kind;
            left = l.left - share (due_of leads l.left);
            leader = l.leader;
            complete = rw at_next c;
            passed = λ e. absurd (omega (arith, l.passed e));
            left-are =
                left_is
                ∙ ap₂ (λ (y : List ℕ) (r : Record). y ++ spelt_all r others) (alone-next (leading leads.body) here (drop next x) (follower-row here f)) (rw f)
                ∙ ap (λ (n : ℕ). adds ++ left_at x leads n) (sym at_next);
          }
      go (begins z g c) = absurd (true≢false (sym f ∙ g))

  -- one that begins a segment
  pub turned-leader : is_follower here ≡ false → Turned (at + 1) next
  unfolding called_for
  turned-leader f = go may-be
    where
      there : next + row_behind here * record_length (called_for here).kind ≡ then_at
      there = ap (λ (i : ℕ). next + i) (read_is here)

      own : List ℕ
      own = spelt (leading leads.body) here

      tail : ℕ → List ℕ
      tail i = spelt_all here (listed (drop i x)).records

      scatterers-due : k ≡ 11 → (called_for here).kind ≡ 12
      scatterers-due e = rw e

      go : First leads l.left here others → Turned (at + 1) next
      go (follows z g c) = absurd (true≢false (sym g.follows ∙ f))
      go (begins z g c) =
          let row = row-behind c in
          record {
            kind = k;
            left = row.left;
            leader = record { within = omega (arith, w.within); fits = w.fits; formed = w.formed };
            complete = ap (λ (i : ℕ). is_complete (due_of here row.left) (listed (drop i x)).records) (sym there) ∙ row.row_is.complete;
            passed = λ e. row.no-scatterer (scatterers-due e);
            left-are =
                left_is
                ∙ ap (λ (r : Record). own ++ spelt_all r others) (rw f)
                ∙ ap (λ (y : List ℕ). own ++ y) row.row_is.spelt-are
                ∙ sym (append_assoc own (given_in_row here (drop next x)) (tail (next + row_behind here * record_length (called_for here).kind)))
                ∙ ap₂ (λ (y : List ℕ) (i : ℕ). y ++ tail i) (next-is (leading leads.body) here (drop next x)) there;
          }

  pub has_room : to + length adds ≤ length o₀
  has_room = go (is_follower here) refl
    where
      by : {a e : ℕ} → Turned a e → to + length adds ≤ length o₀
      by {a} {e} t = omega (arith, ap length t.left-are, length-append adds (left_at x (led x a e t.kind) then_at), l.room)

      go : (b : Bool) → is_follower here ≡ b → to + length adds ≤ length o₀
      go true f = by (turned-follower f)
      go false f = by (turned-leader f)

  -- once it is stored
  pub stored : (n r : ℕ) {p : List ℕ} {a e : ℕ} → n ≡ length adds → r ≡ read_next here → p ≡ sets (mid_of to (length o - to) o) 0 adds → Turned a e
      → Left x o₀ (put_mid to (length o - to) o p) (next + r) (to + n) a e
  stored n r {p} {a} {e} j i q t =
      let y = left_at x (led x a e t.kind) then_at in
      let both = length-append adds y in
      let there : next + r ≡ then_at = omega arith in
      rw there
      (record {
        kind = t.kind;
        left = t.left;
        leader = t.leader;
        complete = t.complete;
        passed = t.passed;
        same = filled-length o adds to q ∙ l.same;
        short = omega (arith, ap length t.left-are, both, l.short);
        room = omega (arith, ap length t.left-are, both, l.room, j);
        rest = filled_next o y adds to n j q ∙ sym (ap (sets o to) t.left-are) ∙ l.rest;
      })

-- where no record is left
pub none_left : (x o₀ o : List ℕ) (at to from end : ℕ) → Left x o₀ o at to from end → (listed (drop at x)).records ≡ [] → o ≡ sets o₀ 32 (segments x)
unfolding spelt_all
none_left x o₀ o at to from end l e = sym (ap (λ (rs : List Record). sets o to (spelt_all (led x from end l.kind) rs)) e) ∙ l.rest
