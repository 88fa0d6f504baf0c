-- `checks::header_check` meets its contract. The rows of the call and of the header, in their order.
-- Assumes nothing.
use Prim.Native.Nat.{ℕ}
use Rattle.std.specs.Prelude.{List}
use mathlib.Core.Path.{◌≡◌, sym, ◌∙◌}
use borrow.Author.Tests.{lt-ltb, le-ltb, eq-eqb, ne_eqb}
use lib.ListN.{length, drop}
use mathlib.Core.Logic.{inl, inr}
use Rattle.octets.specs.Layout.{total, value}
use Rattle.format.specs.declared.Settings.{Settings}
use Rattle.format.specs.Check.{Check}
use Rattle.format.specs.Packet.{is_p1, P}
use Rattle.format.specs.Rows.{first_row, header_rows}
use Rattle.checks.proofs.header_check.Goals as goal
use Rattle.checks.proofs.header_check.Goals.{Else-get_u32-l, Else-l-gt-LONGEST_PACKET, Else-not-is_edition, Else-not-is_version}

-- the first row that applies, of those from the k-th on
abbrev from : ℕ → Settings → List ℕ → Check
from k settings l = first_row (drop k (header_rows settings l))

-- row 1 does not apply
past-1 : (c : Else-not-is_edition) → from 0 c.args.settings c.args.l.now ≡ from 1 c.args.settings c.args.l.now
unfolding first_row header_rows
past-1 c = rw (sym c.is_edition.ensures ∙ c.if-not-is_edition.false)

-- nor does row 2
past-2 : (c : Else-l-gt-LONGEST_PACKET) → from 0 c.args.settings c.args.l.now ≡ from 2 c.args.settings c.args.l.now
unfolding first_row header_rows
past-2 c =
    past-1 (goal.at.Else-l-gt-LONGEST_PACKET c).Else-not-is_edition ∙ rw (le-ltb (length c.args.l.now) 32 c.if-l-lt-LEN.false, le-ltb 65536 (length c.args.l.now) c.if-l-gt-LONGEST_PACKET.false)

-- nor row 3
past-3 : (c : Else-not-is_version) → from 0 c.args.settings c.args.l.now ≡ from 3 c.args.settings c.args.l.now
unfolding first_row header_rows is_p1
past-3 c = past-2 (goal.at.Else-not-is_version c).Else-l-gt-LONGEST_PACKET ∙ rw (sym c.is_version.ensures ∙ c.if-not-is_version.false)

-- nor row 4
past-4 : (c : Else-get_u32-l) → from 0 c.args.settings c.args.l.now ≡ from 4 c.args.settings c.args.l.now
unfolding first_row header_rows value total
past-4 c =
    let l = c.args.l.now in
    past-3 (goal.at.Else-get_u32-l c).Else-not-is_version ∙ rw (eq-eqb (P 2 l) (length l) (sym c.get_u32.ensures ∙ c.if-get_u32-l.false))

pub returns-then-not-is_edition : goal.returns-then-not-is_edition
unfolding first_row header_rows
returns-then-not-is_edition c =
    c.row.ensures
    ∙ rw (sym c.is_edition.ensures ∙ c.if-not-is_edition.true)

pub returns-then-l-lt-LEN : goal.returns-then-l-lt-LEN
unfolding first_row header_rows
returns-then-l-lt-LEN c =
    let n = length c.args.l.now in
    c.row-then-l-lt-LEN.ensures
    ∙ sym
    (past-1 (goal.at.returns-then-l-lt-LEN c).Else-not-is_edition
    ∙ elim c.then-l-lt-LEN.either [ inl h ↦ rw (lt-ltb n 32 h) | inr h ↦ rw (le-ltb n 32 h.0, lt-ltb 65536 n h.1) ])

pub returns-then-not-is_version : goal.returns-then-not-is_version
unfolding first_row header_rows is_p1
returns-then-not-is_version c =
    c.row-then-not-is_version.ensures
    ∙ sym (past-2 (goal.at.returns-then-not-is_version c).Else-l-gt-LONGEST_PACKET ∙ rw (sym c.is_version.ensures ∙ c.if-not-is_version.true))

pub returns-then-get_u32-l : goal.returns-then-get_u32-l
unfolding first_row header_rows value total
returns-then-get_u32-l c =
    let l = c.args.l.now in
    c.row-then-get_u32-l.ensures
    ∙ sym (past-3 (goal.at.returns-then-get_u32-l c).Else-not-is_version ∙ rw (ne_eqb (P 2 l) (length l) (λ e. c.if-get_u32-l.true (c.get_u32.ensures ∙ e))))

pub returns : goal.returns
unfolding header_rows
returns c = sym (past-4 (goal.at.returns c).Else-get_u32-l ∙ sym c.header_text.ensures)
