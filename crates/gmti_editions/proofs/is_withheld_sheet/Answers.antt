-- `gmti_editions::is_withheld_sheet` meets its contract. The loop keeps that what is left of the two sheets decides as the whole does.
-- Assumes nothing.
use Prim.Native.Nat.{ℕ}
use native.Mathlib.Omega.{arith}
use mathlib.Core.Path.{◌≡◌, refl, sym, ap₂, ◌∙◌}
use mathlib.Core.List.{List}
use borrow.Author.Rules.{rules}
use lib.ListN.{length}
use Rattle.octets.proofs.Parts.{tail-is}
use Rattle.format.specs.Writer.{is_same}
use Rattle.sheet_walk.proofs.Places.{WholeAt, at_place, none-at}
use Rattle.gmti_editions.specs.Verdict.{is_withheld_sheet}
use Rattle.gmti_editions.proofs.Sheets.{other_length, none-withheld, parts_same, kind-differs, body-differs, record_same}
use Rattle.gmti_editions.proofs.is_withheld_sheet.Goals as goal
use Rattle.gmti_editions.proofs.is_withheld_sheet.Goals.{In-Whole}

pub returns-then-older-newer : goal.returns-then-older-newer
returns-then-older-newer c = let a = c.args in other_length a.older.now a.newer.now c.if-older-newer.true

pub loop-kind-init : goal.loop-kind-init
unfolding is_withheld_sheet
loop-kind-init c = record { within = omega arith; rest = refl }

pub returns-in_default : goal.returns-in_default
returns-in_default c =
    let l = c.loop-kind in
    let a = c.args in
    let none = none-withheld a.newer.now l.at (none-at a.newer.now l.at _ c.record_at.ensures c.in_default.not-Whole) in
    c.same.ensures
    ∙ ap₂ (λ (x y : List ℕ). is_same x y) (tail-is l.at a.newer.now ∙ sym none) (tail-is l.at a.older.now)
    ∙ l.invariant.rest

-- in a turn that goes on, a whole record is at the place
module _ (c : In-Whole) where
  abbrev older : List ℕ
  older = c.args.older.now

  same : length older ≡ length c.args.newer.now
  same = c.if-older-newer.false

  here : let k = c.in-Whole in WholeAt c.args.newer.now c.loop-kind.at k.kind k.end
  here = at_place _ _ c.record_at.ensures c.in-Whole.is

pub returns-then-kind-older : goal.returns-then-kind-older
returns-then-kind-older c = kind-differs (here (goal.at.returns-then-kind-older c).In-Whole) (older (goal.at.returns-then-kind-older c).In-Whole) (same (goal.at.returns-then-kind-older c).In-Whole) c.if-kind-older.true ∙ c.loop-kind.invariant.rest

pub returns-then-not-is_older_body : goal.returns-then-not-is_older_body
returns-then-not-is_older_body c =
    body-differs (here (goal.at.returns-then-not-is_older_body c).In-Whole) (older (goal.at.returns-then-not-is_older_body c).In-Whole) (same (goal.at.returns-then-not-is_older_body c).In-Whole) c.if-kind-older.false c.is_older_body.ensures c.if-not-is_older_body.true ∙ c.loop-kind.invariant.rest

pub loop-kind-preserved : goal.loop-kind-preserved
loop-kind-preserved c =
    record {
      within = (here (goal.at.loop-kind-preserved c).In-Whole).fits;
      rest = record_same (here (goal.at.loop-kind-preserved c).In-Whole) (older (goal.at.loop-kind-preserved c).In-Whole) (same (goal.at.loop-kind-preserved c).In-Whole) c.if-kind-older.false c.is_older_body.ensures c.if-not-is_older_body.false ∙ c.loop-kind.invariant.rest;
    }

pub bounds-older-at : goal.bounds-older-at
bounds-older-at c = let w = here (goal.at.bounds-older-at c).In-Whole in omega (arith, w.within, w.fits, same (goal.at.bounds-older-at c).In-Whole)

pub overflow_add-body : goal.overflow_add-body
overflow_add-body c = let w = here (goal.at.overflow_add-body c).In-Whole in search rules

pub slice_bounds-is_older_body-count : goal.slice_bounds-is_older_body-count
slice_bounds-is_older_body-count c = let w = here (goal.at.slice_bounds-is_older_body-count c).In-Whole in search rules

pub slice_bounds-is_older_body-start : goal.slice_bounds-is_older_body-start
slice_bounds-is_older_body-start c = let w = here (goal.at.slice_bounds-is_older_body-start c).In-Whole in search rules

pub slice_bounds-is_older_body-end : goal.slice_bounds-is_older_body-end
slice_bounds-is_older_body-end c = let w = here (goal.at.slice_bounds-is_older_body-end c).In-Whole in search rules

pub slice_bounds-is_older_body-count-in-loop-kind : goal.slice_bounds-is_older_body-count-in-loop-kind
slice_bounds-is_older_body-count-in-loop-kind c = let w = here (goal.at.slice_bounds-is_older_body-count-in-loop-kind c).In-Whole in search rules

pub slice_bounds-is_older_body-start-in-loop-kind : goal.slice_bounds-is_older_body-start-in-loop-kind
slice_bounds-is_older_body-start-in-loop-kind c = let w = here (goal.at.slice_bounds-is_older_body-start-in-loop-kind c).In-Whole in search rules

pub slice_bounds-is_older_body-end-in-loop-kind : goal.slice_bounds-is_older_body-end-in-loop-kind
slice_bounds-is_older_body-end-in-loop-kind c = let w = here (goal.at.slice_bounds-is_older_body-end-in-loop-kind c).In-Whole in search rules

pub is_older_body-requires : goal.is_older_body-requires
is_older_body-requires c = parts_same (here (goal.at.is_older_body-requires c).In-Whole) (older (goal.at.is_older_body-requires c).In-Whole) (same (goal.at.is_older_body-requires c).In-Whole)

pub loop-kind-smaller : goal.loop-kind-smaller
loop-kind-smaller c = let w = here (goal.at.loop-kind-smaller c).In-Whole in omega (arith, w.within, w.fits)
