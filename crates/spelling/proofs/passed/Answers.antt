-- `spelling::passed` meets its contract. All the scatterers or all the full pieces, where the test says so, and otherwise none.
-- Assumes nothing.
use mathlib.Core.Path.{◌≡◌, refl}
use mathlib.Core.List.{List}
use Prim.Native.Nat.{ℕ, ◌+◌, ◌-◌, ◌*◌, ◌/◌, ◌%◌}
use native.Mathlib.Nat.{zero-mul}
use native.Mathlib.Omega.{arith}
use lib.ListN.{length, take, drop, length-drop}
use Rattle.octets.proofs.Parts.{tail-is}
use Rattle.format.specs.Lengths.{record_length}
use Rattle.sheet_walk.specs.InnerShape.{BeginsWith, each_has}
use Rattle.sheet_walk.proofs.Runs.{none}
use Rattle.spelling.specs.InnerSpelling.{Passes}
use Rattle.spelling.proofs.passed.Goals as goal
use Rattle.spelling.proofs.passed.Goals.{Then-are_full_pieces, Then-are_scatterers}

-- where nothing is passed
stays : (x : List ℕ) (at follower left : ℕ) → Passes x at follower left (record { at = at; left = left })
stays x at follower left = (0, omega (arith, zero-mul (record_length follower)), omega (arith, zero-mul (each_has follower)), none follower (drop at x))

-- past n full pieces
past-pieces : (x : List ℕ) (at follower left : ℕ) → follower ≡ 6 → BeginsWith 6 (left / 32) (drop at x) → Passes x at follower left (record { at = at + left / 32 * record_length 6; left = left % 32 })
past-pieces x at follower left e b = rw e ((left / 32, refl, omega arith, b))

-- past all scatterers
past-scatterers : (x : List ℕ) (at follower left : ℕ) → follower ≡ 12 → BeginsWith 12 left (drop at x) → Passes x at follower left (record { at = at + left * record_length 12; left = 0 })
past-scatterers x at follower left e b = rw e ((left, refl, omega arith, b))

-- the test tells of x from the place on
from_place : (x : List ℕ) (at kind n : ℕ) → BeginsWith kind n (take (length x - at) (drop at x)) → BeginsWith kind n (drop at x)
from_place x at kind n b = rw (tail-is at x) at b

full-there : (c : Then-are_full_pieces) → let a = c.args in BeginsWith 6 (a.left / 32) (drop a.at a.x.now)
full-there c = let a = c.args in
    from_place a.x.now a.at 6 (a.left / 32) (c.are_full_pieces.ensures.0 c.if-are_full_pieces.true)

scatterers-there : (c : Then-are_scatterers) → let a = c.args in BeginsWith 12 a.left (drop a.at a.x.now)
scatterers-there c = let a = c.args in
    from_place a.x.now a.at 12 a.left (c.are_scatterers.ensures.0 c.if-are_scatterers.true)

pub overflow_mul-result : goal.overflow_mul-result
overflow_mul-result c = omega (arith, (full-there (goal.at.overflow_mul-result c).Then-are_full_pieces).long, length-drop c.args.at c.args.x.now, c.well_formed)

pub overflow_add-result : goal.overflow_add-result
overflow_add-result c = omega (arith, (full-there (goal.at.overflow_add-result c).Then-are_full_pieces).long, length-drop c.args.at c.args.x.now, c.well_formed, c.requires)

pub returns-then-are_full_pieces : goal.returns-then-are_full_pieces
returns-then-are_full_pieces c = let a = c.args in
    past-pieces a.x.now a.at a.follower a.left c.if-follower-eq-KIND.true (full-there (goal.at.returns-then-are_full_pieces c).Then-are_full_pieces)

pub returns-then-follower-eq-KIND : goal.returns-then-follower-eq-KIND
returns-then-follower-eq-KIND c = let a = c.args in stays a.x.now a.at a.follower a.left

pub returns-then-follower-ne-KIND : goal.returns-then-follower-ne-KIND
returns-then-follower-ne-KIND c = let a = c.args in stays a.x.now a.at a.follower a.left

pub overflow_mul-result-then-are_scatterers : goal.overflow_mul-result-then-are_scatterers
overflow_mul-result-then-are_scatterers c = omega (arith, (scatterers-there (goal.at.overflow_mul-result-then-are_scatterers c).Then-are_scatterers).long, length-drop c.args.at c.args.x.now, c.well_formed)

pub overflow_add-result-then-are_scatterers : goal.overflow_add-result-then-are_scatterers
overflow_add-result-then-are_scatterers c = omega (arith, (scatterers-there (goal.at.overflow_add-result-then-are_scatterers c).Then-are_scatterers).long, length-drop c.args.at c.args.x.now, c.well_formed, c.requires)

pub returns-then-are_scatterers : goal.returns-then-are_scatterers
returns-then-are_scatterers c = let a = c.args in
    past-scatterers a.x.now a.at a.follower a.left c.if-follower-ne-KIND.false (scatterers-there (goal.at.returns-then-are_scatterers c).Then-are_scatterers)

pub returns : goal.returns
returns c = let a = c.args in stays a.x.now a.at a.follower a.left
