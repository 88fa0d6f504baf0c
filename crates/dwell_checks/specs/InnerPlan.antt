-- What the walks over a dwell ask of its body. Inner contracts alone speak of it.
-- Assumes nothing.
use Rattle.std.specs.Prelude.{ℕ, ◌+◌, ◌*◌, ◌^◌, ◌≤◌, ◌≡◌, Bool, cond, ◌||◌, List, nat_abs, length, drop}
use Rattle.octets.specs.Octets.{be}
use Rattle.mask.specs.Fields.{announced, announced_length, dwell_widths, d32}
use Rattle.mask.specs.InnerFields.{widths, Required}
use Rattle.position.specs.InnerAlways.{is_always_latitude}
use Rattle.format.specs.declared.Area.{Area}
use Rattle.format.specs.Dwell.{mask_of, dwell_fields, target_count, target_length, area_of}
use Rattle.dwell_checks.specs.declared.Plan.{Plan}

-- a body that begins with this mask, which announces the required fields, and that has the announced ones
abbrev pub Headed : ℕ → List ℕ → Type 0
Headed mask b = (mask ≡ mask_of b) × Required mask × (8 + announced_length mask 2 dwell_widths ≤ length b)

-- where D24 stands in the body of a dwell with this mask
abbrev pub d24_at : ℕ → ℕ
d24_at mask = 8 + announced_length mask 2 (widths 2 23)

-- D10 and D24 as 32 bits have them
abbrev pub Bounded : Area → Type 0
Bounded area = (nat_abs area.d10.0 ≤ 2 ^ 31) × (nat_abs area.d24.0 ≤ 2 ^ 31)

-- the plan of the body b
abbrev pub plan_of : List ℕ → Plan
plan_of b =
    record {
      mask = mask_of b;
      start = 8 + announced_length (mask_of b) 2 dwell_widths;
      each = target_length (mask_of b);
      count = target_count b;
      area = area_of (dwell_fields b);
    }

-- t has n targets as the plan says
abbrev pub Holds : Plan → ℕ → List ℕ → Type 0
Holds p n t = (p.each ≡ target_length p.mask) × (n * p.each ≤ length t) × Bounded p.area

-- every D32.2 is a latitude, and so is every sum where D10 and D24 are small enough: row 14 can apply to no target
abbrev pub is_inside : ℕ → Area → Bool
is_inside mask area = announced mask (d32 2) || is_always_latitude area.d10.0 area.d24.0

-- the number in w bytes at a place of b where field n is announced, and 0 where it is not
abbrev pub number_if : ℕ → ℕ → ℕ → ℕ → List ℕ → ℕ
number_if mask n w at b = cond (announced mask n) (be w (drop at b)) 0
