-- `spelling::put_masked_hrr` meets its contract. The mask is copied, and the announced fields go behind it.
-- Assumes nothing.
use mathlib.Core.Path.{◌≡◌, refl, ap}
use Prim.Native.Nat.{ℕ, ◌+◌, ◌≤◌}
use native.Mathlib.Omega.{arith}
use lib.ListN.{length}
use Rattle.octets.specs.Layout.{total}
use Rattle.mask.specs.Fields.{announced_length}
use Rattle.hrr.specs.Hrr.{hrr_mask, hrr_widths}
use Rattle.spelling.proofs.Stored.{hrr-long, hrr-length, hrr-stored}
use Rattle.spelling.proofs.put_masked_hrr.Goals as goal
use Rattle.spelling.proofs.put_masked_hrr.Goals.{Start}

-- how long the record is, and how much there is to store
long : (s : Start) → length s.args.b.now ≡ 66
long s = hrr-long 11 s.args.b.now s.requires.0 refl

room : (s : Start) → 5 + announced_length (hrr_mask s.args.b.now) 2 hrr_widths ≤ length s.args.o.now
room s = omega (arith, hrr-length 11 s.args.b.now s.requires.0 refl, s.requires.1)

pub copy-requires : goal.copy-requires
copy-requires c = omega (arith, long (goal.at.copy-requires c).Start, room (goal.at.copy-requires c).Start)

pub mask_of-requires : goal.mask_of-requires
mask_of-requires c = omega (arith, long (goal.at.mask_of-requires c).Start)

pub hrr_fields-requires : goal.hrr_fields-requires
unfolding total
hrr_fields-requires c =
    let m = ap (λ (k : ℕ). announced_length k 2 hrr_widths) c.mask_of.ensures in
    record { held = omega (arith, long (goal.at.hrr_fields-requires c).Start); room = omega (arith, room (goal.at.hrr_fields-requires c).Start, m, c.copy.auto.o) }

pub returns : goal.returns
returns c =
    hrr-stored 11 c.args.b.now c.requires.0 refl _ c.mask_of.ensures c.args.o.now c.copy.ensures c.hrr_fields.ensures.stored
