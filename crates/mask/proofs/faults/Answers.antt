-- `mask::faults` meets its contract. What each part ensures of a field, put together by one call of simp and laid in the document's order.
-- Assumes nothing.
use lib.Dec.{eqb}
use Rattle.octets.specs.Octets.{between}
use Rattle.mask.specs.Mask.{is_required}
use Rattle.mask.proofs.Bit.{set-or}
use Rattle.mask.proofs.Sets.{fields}
use Rattle.mask.proofs.Words.{required-word, reserved-word, last_word, d12-says, d15-says, d18-says, d21-says, d10-says, places-says, classes-says, d28-says}
use Rattle.mask.proofs.Sentence.{in_order}
use Rattle.mask.proofs.faults.Goals as goal

pub returns : goal.returns
returns c n lo hi =
    let m = c.args.mask in
    let h = c.ranges.mask.fits in
    simp (
      set-or,
      c.missing.ensures,
      c.common.ensures,
      c.in_version1.ensures,
      c.common-2.ensures,
      d12-says m h n lo hi _ (c.gaps.ensures n),
      d15-says m h n lo hi _ (c.gaps-2.ensures n),
      d18-says m h n lo hi _ (c.gaps-3.ensures n),
      d21-says m h n lo hi _ (c.gaps-4.ensures n),
      d10-says m h n lo hi _ (c.gaps-5.ensures n),
      places-says m h n lo hi _ (c.gaps-6.ensures n),
      classes-says m h n lo hi _ (c.gaps-7.ensures n),
      c.in_version1-2.ensures,
      d28-says m h n lo hi _ (c.gaps-8.ensures n),
      c.doubled.ensures n lo hi,
      fields _ is_required required-word n lo hi,
      fields _ (between 50 65) reserved-word n lo hi,
      fields _ (λ n. eqb n 49) last_word n lo hi,
    ) (in_order c.args.version m n)
