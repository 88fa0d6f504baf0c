-- Trials of the mask's meanings: those of document 01, and the masks at which versions and faults come apart.
-- Assumes nothing.
use Rattle.std.specs.Prelude.{◌≡◌, List, [], ◌∷◌}
use Rattle.mask.specs.Fields.{dwell_size}
use Rattle.mask.specs.Mask.{lowest_fault, new_in_mask}

-- sizes, lowest faults by version, and what is new
unfoldable pub trials : List (Type 0)
trials =
    (dwell_size 0xFF00_03C0_0000_0000 0 ≡ 48)
    ∷ (dwell_size 0xFFC0_03C0_6000_0000 1 ≡ 60)
    ∷ (lowest_fault 3 0xFF00_03C0_0000_0000 ≡ 0)
    ∷ (lowest_fault 1 0xFF00_03C0_0000_0000 ≡ 0)
    ∷ (lowest_fault 3 0xBF00_03C0_0000_0000 ≡ 3)
    ∷ (lowest_fault 3 0xFF28_03C0_0000_0000 ≡ 13)
    ∷ (lowest_fault 3 0xFF30_03C0_0000_0000 ≡ 14)
    ∷ (lowest_fault 3 0xFFC0_03C1_E000_0000 ≡ 35)
    ∷ (lowest_fault 3 0xFF00_03C1_6000_0000 ≡ 10)
    ∷ (lowest_fault 3 0xFF00_03C1_0000_0000 ≡ 34)
    ∷ (lowest_fault 3 0xFF00_03D0_0001_8000 ≡ 50)
    -- D28 without D29 and D30: a fault in version 1, new in version 3
    ∷ (lowest_fault 1 0xFF00_03E0_0000_0000 ≡ 29)
    ∷ (lowest_fault 3 0xFF00_03E0_0000_0000 ≡ 0)
    ∷ (new_in_mask 0xFF00_03E0_0000_0000 ≡ 29)
    ∷ (new_in_mask 0xFF00_03F8_0000_0000 ≡ 0)
    -- D32.18, alone and beside D28
    ∷ (lowest_fault 1 0xFF00_03C0_0001_0000 ≡ 49)
    ∷ (lowest_fault 3 0xFF00_03C0_0001_0000 ≡ 0)
    ∷ (new_in_mask 0xFF00_03C0_0001_0000 ≡ 49)
    ∷ (new_in_mask 0xFF00_03E0_0001_0000 ≡ 29)
    ∷ []
