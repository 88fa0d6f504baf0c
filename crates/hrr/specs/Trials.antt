-- Trials of the HRR segment's meanings: masks at which row 21 changes, counts, widths and sizes.
-- Assumes nothing.
use Rattle.std.specs.Prelude.{ℕ, ◌≡◌, true, false, List, [], ◌∷◌, ◌++◌, replicate}
use Rattle.octets.specs.Octets.{bytes}
use Rattle.octets.specs.Layout.{total}
use Rattle.hrr.specs.Hrr.{hrr_mask, is_hrr_mask, hrr_widths, hrr_fields, H, scatterer_count, scatterer_widths, widened, narrowed, hrr_size, is_hrr_size}

-- H2 to H31 at full widths, all zero but H6, H7, H8, H25 and H26
unfoldable pub fields_with : ℕ → ℕ → ℕ → ℕ → ℕ → List ℕ
fields_with h6 h7 h8 h25 h26 =
    replicate 7 0 ++ bytes 2 h6 ++ bytes 2 h7 ++ bytes 2 h8 ++ replicate 32 0 ++ h25 ∷ h26 ∷ replicate 14 0

-- masks, fields, counts, widths, scatterers and sizes
unfoldable pub trials : List (Type 0)
trials =
    (hrr_mask (0xE2 ∷ 0xFB ∷ 0xC7 ∷ 0x82 ∷ 0x00 ∷ []) ≡ 0xE2FB_C782_0000_0000)
    ∷ (total hrr_widths ≡ 61)
    -- the mandatory fields alone; one bit less, of H8, H24 and H32.1; H9, which is free; the highest and the lowest spare bit
    ∷ (is_hrr_mask 0xE2FB_C782_0000_0000 ≡ true)
    ∷ (is_hrr_mask 0xE0FB_C782_0000_0000 ≡ false)
    ∷ (is_hrr_mask 0xE2FB_C582_0000_0000 ≡ false)
    ∷ (is_hrr_mask 0xE2FB_C780_0000_0000 ≡ false)
    ∷ (is_hrr_mask 0xE3FB_C782_0000_0000 ≡ true)
    ∷ (is_hrr_mask 0xE2FB_C782_2000_0000 ≡ false)
    ∷ (is_hrr_mask 0xE2FB_C782_0100_0000 ≡ false)
    ∷ (is_hrr_mask 0xFFFF_FFFF_C000_0000 ≡ true)
    -- where H25 stands, with the mandatory fields alone: behind 27 bytes; H26 is next
    ∷ (H 25 (hrr_fields ((0xE2 ∷ 0xFB ∷ 0xC7 ∷ 0x82 ∷ 0x00 ∷ []) ++ replicate 27 0 ++ 7 ∷ 8 ∷ [])) ≡ 7)
    ∷ (H 26 (hrr_fields ((0xE2 ∷ 0xFB ∷ 0xC7 ∷ 0x82 ∷ 0x00 ∷ []) ++ replicate 27 0 ++ 7 ∷ 8 ∷ [])) ≡ 8)
    ∷ (H 25 (fields_with 1 2 3 4 5) ≡ 4)
    -- H6 where announced, also 0; else H7 times H8, where an absent H7 is zero
    ∷ (scatterer_count 0xEAFB_C782_0000_0000 (fields_with 3 4 5 1 0) ≡ 3)
    ∷ (scatterer_count 0xEEFB_C782_0000_0000 (fields_with 0 4 5 1 0) ≡ 0)
    ∷ (scatterer_count 0xE6FB_C782_0000_0000 (fields_with 3 4 5 1 0) ≡ 20)
    ∷ (scatterer_count 0xE2FB_C782_0000_0000 (fields_with 3 4 5 1 0) ≡ 0)
    ∷ (scatterer_count 0xE6FB_C782_0000_0000 (fields_with 0 65535 65535 1 0) ≡ 4294836225)
    -- the phase's bytes are counted where it is announced
    ∷ (scatterer_widths 0xE2FB_C782_0000_0000 (fields_with 0 0 0 1 2) ≡ 1 ∷ 0 ∷ 0 ∷ 0 ∷ [])
    ∷ (scatterer_widths 0xE2FB_C783_C000_0000 (fields_with 0 0 0 2 1) ≡ 2 ∷ 1 ∷ 1 ∷ 1 ∷ [])
    ∷ (widened (1 ∷ 0 ∷ 0 ∷ 0 ∷ []) (7 ∷ 8 ∷ []) ≡ 0 ∷ 7 ∷ 0 ∷ 0 ∷ 0 ∷ 0 ∷ 0 ∷ 0 ∷ [])
    ∷ (widened (2 ∷ 1 ∷ 1 ∷ 1 ∷ []) (7 ∷ 8 ∷ 9 ∷ 10 ∷ 11 ∷ []) ≡ 7 ∷ 8 ∷ 0 ∷ 9 ∷ 0 ∷ 10 ∷ 0 ∷ 11 ∷ [])
    ∷ (narrowed (2 ∷ 1 ∷ 0 ∷ 1 ∷ []) (7 ∷ 8 ∷ 0 ∷ 9 ∷ 0 ∷ 10 ∷ 0 ∷ 11 ∷ []) ≡ 7 ∷ 8 ∷ 9 ∷ 11 ∷ [])
    -- the least size, one with three scatterers, one past 32 bits
    ∷ (hrr_size 0xE2FB_C782_0000_0000 (fields_with 0 0 0 1 0) ≡ 39)
    ∷ (hrr_size 0xEAFB_C782_0000_0000 (fields_with 3 0 0 1 0) ≡ 44)
    ∷ (hrr_size 0xE6FB_C783_C000_0000 (fields_with 0 65535 65535 2 2) ≡ 25769017391)
    -- H25 is 1 or 2; H26 is at most 2, with no phase announced too
    ∷ (is_hrr_size 0xE2FB_C782_0000_0000 (fields_with 0 0 0 0 0) 39 ≡ false)
    ∷ (is_hrr_size 0xE2FB_C782_0000_0000 (fields_with 0 0 0 1 0) 39 ≡ true)
    ∷ (is_hrr_size 0xE2FB_C782_0000_0000 (fields_with 0 0 0 1 0) 40 ≡ false)
    ∷ (is_hrr_size 0xE2FB_C782_0000_0000 (fields_with 0 0 0 2 2) 39 ≡ true)
    ∷ (is_hrr_size 0xE2FB_C782_0000_0000 (fields_with 0 0 0 2 3) 39 ≡ false)
    ∷ (is_hrr_size 0xE2FB_C782_0000_0000 (fields_with 0 0 0 3 0) 39 ≡ false)
    ∷ []
