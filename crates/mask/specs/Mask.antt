-- The faults of a mask (document 01, 'Dwell and mask'), and what in a mask is new in Edition 3.
-- The rules go by the packet's version, 1 or 3, and not by the edition that it is read as.
-- Assumes nothing.
use Rattle.std.specs.Prelude.{ℕ, zero, suc, Bool, false, not, ◌&&◌, ◌||◌, cond, List, [], ◌∷◌, ◌++◌, eqb}
use Rattle.octets.specs.Octets.{between}
use Rattle.mask.specs.Fields.{announced, d32}

-- "one of D2 to D9, D24 to D27"
unfoldable pub is_required : ℕ → Bool
is_required n = between 2 9 n || between 24 27 n

-- "reserved (50 to 65; also 49, D32.18, in version 1)"
unfoldable pub is_reserved : ℕ → ℕ → Bool
is_reserved version n = between 50 65 n || eqb version 1 && eqb n 49

-- "Groups: D12-14; D15-17; D18-20; D21-23; D10, D11, D32.4, D32.5; D32.2, D32.3; D32.16, D32.17"
abbrev pub groups : List (List ℕ)
groups =
    (12 ∷ 13 ∷ 14 ∷ [])
    ∷ (15 ∷ 16 ∷ 17 ∷ [])
    ∷ (18 ∷ 19 ∷ 20 ∷ [])
    ∷ (21 ∷ 22 ∷ 23 ∷ [])
    ∷ (10 ∷ 11 ∷ d32 4 ∷ d32 5 ∷ [])
    ∷ (d32 2 ∷ d32 3 ∷ [])
    ∷ (d32 16 ∷ d32 17 ∷ [])
    ∷ []

-- "D28-30"
abbrev pub d28to30 : List ℕ
d28to30 = 28 ∷ 29 ∷ 30 ∷ []

-- the groups of a version: those of all, and "in version 1 also D28-30"
abbrev pub groups_of : ℕ → List (List ℕ)
groups_of version = groups ++ cond (eqb version 1) (d28to30 ∷ []) []

-- n is in the list
unfoldable pub is_in : ℕ → List ℕ → Bool
is_in n [] = false
is_in n (x ∷ xs) = eqb n x || is_in n xs

-- some field of the list is set
unfoldable pub any_set : ℕ → List ℕ → Bool
any_set mask [] = false
any_set mask (n ∷ ns) = announced mask n || any_set mask ns

-- "is unset while another of its group is set"
unfoldable pub is_gap : ℕ → List ℕ → ℕ → Bool
is_gap mask group n = is_in n group && not (announced mask n) && any_set mask group

-- "is unset while another of its group is set", of any of the groups
unfoldable pub is_gap_in : ℕ → List (List ℕ) → ℕ → Bool
is_gap_in mask [] n = false
is_gap_in mask (g ∷ gs) n = is_gap mask g n || is_gap_in mask gs n

-- "is D32.4 or D32.5 and set while D32.2 and D32.3 are both set"
unfoldable pub is_doubled : ℕ → ℕ → Bool
is_doubled mask n =
    is_in n (d32 4 ∷ d32 5 ∷ []) && announced mask n && (announced mask (d32 2) && announced mask (d32 3))

-- "A mask field is at fault when ..", in the order of that sentence
unfoldable pub is_fault : ℕ → ℕ → ℕ → Bool
is_fault version mask n =
    is_required n && not (announced mask n)
    || is_reserved version n && announced mask n
    || is_gap_in mask (groups_of version) n
    || is_doubled mask n

-- the first of the k numbers from n on at which f holds, and 0 where there is none
unfoldable pub first_from : (ℕ → Bool) → ℕ → ℕ → ℕ
first_from f zero n = 0
first_from f (suc k) n = cond (f n) n (first_from f k (suc n))

-- "lowest mask field at fault" (row 11), and 0 where none is
unfoldable pub lowest_fault : ℕ → ℕ → ℕ
lowest_fault version mask = first_from (is_fault version mask) 64 2

-- new in Edition 3: "a mask with some but not all of D28-30 (the lowest-numbered unset); D32.18 set (49)", "the earlier in this
-- list is named"; 0 where the mask has neither (row 15)
unfoldable pub new_in_mask : ℕ → ℕ
new_in_mask mask =
    cond (eqb (first_from (is_gap mask d28to30) 3 28) 0) (cond (announced mask 49) 49 0) (first_from (is_gap mask d28to30) 3 28)

-- a mask that announces positions of targets: D32.2 and D32.3, or D32.4 and D32.5 ("neither position pair" is row 13's)
unfoldable pub is_placed : ℕ → Bool
is_placed mask = announced mask (d32 2) && announced mask (d32 3) || announced mask (d32 4) && announced mask (d32 5)
