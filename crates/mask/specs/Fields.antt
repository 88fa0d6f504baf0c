-- The fields that a dwell's mask announces (document 01, 'Dwell and mask').
-- A field has the number n for Dn, 31 + j for D32.j, and 50 to 65 for the mask's bits 15 to 0.
-- Assumes nothing.
use Rattle.std.specs.Prelude.{ℕ, suc, ◌+◌, ◌-◌, ◌*◌, ◌/◌, ◌%◌, ◌^◌, Bool, cond, List, [], ◌∷◌, ◌++◌, eqb, take, drop}
use Rattle.octets.specs.Layout.{pad}

-- "31+j for D32.j"
abbrev pub d32 : ℕ → ℕ
d32 j = 31 + j

-- "Its bit 63 announces D2, and so on down": the mask announces the field n by its bit 65 - n
unfoldable pub announced : ℕ → ℕ → Bool
announced mask n = eqb (mask / 2 ^ (65 - n) % 2) 1

-- the widths of D2 to D31
abbrev pub dwell_widths : List ℕ
dwell_widths =
    2 ∷ 2 ∷ 1 ∷ 2 ∷ 4 ∷ 4 ∷ 4 ∷ 4 ∷ 4 ∷ 4 ∷ 4 ∷ 4 ∷ 2 ∷ 2 ∷ 4 ∷ 1 ∷ 1 ∷ 2 ∷ 2 ∷ 2 ∷ 2 ∷ 2 ∷ 4 ∷ 4 ∷ 2 ∷ 2 ∷ 2 ∷ 2 ∷ 2 ∷ 1 ∷ []

-- "Each target, D32.1 on": those of D32.1 to D32.18
abbrev pub target_widths : List ℕ
target_widths = 2 ∷ 4 ∷ 4 ∷ 2 ∷ 2 ∷ 2 ∷ 2 ∷ 2 ∷ 1 ∷ 1 ∷ 1 ∷ 2 ∷ 2 ∷ 1 ∷ 2 ∷ 1 ∷ 4 ∷ 1 ∷ []

-- the bytes that field n of width w takes in the packet: none where it is not announced
abbrev pub taken : ℕ → ℕ → ℕ → ℕ
taken mask n w = cond (announced mask n) w 0

-- "Announced fields follow in order": the bytes that the fields n, n + 1, .. of the widths ws take
unfoldable pub announced_length : ℕ → ℕ → List ℕ → ℕ
announced_length mask n [] = 0
announced_length mask n (w ∷ ws) = taken mask n w + announced_length mask (suc n) ws

-- "at full widths (absent ones zero)": the fields n, n + 1, .. of the widths ws, of which b has the announced ones
unfoldable pub full_fields : ℕ → ℕ → List ℕ → List ℕ → List ℕ
full_fields mask n [] b = []
full_fields mask n (w ∷ ws) b =
    pad w (cond (announced mask n) b []) ++ full_fields mask (suc n) ws (drop (taken mask n w) b)

-- "only announced fields": the way back, from fields at full widths to the announced ones
unfoldable pub announced_fields : ℕ → ℕ → List ℕ → List ℕ → List ℕ
announced_fields mask n [] full = []
announced_fields mask n (w ∷ ws) full =
    take (taken mask n w) full ++ announced_fields mask (suc n) ws (drop w full)

-- what mask and D5 give for the size S2 of a dwell: 5 header bytes, 8 of the mask, the announced fields, "then D5 targets"
unfoldable pub dwell_size : ℕ → ℕ → ℕ
dwell_size mask targets = 5 + 8 + announced_length mask 2 dwell_widths + targets * announced_length mask (d32 1) target_widths
