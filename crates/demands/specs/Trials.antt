-- Trials of what the demands speak of: a packet with a mission, a dwell with D27 and a target, a job definition with J26, and free text.
-- Assumes nothing.
use Rattle.std.specs.Prelude.{ℕ, ◌≡◌, Bool, true, false, List, [], ◌∷◌, ◌++◌, map, length, drop, set, replicate}
use Rattle.octets.specs.Octets.{bytes}
use Rattle.distinct.specs.Distinct.{without_repeats}
use Rattle.format.specs.Edition.{as_edition}
use Rattle.format.specs.Answer.{Accepted}
use Rattle.format.specs.Dwell.{is_same_pair}
use Rattle.format.specs.Samples.{zeros, version3, dwell, d2to9, d24to27, numbered, mission, job, free_text, shortest_hrr, magnitudes}
use Rattle.format.specs.New.{Nothing, Found, first_new}
use Rattle.format.specs.Reader.{parsed, sheet, read}
use Rattle.format.specs.Writer.{listed}
use Rattle.demands.specs.Filled.{filled_in}
use Rattle.demands.specs.Places.{is_withheld_at}
use Rattle.demands.specs.Counts.{count, is_kind, is_leader, pairs_on}
use Rattle.demands.specs.Names.{names_are_lines}

-- the packet
unfoldable pub mixed : List ℕ
mixed = version3 (
    mission 12 31
    ++ dwell 0xFFC0_03C0_6000_0000 (d2to9 1 ++ bytes 4 1 ++ bytes 4 1 ++ d24to27 7 0x1234 ++ zeros 4)
    ++ job 94
    ++ free_text 33)

-- whether each of these places of its Edition 3 sheet is withheld
abbrev pub withheld_of : List ℕ → List Bool
withheld_of is = map (is_withheld_at (listed (sheet (as_edition 3) mixed)).records) is

-- whether the names on its sheet are lines, with a line feed in one of these places at a time
abbrev pub names_with : List ℕ → List Bool
names_with is = map (λ i. names_are_lines (listed (set (sheet (as_edition 3) mixed) i 0x0A)).records) is

-- both readings of it, its filled sheets (filled in from its sheet without the header, each record meets one of another
-- kind), its counts; the places around D27 (151 and 152) and around its mark (160), around J26 (272) and its mark (275); something new
-- in a second segment: a J14 before an HRR segment, and an HRR segment; one with three scatterers, counted; the pairs of D2 and D3 of
-- two dwells on an Edition 1 sheet; and a line feed at the first and the last byte of P3, P5, P8, M1, M2, M4, J3, F1 and F2, and beside
-- them, also in F3
unfoldable pub trials : List (Type 0)
trials =
    ((read (as_edition 3) mixed (zeros 400)).answer ≡ Accepted 4 1 1 369)
    ∷ (first_new 1 (parsed (as_edition 3) mixed).segments ≡ Nothing)
    ∷ ((read (as_edition 1) mixed (zeros 400)).answer ≡ Accepted 4 1 1 369)
    ∷ (filled_in (sheet (as_edition 1) mixed) (sheet (as_edition 3) mixed) ≡ sheet (as_edition 3) mixed)
    ∷ (filled_in (sheet (as_edition 1) mixed) (drop 33 (sheet (as_edition 3) mixed)) ≡ sheet (as_edition 1) mixed)
    ∷ (count is_leader (listed (sheet (as_edition 3) mixed)).records ≡ 4)
    ∷ (length (without_repeats is_same_pair (pairs_on (listed (sheet (as_edition 3) mixed)).records)) ≡ 1)
    ∷ (count (is_kind 4) (listed (sheet (as_edition 3) mixed)).records ≡ 1)
    ∷ (withheld_of (150 ∷ 151 ∷ 152 ∷ 153 ∷ 159 ∷ 160 ∷ 161 ∷ []) ≡ false ∷ true ∷ true ∷ false ∷ false ∷ true ∷ false ∷ [])
    ∷ (withheld_of (271 ∷ 272 ∷ 273 ∷ 274 ∷ 275 ∷ 276 ∷ []) ≡ false ∷ true ∷ false ∷ false ∷ true ∷ false ∷ [])
    ∷ (first_new 1 (parsed (as_edition 3) (version3 (mission 1 1 ++ job 96 ++ shortest_hrr))).segments ≡ Found 2 14)
    ∷ (first_new 1 (parsed (as_edition 3) (version3 (mission 1 1 ++ shortest_hrr))).segments ≡ Found 2 0)
    ∷ (count is_leader (listed (sheet (as_edition 3) (version3 (magnitudes (7 ∷ 8 ∷ 9 ∷ []))))).records ≡ 1)
    ∷ (length (without_repeats is_same_pair (pairs_on (listed (sheet (as_edition 3) (version3 (numbered 1 2 ++ numbered 1 2)))).records)) ≡ 1)
    ∷ (pairs_on (listed (sheet (as_edition 1) (version3 (numbered 1 2 ++ numbered 1 3)))).records ≡ record { d2 = 1; d3 = 2 } ∷ record { d2 = 1; d3 = 3 } ∷ [])
    ∷ (names_with (7 ∷ 8 ∷ 10 ∷ 11 ∷ 15 ∷ 24 ∷ []) ≡ replicate 6 false)
    ∷ (names_with (34 ∷ 45 ∷ 46 ∷ 57 ∷ 59 ∷ 68 ∷ []) ≡ replicate 6 false)
    ∷ (names_with (212 ∷ 217 ∷ 277 ∷ 286 ∷ 287 ∷ 296 ∷ []) ≡ replicate 6 false)
    ∷ (names_with (6 ∷ 9 ∷ 12 ∷ 14 ∷ 25 ∷ 58 ∷ 69 ∷ 211 ∷ 218 ∷ 297 ∷ 303 ∷ 334 ∷ []) ≡ replicate 12 true)
    ∷ []
