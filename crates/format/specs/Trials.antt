-- Trials of the meanings. `marked` are those that document 01 marks P, in one list; `printed_results` its two packets with a printed
-- result; `editions` and `writing` tell the readings and the writer's rows from likely mistakes; `split_dwells` tells the dwells that are
-- counted from those that are not (request A1); `bounds` has the bound for some lengths (request A2); `texts` tries both sets of text in
-- the fields (request A3); `profiles` tries HRR segments (request A4).
-- Assumes nothing.
use Rattle.std.specs.Prelude.{ℕ, ◌+◌, ◌-◌, ◌≡◌, List, [], ◌∷◌, ◌++◌, pos, negsuc, length, take, drop, set}
use Rattle.octets.specs.Octets.{be, bytes, signed}
use Rattle.position.specs.Trials.{marked as positions}
use Rattle.format.specs.Edition.{as_edition}
use Rattle.format.specs.Answer.{Answer, Accepted, Refused, outcome}
use Rattle.format.specs.Reader.{reading_answer, sheet, read}
use Rattle.format.specs.Bound.{sheet_bound}
use Rattle.format.specs.Writer.{write}
use Rattle.format.specs.Samples.{zeros, version1, version3, segment, empty, numbered, printed, northmost, job, mission, free_text, header_with, body_with, mandatory_mask, magnitude_bit, h6_bit, h7_bit, h27_bit, phase_bit, index_bits, spare_bit, hrr, shortest_hrr, magnitudes, scatterer}

-- the Edition 1 reading with the program's sheet of 65,536 bytes
abbrev pub read1 : List ℕ → Answer
read1 l = reading_answer (as_edition 1) l 65536

-- the Edition 3 reading, as the program has it
abbrev pub read3 : List ℕ → Answer
read3 l = reading_answer (as_edition 3) l 65536

-- those of whole packets
unfoldable pub packets : List (Type 0)
packets =
    -- "D24 0x7FFFFFFF, D10 1: D32.4 1 is 90000000, 2 gives 14"
    (read3 (northmost 1) ≡ Accepted 1 1 1 166)
    ∷ (signed 4 (drop 158 (sheet (as_edition 3) (northmost 1))) ≡ pos 90000000)
    ∷ (read3 (northmost 2) ≡ Refused 14 1 35)
    -- "mask bytes FF 00 03 C0 00 00 00 00, D5 0: S2 48 accepted, 49 gives 12"
    ∷ (read3 (version3 (empty 0xFF00_03C0_0000_0000 0)) ≡ Accepted 1 1 0 121)
    ∷ (read3 (version3 (empty 0xFF00_03C0_0000_0000 1)) ≡ Refused 12 1 0)
    ∷ []

-- all that are marked P
unfoldable pub marked : List (Type 0)
marked = positions ++ packets

-- "prints ok 0 0 0 33" and the printed trial
unfoldable pub printed_results : List (Type 0)
printed_results =
    -- "A bare 32-byte header with P2 32 prints ok 0 0 0 33"
    (read3 (version3 []) ≡ Accepted 0 0 0 33)
    -- "ok 1 1 1 166" and "-351563 359648438": latitude and longitude are the last 8 bytes of the sheet
    ∷ (length printed ≡ 92)
    ∷ (read3 printed ≡ Accepted 1 1 1 166)
    ∷ (length (sheet (as_edition 3) printed) ≡ 166)
    ∷ (signed 4 (drop 158 (sheet (as_edition 3) printed)) ≡ negsuc 351562)
    ∷ (be 4 (drop 162 (sheet (as_edition 3) printed)) ≡ 359648438)
    -- row 16 comes where the sheet is one byte too short, and not earlier
    ∷ (reading_answer (as_edition 3) printed 166 ≡ Accepted 1 1 1 166)
    ∷ (reading_answer (as_edition 3) printed 165 ≡ Refused 16 0 0)
    -- the seven numbers: number, segment, field, segments, dwells, targets, length
    ∷ ((read (as_edition 3) printed (zeros 166)).numbers ≡ 0 ∷ 0 ∷ 0 ∷ 1 ∷ 1 ∷ 1 ∷ 166 ∷ [])
    ∷ ((read (as_edition 3) (northmost 2) (zeros 166)).numbers ≡ 14 ∷ 1 ∷ 35 ∷ 0 ∷ 0 ∷ 0 ∷ 0 ∷ [])
    ∷ []

-- masks and rules go by the version; what is new in a version 3 packet, read as Edition 1, gives 15
unfoldable pub editions : List (Type 0)
editions =
    -- D28 without D29 and D30
    (read1 (version1 (empty 0xFF00_03E0_0000_0000 2)) ≡ Refused 11 1 29)
    ∷ (read3 (version1 (empty 0xFF00_03E0_0000_0000 2)) ≡ Refused 11 1 29)
    ∷ (read3 (version3 (empty 0xFF00_03E0_0000_0000 2)) ≡ Accepted 1 1 0 121)
    ∷ (read1 (version3 (empty 0xFF00_03E0_0000_0000 2)) ≡ Refused 15 1 29)
    -- D32.18, alone and beside D28
    ∷ (read3 (version1 (empty 0xFF00_03C0_0001_0000 0)) ≡ Refused 11 1 49)
    ∷ (read3 (version3 (empty 0xFF00_03C0_0001_0000 0)) ≡ Accepted 1 1 0 121)
    ∷ (read1 (version3 (empty 0xFF00_03C0_0001_0000 0)) ≡ Refused 15 1 49)
    ∷ (read1 (version3 (empty 0xFF00_03E0_0001_0000 2)) ≡ Refused 15 1 29)
    -- type 3, also with a body that can't hold its mask, which Edition 3 refuses (request A4); in version 1 it is opaque
    ∷ (read1 (version3 (mission 1 1 ++ segment 3 (7 ∷ []))) ≡ Refused 15 2 0)
    ∷ (read3 (version3 (mission 1 1 ++ segment 3 (7 ∷ []))) ≡ Refused 9 2 0)
    ∷ (read1 (version1 (segment 3 (7 ∷ []))) ≡ Accepted 1 0 0 73)
    -- J14: 96 is new, 94 is not
    ∷ (read1 (version3 (job 96)) ≡ Refused 15 1 14)
    ∷ (read3 (version3 (job 96)) ≡ Accepted 1 0 0 103)
    ∷ (read1 (version3 (job 94)) ≡ Accepted 1 0 0 103)
    ∷ (read1 (version1 (job 96)) ≡ Accepted 1 0 0 103)
    -- D27 and its mark, at 111 and 120 of the sheet: shown by Edition 3 and of version 1, else withheld
    ∷ (be 2 (drop 111 (sheet (as_edition 3) (version3 (empty 0xFF00_03C0_0000_0000 0)))) ≡ 0x1234)
    ∷ (drop 120 (sheet (as_edition 3) (version3 (empty 0xFF00_03C0_0000_0000 0))) ≡ 1 ∷ [])
    ∷ (be 2 (drop 111 (sheet (as_edition 1) (version3 (empty 0xFF00_03C0_0000_0000 0)))) ≡ 0)
    ∷ (drop 120 (sheet (as_edition 1) (version3 (empty 0xFF00_03C0_0000_0000 0))) ≡ 0 ∷ [])
    ∷ (be 2 (drop 111 (sheet (as_edition 1) (version1 (empty 0xFF00_03C0_0000_0000 0)))) ≡ 0x1234)
    ∷ (drop 120 (sheet (as_edition 1) (version1 (empty 0xFF00_03C0_0000_0000 0))) ≡ 1 ∷ [])
    -- J26 and its mark, the last but two and the last byte of the sheet
    ∷ (drop 99 (sheet (as_edition 3) (version3 (job 94))) ≡ 0x56 ∷ 0 ∷ 0 ∷ 1 ∷ [])
    ∷ (drop 99 (sheet (as_edition 1) (version3 (job 94))) ≡ 0 ∷ 0 ∷ 0 ∷ 0 ∷ [])
    ∷ []

-- a packet's sheet is written back as that packet; rows 17 to 20 in their order
unfoldable pub writing : List (Type 0)
writing =
    (write (sheet (as_edition 3) printed) (zeros 93) ≡ outcome (Accepted 1 1 1 92) (printed ++ 0 ∷ []))
    ∷ (write (sheet (as_edition 3) (version3 (free_text 33))) (zeros 90) ≡ outcome (Accepted 1 0 0 90) (version3 (free_text 33)))
    ∷ (write [] (zeros 2) ≡ outcome (Refused 17 0 0) (zeros 2))
    -- a cut record is 17 though the target before it is missing, which would be 18
    ∷ ((write (take 121 (sheet (as_edition 3) printed) ++ 4 ∷ []) (zeros 2)).answer ≡ Refused 17 0 0)
    ∷ ((write (take 121 (sheet (as_edition 3) printed)) (zeros 92)).answer ≡ Refused 18 0 0)
    -- a mark of 0 is 19, also where the buffer is too short
    ∷ ((write (set (sheet (as_edition 3) printed) 120 0) (zeros 92)).answer ≡ Refused 19 0 0)
    ∷ ((write (set (sheet (as_edition 3) printed) 120 0) []).answer ≡ Refused 19 0 0)
    -- a byte in the filling of a piece is 19; a count of 2 in place of 1 is 18
    ∷ ((write (set (sheet (as_edition 3) (version3 (free_text 33))) 125 1) (zeros 90)).answer ≡ Refused 19 0 0)
    ∷ ((write (set (sheet (as_edition 3) (version3 (free_text 33))) 93 2) (zeros 90)).answer ≡ Refused 18 0 0)
    ∷ (write (sheet (as_edition 3) printed) (zeros 91) ≡ outcome (Refused 20 0 0) (zeros 91))
    ∷ []

-- "Split dwells are one dwell" (request A1): segments, dwells, targets and the sheet's length
unfoldable pub split_dwells : List (Type 0)
split_dwells =
    -- one dwell; the same over two segments, and over two with a target each
    (read3 (version3 (numbered 1 2)) ≡ Accepted 1 1 0 121)
    ∷ (read3 (version3 (numbered 1 2 ++ numbered 1 2)) ≡ Accepted 2 1 0 209)
    ∷ (read3 (version3 (drop 32 printed ++ drop 32 printed)) ≡ Accepted 2 1 2 299)
    -- D2 and D3 each tell dwells apart, in their order and with all their bytes
    ∷ (read3 (version3 (numbered 1 2 ++ numbered 2 1)) ≡ Accepted 2 2 0 209)
    ∷ (read3 (version3 (numbered 0 258 ++ numbered 1 2)) ≡ Accepted 2 2 0 209)
    -- a dwell that goes on behind another one, with the same D2 or the same D3
    ∷ (read3 (version3 (numbered 1 2 ++ numbered 1 3 ++ numbered 1 2)) ≡ Accepted 3 2 0 297)
    ∷ (read1 (version3 (numbered 1 2 ++ numbered 2 2 ++ numbered 1 2)) ≡ Accepted 3 2 0 297)
    -- the same bytes in an opaque segment are no dwell
    ∷ (read3 (version3 (numbered 1 2 ++ segment 4 (drop 5 (numbered 1 3)))) ≡ Accepted 2 1 0 195)
    -- the writer's answer has the same counts
    ∷ (write (sheet (as_edition 3) (version3 (numbered 1 2 ++ numbered 1 2))) (zeros 128) ≡ outcome (Accepted 2 1 0 128) (version3 (numbered 1 2 ++ numbered 1 2)))
    ∷ []

-- "33 + 45 × (n − 32) / 4, rounded down" (request A2): lengths that no packet has, the shortest and the longest, and some between
unfoldable pub bounds : List (Type 0)
bounds =
    (sheet_bound 31 ≡ 0)
    ∷ (sheet_bound 32 ≡ 33)
    ∷ (sheet_bound 35 ≡ 66)
    ∷ (sheet_bound 36 ≡ 78)
    ∷ (sheet_bound 92 ≡ 708)
    ∷ (sheet_bound 65535 ≡ 736941)
    ∷ (sheet_bound 65536 ≡ 736953)
    ∷ (sheet_bound 65537 ≡ 0)
    ∷ []

-- "Text in fields other than F3 now holds only 0x20 to 0x7E. F3 keeps the wider set." (request A3): a line feed as the first and as the last
-- byte of each field of text, in the order of the fields; bytes at the ends of the two sets in P8 and in F3; the writer
unfoldable pub texts : List (Type 0)
texts =
    -- P3, P5 and P8
    (read3 (header_with 6 0x0A) ≡ Refused 5 0 3)
    ∷ (read3 (header_with 7 0x0A) ≡ Refused 5 0 3)
    ∷ (read3 (header_with 9 0x0A) ≡ Refused 5 0 5)
    ∷ (read3 (header_with 10 0x0A) ≡ Refused 5 0 5)
    ∷ (read3 (header_with 14 0x0A) ≡ Refused 5 0 8)
    ∷ (read1 (header_with 23 0x0A) ≡ Refused 5 0 8)
    -- M1, M2 and M4
    ∷ (read3 (body_with (mission 1 1) 0 0x0A) ≡ Refused 10 1 1)
    ∷ (read3 (body_with (mission 1 1) 11 0x0A) ≡ Refused 10 1 1)
    ∷ (read3 (body_with (mission 1 1) 12 0x0A) ≡ Refused 10 1 2)
    ∷ (read3 (body_with (mission 1 1) 23 0x0A) ≡ Refused 10 1 2)
    ∷ (read3 (body_with (mission 1 1) 25 0x0A) ≡ Refused 10 1 4)
    ∷ (read1 (body_with (mission 1 1) 34 0x0A) ≡ Refused 10 1 4)
    -- J3
    ∷ (read3 (body_with (job 94) 5 0x0A) ≡ Refused 10 1 3)
    ∷ (read1 (body_with (job 94) 10 0x0A) ≡ Refused 10 1 3)
    -- F1 and F2, and F3, which may hold one
    ∷ (read3 (body_with (free_text 33) 0 0x0A) ≡ Refused 10 1 1)
    ∷ (read3 (body_with (free_text 33) 9 0x0A) ≡ Refused 10 1 1)
    ∷ (read3 (body_with (free_text 33) 10 0x0A) ≡ Refused 10 1 2)
    ∷ (read1 (body_with (free_text 33) 19 0x0A) ≡ Refused 10 1 2)
    ∷ (read3 (body_with (free_text 33) 20 0x0A) ≡ Accepted 1 0 0 126)
    ∷ (read1 (body_with (free_text 33) 52 0x0A) ≡ Accepted 1 0 0 126)
    -- a line feed in F2 and 0x01 in F3: "text, first field"
    ∷ (read3 (version3 (set (set (free_text 33) 15 0x0A) 30 0x01)) ≡ Refused 10 1 2)
    -- so in version 1, in both readings
    ∷ (read1 (set (version1 []) 14 0x0A) ≡ Refused 5 0 8)
    ∷ (read3 (set (version1 []) 14 0x0A) ≡ Refused 5 0 8)
    -- the other bytes at the ends of the sets, in P8 and in F3
    ∷ (read3 (header_with 18 0x1F) ≡ Refused 5 0 8)
    ∷ (read3 (header_with 18 0x7E) ≡ Accepted 0 0 0 33)
    ∷ (read3 (header_with 18 0x7F) ≡ Refused 5 0 8)
    ∷ (read3 (header_with 18 0x0C) ≡ Refused 5 0 8)
    ∷ (read3 (header_with 18 0x0D) ≡ Refused 5 0 8)
    ∷ (read3 (body_with (free_text 33) 40 0x1F) ≡ Refused 10 1 3)
    ∷ (read3 (body_with (free_text 33) 40 0x7E) ≡ Accepted 1 0 0 126)
    ∷ (read3 (body_with (free_text 33) 40 0x7F) ≡ Refused 10 1 3)
    ∷ (read3 (body_with (free_text 33) 40 0x0C) ≡ Accepted 1 0 0 126)
    ∷ (read3 (body_with (free_text 33) 40 0x0D) ≡ Accepted 1 0 0 126)
    ∷ (read3 (body_with (free_text 33) 40 0x0B) ≡ Refused 10 1 3)
    -- "A sheet with a line feed in a name can no longer be written": on the sheets P8 begins at 15, J3 at 39, F3 at 60
    ∷ (write (set (sheet (as_edition 3) (version3 [])) 15 0x0A) (zeros 32) ≡ outcome (Refused 19 0 0) (zeros 32))
    ∷ ((write (set (sheet (as_edition 3) (version3 (job 94))) 39 0x0A) (zeros 105)).answer ≡ Refused 19 0 0)
    ∷ (write (set (sheet (as_edition 3) (version3 (free_text 33))) 60 0x0A) (zeros 90) ≡ outcome (Accepted 1 0 0 90) (body_with (free_text 33) 20 0x0A))
    ∷ []

-- "Type 3 of a version 3 packet is now read field by field" (request A4): rows 9, 21 and 22, the records, and the writer. On the sheet of a packet
-- with one HRR segment its record begins at 33, H2 stands at 39, H5 at 44, H7 at 48, and the first scatterer's record begins at 100
unfoldable pub profiles : List (Type 0)
profiles =
    -- the shortest, and three scatterers of one byte
    (length (version3 shortest_hrr) ≡ 71)
    ∷ (read3 (version3 shortest_hrr) ≡ Accepted 1 0 0 100)
    ∷ (length (version3 (magnitudes (7 ∷ 8 ∷ 9 ∷ []))) ≡ 76)
    ∷ (read3 (version3 (magnitudes (7 ∷ 8 ∷ 9 ∷ []))) ≡ Accepted 1 0 0 127)
    ∷ (take 67 (drop 33 (sheet (as_edition 3) (version3 (magnitudes (7 ∷ 8 ∷ 9 ∷ [])))))
    ≡ 11 ∷ (bytes 5 0xEA_FBC7_8200 ++ zeros 7 ++ bytes 2 3 ++ zeros 36 ++ 1 ∷ 0 ∷ zeros 14))
    ∷ (drop 100 (sheet (as_edition 3) (version3 (magnitudes (7 ∷ 8 ∷ 9 ∷ [])))) ≡ scatterer 7 ++ scatterer 8 ++ scatterer 9)
    -- no room for the mask; a mask without fields; the magnitude is not announced, or a spare bit is set, and the size is wrong too: 21 comes before 22
    ∷ (read3 (version3 (segment 3 (zeros 4))) ≡ Refused 9 1 0)
    ∷ (read3 (version3 (mission 1 1 ++ segment 3 (zeros 5))) ≡ Refused 21 2 0)
    ∷ (read3 (version3 (hrr (mandatory_mask - magnitude_bit) [] 0 1 0 (0 ∷ []))) ≡ Refused 21 1 0)
    ∷ (read3 (version3 (hrr (mandatory_mask + spare_bit) [] 0 3 3 (0 ∷ []))) ≡ Refused 21 1 0)
    -- a free bit, of H27
    ∷ (read3 (version3 (hrr (mandatory_mask + h27_bit) [] 0 1 0 (5 ∷ []))) ≡ Accepted 1 0 0 100)
    -- H25 0; H26 3, with no phase; a byte too many
    ∷ (read3 (version3 (hrr mandatory_mask [] 0 0 0 [])) ≡ Refused 22 1 0)
    ∷ (read3 (version3 (hrr mandatory_mask [] 0 1 3 [])) ≡ Refused 22 1 0)
    ∷ (read3 (version3 (hrr mandatory_mask [] 0 1 0 (0 ∷ []))) ≡ Refused 22 1 0)
    -- H7 times H8 scatterers; none where H6 is 0; 2 to the 30 of 4 bytes each, whose bytes 32 bits would count as none
    ∷ (read3 (version3 (hrr (mandatory_mask + h7_bit) (bytes 2 2) 3 1 0 (zeros 6))) ≡ Accepted 1 0 0 154)
    ∷ (read3 (version3 (hrr (mandatory_mask + h6_bit + h7_bit) (bytes 2 0 ++ bytes 2 2) 3 1 0 [])) ≡ Accepted 1 0 0 100)
    ∷ (read3 (version3 (hrr (mandatory_mask + h7_bit + index_bits) (bytes 2 32768) 32768 2 0 [])) ≡ Refused 22 1 0)
    -- a phase that takes no byte; a phase and both indices of one byte
    ∷ (drop 100 (sheet (as_edition 3) (version3 (hrr (mandatory_mask + h6_bit + phase_bit) (bytes 2 1) 0 1 0 (7 ∷ [])))) ≡ scatterer 7)
    ∷ (drop 100 (sheet (as_edition 3) (version3 (hrr (mandatory_mask + h6_bit + phase_bit + index_bits) (bytes 2 1) 0 2 1 (1 ∷ 2 ∷ 3 ∷ 4 ∷ 5 ∷ []))))
    ≡ 12 ∷ 1 ∷ 2 ∷ 0 ∷ 3 ∷ 0 ∷ 4 ∷ 0 ∷ 5 ∷ [])
    -- it is no dwell; "An Edition 1 reading still names the segment", before its rows; "In a version 1 packet type 3 stays opaque"
    ∷ (read3 (version3 (numbered 1 2 ++ shortest_hrr)) ≡ Accepted 2 1 0 188)
    ∷ (read1 (version3 shortest_hrr) ≡ Refused 15 1 0)
    ∷ (read1 (version3 (hrr mandatory_mask [] 0 0 0 [])) ≡ Refused 15 1 0)
    ∷ (read1 (version1 shortest_hrr) ≡ Accepted 1 0 0 107)
    ∷ (read3 (version1 shortest_hrr) ≡ Accepted 1 0 0 107)
    -- the writer gives the packet back; a scatterer too few, one too many, and one where none is called for
    ∷ (write (sheet (as_edition 3) (version3 (magnitudes (7 ∷ 8 ∷ 9 ∷ [])))) (zeros 76)
    ≡ outcome (Accepted 1 0 0 76) (version3 (magnitudes (7 ∷ 8 ∷ 9 ∷ []))))
    ∷ ((write (take 118 (sheet (as_edition 3) (version3 (magnitudes (7 ∷ 8 ∷ 9 ∷ []))))) (zeros 76)).answer ≡ Refused 18 0 0)
    ∷ ((write (sheet (as_edition 3) (version3 (magnitudes (7 ∷ []))) ++ scatterer 8) (zeros 76)).answer ≡ Refused 18 0 0)
    ∷ ((write (sheet (as_edition 3) (version3 (mission 1 1)) ++ scatterer 7) (zeros 76)).answer ≡ Refused 18 0 0)
    -- a byte before a number that takes one, and one in H5, which is absent
    ∷ ((write (set (sheet (as_edition 3) (version3 (magnitudes (7 ∷ [])))) 101 1) (zeros 74)).answer ≡ Refused 19 0 0)
    ∷ ((write (set (sheet (as_edition 3) (version3 shortest_hrr)) 44 1) (zeros 71)).answer ≡ Refused 19 0 0)
    -- an absent H7 counts as zero, though 1 stands there and in H8: no scatterer is called for
    ∷ ((write (set (sheet (as_edition 3) (version3 (hrr mandatory_mask [] 1 1 0 []))) 49 1 ++ scatterer 7) (zeros 72)).answer ≡ Refused 18 0 0)
    -- the records of the one version under a header of the other
    ∷ ((write (set (sheet (as_edition 3) (version3 shortest_hrr)) 1 0x31) (zeros 71)).answer ≡ Refused 19 0 0)
    ∷ ((write (set (sheet (as_edition 3) (version1 shortest_hrr)) 1 0x33) (zeros 71)).answer ≡ Refused 19 0 0)
    ∷ []
