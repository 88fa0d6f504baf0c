-- Packets for the trials, built from what tells them apart. The packet of request A2 is built of the same parts (crate gmti_longest).
-- Assumes nothing.
use Rattle.std.specs.Prelude.{ℕ, ◌+◌, List, [], ◌∷◌, ◌++◌, length, replicate, set}
use Rattle.octets.specs.Octets.{bytes}
use Rattle.format.specs.Packet.{segment_bytes}

-- so many bytes 0
abbrev pub zeros : ℕ → List ℕ
zeros n = replicate n 0

-- so many spaces, which are text
abbrev pub spaces : ℕ → List ℕ
spaces n = replicate n 0x20

-- a packet of the version 1 or 3, given as its character: text spaces, P2 right, all else in the header zero
unfoldable pub packet : ℕ → List ℕ → List ℕ
packet character segments =
    (character ∷ 0x30 ∷ [])
    ++ bytes 4 (32 + length segments)
    ++ spaces 2
    ++ zeros 1
    ++ spaces 2
    ++ zeros 3
    ++ spaces 10
    ++ zeros 8
    ++ segments

-- a version 1 packet
abbrev pub version1 : List ℕ → List ℕ
version1 segments = packet 0x31 segments

-- a version 3 packet
abbrev pub version3 : List ℕ → List ℕ
version3 segments = packet 0x33 segments

-- a segment with its size
abbrev pub segment : ℕ → List ℕ → List ℕ
segment type body = segment_bytes (record { type = type; body = body })

-- a dwell with the mask, and what follows it
abbrev pub dwell : ℕ → List ℕ → List ℕ
dwell mask fields = segment 2 (bytes 8 mask ++ fields)

-- D2 to D9 with D5, all else zero
abbrev pub d2to9 : ℕ → List ℕ
d2to9 d5 = zeros 5 ++ bytes 2 d5 ++ zeros 16

-- D24 to D27 with D24 and D27, all else zero
abbrev pub d24to27 : ℕ → ℕ → List ℕ
d24to27 d24 d27 = bytes 4 d24 ++ zeros 6 ++ bytes 2 d27

-- a dwell without targets, of the required fields and, after them, so many zeros
abbrev pub empty : ℕ → ℕ → List ℕ
empty mask more = dwell mask (d2to9 0 ++ d24to27 0 0x1234 ++ zeros more)

-- a dwell without targets that announces the required fields alone, with this D2 and this D3; all others are zero
abbrev pub numbered : ℕ → ℕ → List ℕ
numbered d2 d3 = dwell 0xFF00_03C0_0000_0000 (bytes 2 d2 ++ bytes 2 d3 ++ zeros 19 ++ d24to27 0 0)

-- D2 to D11, D24 to D27, D32.4 and D32.5
abbrev pub delta_mask : ℕ
delta_mask = 0xFFC0_03C0_6000_0000

-- the 92-byte packet of document 01: "one dwell with mask FF C0 03 C0 60 00 00 00, D24 and D25 0, D10 and D11 65536, one target −128, −64"
unfoldable pub printed : List ℕ
printed =
    version3 (dwell delta_mask
    (d2to9 1 ++ bytes 4 65536 ++ bytes 4 65536 ++ d24to27 0 0 ++ (0xFF ∷ 0x80 ∷ 0xFF ∷ 0xC0 ∷ [])))

-- "D24 0x7FFFFFFF, D10 1", and a target with this D32.4
unfoldable pub northmost : ℕ → List ℕ
northmost delta = version3 (dwell delta_mask (d2to9 1 ++ bytes 4 1 ++ bytes 4 0 ++ d24to27 0x7FFFFFFF 0 ++ bytes 2 delta ++ zeros 2))

-- a job definition with this J14, and J26 0x56
abbrev pub job : ℕ → List ℕ
job j14 = segment 5 (zeros 5 ++ spaces 6 ++ zeros 34 ++ bytes 1 j14 ++ zeros 19 ++ bytes 1 0x56 ++ zeros 2)

-- a mission with M6 and M7
abbrev pub mission : ℕ → ℕ → List ℕ
mission m6 m7 = segment 1 (spaces 24 ++ zeros 1 ++ spaces 10 ++ zeros 2 ++ m6 ∷ m7 ∷ [])

-- a free text with so many spaces in F3
abbrev pub free_text : ℕ → List ℕ
free_text n = segment 6 (spaces 20 ++ spaces n)

-- a packet without segments in which one byte is replaced, counted from 0 at the packet's begin
abbrev pub header_with : ℕ → ℕ → List ℕ
header_with i c = set (version3 []) i c

-- a packet of one segment in which one byte of the body is replaced, counted from 0 at the body's begin
abbrev pub body_with : List ℕ → ℕ → ℕ → List ℕ
body_with s i c = version3 (set s (5 + i) c)

-- the mask of an HRR segment with the mandatory fields and the magnitude alone
abbrev pub mandatory_mask : ℕ
mandatory_mask = 0xE2_FBC7_8200

-- bits of such a mask: the magnitude, H6, H7, H27, the phase, both indices, and the lowest of those that announce nothing
abbrev pub magnitude_bit : ℕ
magnitude_bit = 0x200

abbrev pub h6_bit : ℕ
h6_bit = 0x08_0000_0000

abbrev pub h7_bit : ℕ
h7_bit = 0x04_0000_0000

abbrev pub h27_bit : ℕ
h27_bit = 0x4000

abbrev pub phase_bit : ℕ
phase_bit = 0x100

abbrev pub index_bits : ℕ
index_bits = 0xC0

abbrev pub spare_bit : ℕ
spare_bit = 0x01

-- an HRR segment with this mask: H6 and H7 as far as they are announced, H8, H25, H26, and the bytes behind H26: scatterers,
-- or what a trial puts in their place; all else is zero
abbrev pub hrr : ℕ → List ℕ → ℕ → ℕ → ℕ → List ℕ → List ℕ
hrr mask h6to7 h8 h25 h26 scatterers = segment 3 (bytes 5 mask ++ zeros 5 ++ h6to7 ++ bytes 2 h8 ++ zeros 20 ++ h25 ∷ h26 ∷ scatterers)

-- one without scatterers that announces the mandatory fields alone: the shortest
abbrev pub shortest_hrr : List ℕ
shortest_hrr = hrr mandatory_mask [] 0 1 0 []

-- one with H6 and so many scatterers, of which these are the magnitudes
abbrev pub magnitudes : List ℕ → List ℕ
magnitudes ms = hrr (mandatory_mask + h6_bit) (bytes 2 (length ms)) 0 1 0 ms

-- the record of a scatterer with this magnitude of one byte, and nothing else
abbrev pub scatterer : ℕ → List ℕ
scatterer magnitude = 12 ∷ 0 ∷ magnitude ∷ zeros 6
