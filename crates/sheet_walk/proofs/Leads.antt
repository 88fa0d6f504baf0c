-- What a record says that begins a segment, by its kind.
-- Assumes nothing.
use Prim.Native.Nat.{ℕ, ◌+◌, ◌≤◌, zero-le}
use mathlib.Core.Path.{◌≡◌, refl, ◌∙◌}
use mathlib.Core.Bool.{Bool, true, false}
use mathlib.Core.List.{List}
use native.Mathlib.Omega.{arith}
use borrow.Author.Tests.{ltb-true, ltb-false, ne_eqb}
use lib.Dec.{ltb, leb, leb→le}
use lib.ListN.{get_or-eq_default, length, get_or, take, drop, length-append, length-drop}
use lib.Seq.{drop-drop, length-take-le}
use Rattle.octets.specs.Octets.{be}
use Rattle.octets.specs.Layout.{total, value}
use Rattle.mask.specs.Fields.{announced_length, announced_fields, dwell_widths}
use Rattle.octets.proofs.Computed.{from_all}
use Rattle.mask.proofs.FullWidth.{length-announced}
use Rattle.format.specs.Dwell.{target_length}
use Rattle.format.specs.Sheet.{body_lengths, body_length}
use Rattle.format.specs.Writer.{called_for, type_of, given}
use Rattle.hrr.specs.Hrr.{hrr_mask, hrr_widths}
use Rattle.hrr.specs.declared.Scatterers.{Scatterers}
use Rattle.hrr.specs.InnerScatterers.{widths_of}
use Rattle.sheet_walk.specs.InnerShape.{scatterers_behind, each_takes, lead_of}

-- the longest body is a dwell's: computed for every kind
pub body-bound : (kind : ℕ) → body_length kind ≤ 87
unfolding body_length
body-bound kind = go (ltb kind 13) refl
  where
    go : (b : Bool) → ltb kind 13 ≡ b → body_length kind ≤ 87
    go true h = leb→le _ _ (from_all (λ n. leb (body_length n) 87) 13 0 tt kind zero-le (ltb-true _ _ h))
    go false h = omega (arith, get_or-eq_default body_lengths 0 {n = kind} (ltb-false _ _ h))

-- a dwell's
module _ (b : List ℕ) (size : length b ≡ body_length 3) where
  -- it gives the mask and the announced fields
  pub dwell-given : length (given (record { kind = 3; body = b })) ≡ 8 + announced_length (be 8 b) 2 dwell_widths
  unfolding given body_length total
  dwell-given =
      let n : 78 ≤ length (drop 8 b) = omega (arith, length-drop 8 b) in
      length-append (take 8 b) (announced_fields (be 8 b) 2 dwell_widths (drop 8 b))
      ∙ omega (arith, length-take-le 8 b (omega arith), length-announced (be 8 b) 2 dwell_widths (drop 8 b) n)

  pub dwell-lead : (m d t u : ℕ) → m ≡ be 8 b → d ≡ announced_length m 2 dwell_widths → t ≡ be 2 (drop 13 b) → u ≡ target_length m
      → record { segment_type = 2; given = 8 + d; follower = 4; left = t; each = u } ≡ lead_of (record { kind = 3; body = b })
  unfolding lead_of type_of called_for each_takes value total
  dwell-lead m d t u p q v w = rw (w, q, p, v, dwell-given, drop-drop 5 8 b)

-- an HRR segment's
module _ (b : List ℕ) (size : length b ≡ body_length 11) where
  -- it gives the mask and the announced fields
  pub hrr-given : length (given (record { kind = 11; body = b })) ≡ 5 + announced_length (hrr_mask b) 2 hrr_widths
  unfolding given body_length total
  hrr-given =
      let n : 61 ≤ length (drop 5 b) = omega (arith, length-drop 5 b) in
      length-append (take 5 b) (announced_fields (hrr_mask b) 2 hrr_widths (drop 5 b))
      ∙ omega (arith, length-take-le 5 b (omega arith), length-announced (hrr_mask b) 2 hrr_widths (drop 5 b) n)

  pub hrr-lead : (d u : ℕ) (s : Scatterers) → d ≡ announced_length (hrr_mask b) 2 hrr_widths → s ≡ scatterers_behind b → u ≡ total (widths_of s)
      → record { segment_type = 3; given = 5 + d; follower = 12; left = s.count; each = u } ≡ lead_of (record { kind = 11; body = b })
  unfolding lead_of type_of called_for each_takes
  hrr-lead d u s q p w = rw (w, q, p, hrr-given)

module _ (b : List ℕ) where
  -- a text's, without the length of F3
  pub text-lead : length b ≡ body_length 5 → (n : ℕ) → n ≡ be 4 (drop 20 b) → record { segment_type = 6; given = 20; follower = 6; left = n; each = 1 } ≡ lead_of (record { kind = 5; body = b })
  unfolding lead_of type_of given called_for each_takes body_length
  text-lead size n e = rw (e, length-take-le 20 b (omega arith))

  -- a job's, without the mark
  pub job-lead : length b ≡ body_length 8 → record { segment_type = 5; given = 68; follower = 0; left = 0; each = 1 } ≡ lead_of (record { kind = 8; body = b })
  unfolding lead_of type_of given called_for each_takes body_length
  job-lead size = rw (length-take-le 68 b (omega arith))

  -- one whose kind says no type
  pub other-lead : (kind : ℕ) → (kind ≡ 2 → ⊥) → (kind ≡ 3 → ⊥) → (kind ≡ 5 → ⊥) → (kind ≡ 7 → ⊥) → (kind ≡ 8 → ⊥) → (kind ≡ 9 → ⊥) → (kind ≡ 10 → ⊥) → (kind ≡ 11 → ⊥)
      → record { segment_type = get_or b 0 0; given = length b; follower = 0; left = 0; each = 1 } ≡ lead_of (record { kind = kind; body = b })
  unfolding lead_of type_of given called_for each_takes
  other-lead kind h2 h3 h5 h7 h8 h9 h10 h11 =
      rw (ne_eqb kind 2 h2, ne_eqb kind 3 h3, ne_eqb kind 5 h5, ne_eqb kind 7 h7, ne_eqb kind 8 h8, ne_eqb kind 9 h9, ne_eqb kind 10 h10, ne_eqb kind 11 h11)
