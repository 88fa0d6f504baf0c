-- Every trial holds: each is computed.
-- Assumes nothing.
use mathlib.Core.Path.{refl}
use mathlib.Core.List.{List, [], ◌∷◌, ◌++◌}
use Rattle.octets.specs.Holds.{Holds}
use Rattle.position.specs.Trials.{marked as positions}
use Rattle.position.proofs.Trials.{all-marked as all-positions}
use Rattle.octets.specs.Octets.{be, bytes, twos, signed, signed_bytes}
use Rattle.octets.specs.Layout.{pad, over, total, field, value, signed_value, replaced}
use Rattle.distinct.specs.Distinct.{is_among, without_repeats}
use Rattle.text.specs.Text.{is_line_byte, is_text_byte, all, text_fault}
use Rattle.mask.specs.Fields.{announced, announced_length, full_fields, announced_fields, dwell_size}
use Rattle.mask.specs.Mask.{is_required, is_reserved, is_in, any_set, is_gap, is_gap_in, is_doubled, is_fault, first_from, lowest_fault, new_in_mask, is_placed}
use Rattle.hrr.specs.Hrr.{hrr_mask, all_set, is_hrr_mask, hrr_fields, scatterer_count, scatterer_widths, widened, narrowed, hrr_size, is_hrr_size}
use Rattle.position.specs.Position.{is_latitude, reduced, longitude_sum, nearest, rounded, latitude_micro, full_circle, longitude_micro}
use Rattle.format.specs.Packet.{is_p1, version, type_at, size_at, body_at, segment_bytes, is_known}
use Rattle.format.specs.Dwell.{mask_of, dwell_fields, target_count, targets_of, target_fields, is_same_pair, area_of, latitude, longitude}
use Rattle.format.specs.Edition.{is_older, is_hrr, shown, mark, is_new_mode}
use Rattle.format.specs.Sheet.{body_length, record_of, header_record, dwell_record, target_record, target_records, piece_record, piece_records, piece_count, dwell_records, hrr_record, scatterer_record, scatterer_records, hrr_records, text_records, opaque_records, job_records, segment_records, packet_records, record_bytes}
use Rattle.format.specs.Answer.{numbers_of, left_by}
use Rattle.format.specs.Rows.{first_row, header_rows, mission_rows, target_rows, targets_rows, dwell_rows, hrr_rows, job_rows, text_rows, kept_rows, body_rows, segment_rows}
use Rattle.format.specs.Reader.{parse, pairs_in, dwells_in, targets_in, parsed, sheet, reading_answer, read}
use Rattle.format.specs.Bound.{sheet_bound}
use Rattle.format.specs.Writer.{list, no_header, is_headed, called_for, is_complete, type_of, given, given_behind, regroup, segments_bytes, spell_records, spell, is_same, reads_back, sheet_rows, writer_rows, writing_answer, write}
use Rattle.format.specs.Samples.{packet, printed, northmost}
use Rattle.format.specs.Trials.{packets, marked, printed_results, editions, writing, split_dwells, bounds, texts, profiles}

pub all-computed : Holds packets × Holds printed_results × Holds editions × Holds writing × Holds split_dwells × Holds bounds × Holds texts × Holds profiles
unfolding packets printed_results editions writing split_dwells bounds texts profiles sheet_bound be bytes twos signed signed_bytes pad over total field value signed_value replaced is_text_byte is_line_byte all text_fault is_among without_repeats announced announced_length full_fields announced_fields dwell_size is_required is_reserved is_in any_set is_gap is_gap_in is_doubled is_fault first_from lowest_fault new_in_mask is_placed hrr_mask all_set is_hrr_mask hrr_fields scatterer_count scatterer_widths widened narrowed hrr_size is_hrr_size is_latitude reduced longitude_sum nearest rounded latitude_micro full_circle longitude_micro is_p1 version type_at size_at body_at segment_bytes is_known mask_of dwell_fields target_count targets_of target_fields is_same_pair area_of latitude longitude is_older is_hrr shown mark is_new_mode body_length record_of header_record dwell_record target_record target_records piece_record piece_records piece_count dwell_records hrr_record scatterer_record scatterer_records hrr_records text_records opaque_records job_records segment_records packet_records record_bytes numbers_of left_by first_row header_rows mission_rows target_rows targets_rows dwell_rows hrr_rows job_rows text_rows kept_rows body_rows segment_rows parse pairs_in dwells_in targets_in parsed sheet reading_answer read list no_header is_headed called_for is_complete type_of given given_behind regroup segments_bytes spell_records spell is_same reads_back sheet_rows writer_rows writing_answer write packet printed northmost
all-computed = (
  (refl, (refl, (refl, (refl, (refl, tt))))),
  (refl, (refl, (refl, (refl, (refl, (refl, (refl, (refl, (refl, (refl, tt)))))))))),
  (refl, (refl, (refl, (refl, (refl, (refl, (refl, (refl, (refl, (refl, (refl, (refl, (refl, (refl, (refl, (refl, (refl, (refl, (refl, (refl, (refl, (refl, (refl, tt))))))))))))))))))))))),
  (refl, (refl, (refl, (refl, (refl, (refl, (refl, (refl, (refl, (refl, tt)))))))))),
  (refl, (refl, (refl, (refl, (refl, (refl, (refl, (refl, (refl, tt))))))))),
  (refl, (refl, (refl, (refl, (refl, (refl, (refl, (refl, tt)))))))),
  (refl, (refl, (refl, (refl, (refl, (refl, (refl, (refl, (refl, (refl, (refl, (refl, (refl, (refl, (refl, (refl, (refl, (refl, (refl, (refl, (refl, (refl, (refl, (refl, (refl, (refl, (refl, (refl, (refl, (refl, (refl, (refl, (refl, (refl, (refl, (refl, (refl, tt))))))))))))))))))))))))))))))))))))),
  (refl, (refl, (refl, (refl, (refl, (refl, (refl, (refl, (refl, (refl, (refl, (refl, (refl, (refl, (refl, (refl, (refl, (refl, (refl, (refl, (refl, (refl, (refl, (refl, (refl, (refl, (refl, (refl, (refl, (refl, (refl, (refl, (refl, tt))))))))))))))))))))))))))))))))),
)

both : (ts us : List (Type 0)) → Holds ts → Holds us → Holds (ts ++ us)
both [] us p q = q
both (t ∷ ts) us p q = (p.0, both ts us p.1 q)

-- the trials that document 01 marks P, jointly
pub all-marked : Holds marked
unfolding marked
all-marked = both positions packets all-positions all-computed.0
