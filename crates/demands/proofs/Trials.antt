-- Every trial holds: each is computed.
-- Assumes nothing.
use mathlib.Core.Path.{refl}
use Rattle.octets.specs.Holds.{Holds}
use Rattle.octets.specs.Octets.{be, bytes, twos, signed, signed_bytes}
use Rattle.octets.specs.Layout.{pad, over, total, field, value, signed_value, replaced}
use Rattle.distinct.specs.Distinct.{is_among, without_repeats}
use Rattle.text.specs.Text.{is_line_byte, is_text_byte, all, text_fault}
use Rattle.mask.specs.Fields.{announced, announced_length, full_fields, announced_fields, dwell_size}
use Rattle.mask.specs.Mask.{is_required, is_reserved, is_in, any_set, is_gap, is_gap_in, is_doubled, is_fault, first_from, lowest_fault, new_in_mask, is_placed}
use Rattle.hrr.specs.Hrr.{hrr_mask, all_set, is_hrr_mask, hrr_fields, scatterer_count, scatterer_widths, widened, narrowed, hrr_size, is_hrr_size}
use Rattle.position.specs.Position.{is_latitude, reduced, longitude_sum, nearest, rounded, latitude_micro, full_circle, longitude_micro}
use Rattle.format.specs.Packet.{is_p1, version, type_at, size_at, body_at, segment_bytes, is_known}
use Rattle.format.specs.Dwell.{mask_of, dwell_fields, target_count, targets_of, target_fields, is_same_pair, area_of, latitude, longitude}
use Rattle.format.specs.Edition.{is_older, is_hrr, shown, mark, is_new_mode}
use Rattle.format.specs.Sheet.{body_length, record_of, header_record, dwell_record, target_record, target_records, piece_record, piece_records, piece_count, dwell_records, hrr_record, scatterer_record, scatterer_records, hrr_records, text_records, opaque_records, job_records, segment_records, packet_records, record_bytes}
use Rattle.format.specs.Answer.{numbers_of, left_by}
use Rattle.format.specs.Rows.{first_row, header_rows, mission_rows, target_rows, targets_rows, dwell_rows, hrr_rows, job_rows, text_rows, kept_rows, body_rows, segment_rows}
use Rattle.format.specs.New.{new_rows, first_new}
use Rattle.format.specs.Reader.{parse, pairs_in, dwells_in, targets_in, parsed, sheet, reading_answer, read}
use Rattle.format.specs.Writer.{list, no_header, is_headed, called_for, is_complete, type_of, given, given_behind, regroup, segments_bytes, spell_records, spell, is_same, reads_back, sheet_rows, writer_rows, writing_answer, write}
use Rattle.format.specs.Samples.{packet, printed, northmost}
use Rattle.demands.specs.Filled.{filled_record, filled_records, filled_in}
use Rattle.demands.specs.Places.{is_in_field, is_withheld_in, is_withheld_at}
use Rattle.demands.specs.Counts.{count, pairs_on}
use Rattle.demands.specs.Names.{names, names_are_lines}
use Rattle.demands.specs.Trials.{mixed, trials}

pub all-trials : Holds trials
unfolding trials mixed be bytes twos signed signed_bytes pad over total field value signed_value replaced is_text_byte is_line_byte all text_fault is_among without_repeats announced announced_length full_fields announced_fields dwell_size is_required is_reserved is_in any_set is_gap is_gap_in is_doubled is_fault first_from lowest_fault new_in_mask is_placed hrr_mask all_set is_hrr_mask hrr_fields scatterer_count scatterer_widths widened narrowed hrr_size is_hrr_size is_latitude reduced longitude_sum nearest rounded latitude_micro full_circle longitude_micro is_p1 version type_at size_at body_at segment_bytes is_known mask_of dwell_fields target_count targets_of target_fields is_same_pair area_of latitude longitude is_older is_hrr shown mark is_new_mode body_length record_of header_record dwell_record target_record target_records piece_record piece_records piece_count dwell_records hrr_record scatterer_record scatterer_records hrr_records text_records opaque_records job_records segment_records packet_records record_bytes numbers_of left_by first_row header_rows mission_rows target_rows targets_rows dwell_rows hrr_rows job_rows text_rows kept_rows body_rows segment_rows new_rows first_new parse pairs_in dwells_in targets_in parsed sheet reading_answer read list no_header is_headed called_for is_complete type_of given given_behind regroup segments_bytes spell_records spell is_same reads_back sheet_rows writer_rows writing_answer write packet printed northmost filled_record filled_records filled_in is_in_field is_withheld_in is_withheld_at count pairs_on names names_are_lines
all-trials = (refl, (refl, (refl, (refl, (refl, (refl, (refl, (refl, (refl, (refl, (refl, (refl, (refl, (refl, (refl, (refl, (refl, (refl, (refl, tt)))))))))))))))))))
