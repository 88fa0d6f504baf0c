-- Every trial holds: each is computed.
-- Assumes nothing.
use mathlib.Core.Path.{refl}
use Rattle.octets.specs.Holds.{Holds}
use Rattle.octets.specs.Octets.{be, bytes, twos, signed, signed_bytes}
use Rattle.octets.specs.Layout.{pad, over, total, field, value, signed_value, replaced}
use Rattle.distinct.specs.Distinct.{is_among, without_repeats}
use Rattle.text.specs.Text.{is_line_byte, is_text_byte, all, text_fault}
use Rattle.mask.specs.Fields.{announced, announced_length, full_fields, announced_fields, dwell_size}
use Rattle.mask.specs.Mask.{is_required, is_reserved, is_in, any_set, is_gap, is_gap_in, is_doubled, is_fault, first_from, lowest_fault, new_in_mask, is_placed}
use Rattle.position.specs.Position.{is_latitude, reduced, longitude_sum, nearest, rounded, latitude_micro, full_circle, longitude_micro}
use Rattle.format.specs.Packet.{is_p1, version, type_at, size_at, body_at, segment_bytes, is_known}
use Rattle.format.specs.Dwell.{mask_of, dwell_fields, target_count, targets_of, target_fields, is_same_pair, area_of, latitude, longitude}
use Rattle.format.specs.Edition.{is_older, shown, mark, is_new_mode}
use Rattle.format.specs.Sheet.{body_length, record_of, header_record, dwell_record, target_record, target_records, dwell_records, segment_records, packet_records, record_bytes}
use Rattle.format.specs.Rows.{first_row, header_rows, mission_rows, target_rows, targets_rows, dwell_rows, job_rows, text_rows, kept_rows, body_rows, segment_rows}
use Rattle.format.specs.Reader.{parse, pairs_in, dwells_in, targets_in, parsed, sheet, reading_answer}
use Rattle.format.specs.Writer.{list}
use Rattle.format.specs.Samples.{packet, printed as sample}
use Rattle.printing.specs.Printing.{digits, decimal, signed_decimal, spaced, answer_text, answer_line, target_line, record_line, target_lines, printed}
use Rattle.printing.specs.Trials.{numbers_printed, results_printed}

pub all-numbers : Holds numbers_printed
unfolding numbers_printed digits decimal signed_decimal
all-numbers = (refl, (refl, (refl, (refl, (refl, (refl, tt))))))

pub all_results : Holds results_printed
unfolding results_printed digits decimal signed_decimal spaced answer_text answer_line target_line record_line target_lines printed be bytes twos signed signed_bytes pad over total field value signed_value replaced is_text_byte is_line_byte all text_fault is_among without_repeats announced announced_length full_fields announced_fields dwell_size is_required is_reserved is_in any_set is_gap is_gap_in is_doubled is_fault first_from lowest_fault new_in_mask is_placed is_latitude reduced longitude_sum nearest rounded latitude_micro full_circle longitude_micro is_p1 version type_at size_at body_at segment_bytes is_known mask_of dwell_fields target_count targets_of target_fields is_same_pair area_of latitude longitude is_older shown mark is_new_mode body_length record_of header_record dwell_record target_record target_records dwell_records segment_records packet_records record_bytes first_row header_rows mission_rows target_rows targets_rows dwell_rows job_rows text_rows kept_rows body_rows segment_rows parse pairs_in dwells_in targets_in parsed sheet reading_answer list packet sample
all_results = (refl, (refl, tt))
