-- For a computed test: `unfolding computed` opens every definition of this library, and the operations on floats.
-- No definition names another on an `unfolding` line of its own, so that a proof can open one and leave the others shut.
use mathlib.Core.List.{flat_map, zip_with}
use lib.Ieee.{add, sub, mul, div, neg, lt, le, eq, ne, of_int, of_bits, to_bits}
use Rattle.float_error.specs.Fraction.{value_of}
use Rattle.spec.specs.Outcome.{and_then, first_failing}
use Rattle.spec.specs.Lists.{all, any, every, is_empty, find_idx, get_map_or, modify, scan}
use Rattle.spec.specs.Bytes.{be, bytes, signed, float, float_bytes, rows, sizes, all_records}
use Rattle.spec.specs.Single.{is_zero_bits}
use Rattle.spec.specs.Decode.{font_of, glyph_of, shift_of, span_of, shift_count, glyph_count_at, glyph_count, span_size, span_fits, parts_of, text_size, span_count_at, span_count, span_bytes, chunk_size, chunk_fits, chunk_of, list_size, list_fits, list_of, font_count, dx_at, dy_at, rotate_at, chunk_count_at, chunk_count, chunk_bytes, shaped, job_of}
use Rattle.spec.specs.Utf8.{lead, next, is_boundary, is_utf8, characters, starts_at, code_point_at, code_point}
use Rattle.spec.specs.Check.{length_ok, version_ok, float_ok, flagged_ok, size_ok, font_ok, glyph_ok, shift_ok, span_ok, parts_ok, chunk_ok, values_ok, text_ok, ordered, spans_ok, checks, checked}
use Rattle.spec.specs.Merge.{removed, inserted, replace_longer, replace, insert_next, replace_first, merge_glyph, merge_done, merge_span, merge_glyphs}
use Rattle.spec.specs.Group.{join_run, glyph_runs, covered_runs, groups}
use Rattle.spec.specs.Script.{unspaced, script_supports_letter_spacing, word_separators, is_word_separator_at}
use Rattle.spec.specs.Script.Tag.{letters, tag}
use Rattle.spec.specs.Arithmetic.{sum_advance, max_advance}
use Rattle.spec.specs.LetterSpacing.{collapse_if_empty, letter_spaced, next_letter_spaced, apply_letter_spacing}
use Rattle.spec.specs.WordSpacing.{word_spaced, apply_word_spacing}
use Rattle.spec.specs.LengthAdjust.{places_from, spacing_factor, adjust_spacing_of, scaled_by, adjust_glyphs_of, adjust_span, apply_length_adjust}
use Rattle.spec.specs.Position.{entries, insert, logical_order, first_place, last_place, shift_next, resolve_relative_shifts, rotate_shift, rotate_shifts, extent_next, process_anchor, placed_from, positioned, marked_by, marked, mark_relative_shifts}
use Rattle.spec.specs.Cluster.{form_glyph_clusters}
use Rattle.spec.specs.WritingMode.{vertical_metrics, apply_writing_mode}
use Rattle.spec.specs.Looked.{highest, bytes_looked, span_looked, spans_looked}
use Rattle.spec.specs.Baseline.{baseline_shift_of, add_baseline_shift, resolve_baseline_shift, dominant_baselines, alignment_baselines, alignment_baseline_shift, alignment_of, span_alignment, resolve_baseline}
use Rattle.spec.specs.Decoration.{extend_run, collect_next, collect_decoration_spans, under_offset, over_offset, through_offset, thickness_of}
use Rattle.spec.specs.Answer.{glyph_row_bytes, cluster_row_bytes, run_bytes, span_row_bytes, chunk_row_bytes, answer_body, answer_bytes, chunk_row_length, glyph_row_of, cluster_row_of, cluster_row_size_of, run_of, span_row_of, span_row_size_of, span_part, chunk_row_of, chunk_row_size_of, read_answer}
use Rattle.spec.specs.Layout.{letter_spaced_clusters, adjusted_clusters, resolve_clusters_positions_horizontal, glyph_rows, cluster_row, span_row, span_rows, pen_after, place_chunk, layout_chunk, layout_job, layout_rows, fitting, layout_of}
use Rattle.spec.specs.Transform.{span_steps, steps_of, path_steps, glyph_steps}
use Rattle.spec.specs.TextForm.{ascii, digits, hexadecimal, line, indexed, cluster_line, run_line, span_lines, chunk_lines, text_form, platelist}
use Rattle.spec.specs.Exact.{exact_cluster, formed_exactly, adjust_span_exactly, layout_exactly, glyph_total, cluster_sizes, size_total, allowed, NearChunk, NearChunks, NearAnswer}

unfoldable pub computed : Unit {0}
unfolding flat_map zip_with and_then first_failing all any every is_empty find_idx get_map_or modify scan be bytes signed float float_bytes rows sizes all_records is_zero_bits font_of glyph_of shift_of span_of shift_count glyph_count_at glyph_count span_size span_fits parts_of text_size span_count_at span_count span_bytes chunk_size chunk_fits chunk_of list_size list_fits list_of font_count dx_at dy_at rotate_at chunk_count_at chunk_count chunk_bytes shaped job_of lead next is_boundary is_utf8 characters starts_at code_point_at code_point length_ok version_ok float_ok flagged_ok size_ok font_ok glyph_ok shift_ok span_ok parts_ok chunk_ok values_ok text_ok ordered spans_ok checks checked removed inserted replace_longer replace insert_next replace_first merge_glyph merge_done merge_span merge_glyphs join_run glyph_runs covered_runs groups unspaced script_supports_letter_spacing word_separators is_word_separator_at letters tag sum_advance max_advance collapse_if_empty letter_spaced next_letter_spaced apply_letter_spacing word_spaced apply_word_spacing places_from spacing_factor adjust_spacing_of entries insert logical_order first_place last_place shift_next resolve_relative_shifts rotate_shift rotate_shifts extent_next process_anchor placed_from positioned form_glyph_clusters vertical_metrics apply_writing_mode scaled_by adjust_glyphs_of adjust_span apply_length_adjust marked_by marked mark_relative_shifts highest bytes_looked span_looked spans_looked baseline_shift_of add_baseline_shift resolve_baseline_shift dominant_baselines alignment_baselines alignment_baseline_shift alignment_of span_alignment resolve_baseline extend_run collect_next collect_decoration_spans under_offset over_offset through_offset thickness_of glyph_row_bytes cluster_row_bytes run_bytes span_row_bytes chunk_row_bytes answer_body answer_bytes chunk_row_length glyph_row_of cluster_row_of cluster_row_size_of run_of span_row_of span_row_size_of span_part chunk_row_of chunk_row_size_of read_answer letter_spaced_clusters adjusted_clusters resolve_clusters_positions_horizontal glyph_rows cluster_row span_row span_rows pen_after place_chunk layout_chunk layout_job layout_rows fitting layout_of span_steps steps_of path_steps glyph_steps ascii digits hexadecimal line indexed cluster_line run_line span_lines chunk_lines text_form platelist exact_cluster formed_exactly adjust_span_exactly layout_exactly glyph_total cluster_sizes size_total allowed NearChunk NearChunks NearAnswer value_of add sub mul div neg lt le eq ne of_int of_bits to_bits
computed = tt
