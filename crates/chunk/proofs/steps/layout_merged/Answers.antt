-- `chunk::steps::layout_merged` meets its contract: step by step, each from what the ones before it gave. Assumes nothing.
use Prim.Native.Nat.{ℕ, ◌≤◌}
use mathlib.Core.Path.{◌≡◌, refl, ap, ◌∙◌}
use mathlib.Core.List.{List}
use native.Mathlib.Omega.{arith}
use Rattle.std.proofs.Common.{Err, rules}
use lib.ListN.{length}
use lib.Ieee.{Float}
use Rattle.spec_laws.proofs.Unmoved.{adjusted-unmoved}
use Rattle.spec.specs.declared.Cluster.{Cluster}
use Rattle.spec.specs.declared.Point.{Point}
use Rattle.spec.specs.Outcome.{given}
use Rattle.spec.specs.Decode.{chunk_of}
use Rattle.spec.specs.Answer.{ChunkRow, chunk_row_bytes}
use Rattle.spec.specs.Layout.{adjusted_clusters}
use Rattle.job_rows.specs.Rows.{spans_in, glyphs_at}
use Rattle.text_order.proofs.Order.{sortable-still}
use Rattle.answer_rows.proofs.ChunkRows.{empty-length}
use Rattle.answer_rows.specs.Chunks.{chunk_row_max}
use Rattle.chunk.specs.declared.progress.NextChunk.{NextChunk}
use Rattle.chunk.specs.Steps.{job_in, chunk_in}
use Rattle.chunk.specs.Checked.{MergedChunk}
use Rattle.chunk.proofs.Checked.{few_bytes, widths-ok, units-ok}
use Rattle.chunk.proofs.Adjusted.{worded-length, worded-sortable, adjusted-whole, done-kept, done-given, told-refused}
use Rattle.chunk.proofs.Placed.{chunk_placed, OneRow, none_of, one-bytes, one-laid, refused-merged, empty-row, clusters-row}
use Rattle.chunk.proofs.RowLength.{placed-short}
use Rattle.chunk.proofs.steps.layout_merged.Goals as goal

-- ---- steps 2 to 6

pub form_clusters-n-requires : goal.form_clusters-n-requires
form_clusters-n-requires c =
    let m = c.args.chunk.merged in
    record { few_glyphs = m.few; few_spans = omega (arith, m.spanned.few); widths = widths-ok m; rows = c.requires.rows }

pub adjust_lengths-requires : goal.adjust_lengths-requires
adjust_lengths-requires c =
    let a = c.args.chunk in
    let m = a.merged in
    let text = c.text_of-text.ensures ∙ ap (λ (bs : List ℕ). (chunk_of bs).text) c.tail.ensures in
    let form = c.form_clusters-n.ensures in
    let many = worded-length a.glyphs.now m.spanned text form c.apply_writing_mode.ensures c.apply_letter_spacing.ensures c.apply_word_spacing.ensures in
    record {
      few = omega (arith, m.spanned.few);
      spared = omega (arith, many, form.count, c.requires.spared);
      sortable = worded-sortable a.glyphs.now m.spanned text form c.apply_writing_mode.ensures c.apply_letter_spacing.ensures c.apply_word_spacing.ensures
          (omega (arith, form.count, c.requires.ordered)) (omega (arith, form.few, m.few));
    }

pub returns-in_err-adjust_lengths : goal.returns-in_err-adjust_lengths
returns-in_err-adjust_lengths c =
    let a = c.args.chunk in
    let m = a.merged in
    let text = c.text_of-text.ensures ∙ ap (λ (bs : List ℕ). (chunk_of bs).text) c.tail.ensures in
    let told =
    adjusted-whole a.glyphs.now m.spanned text c.form_clusters-n.ensures c.apply_writing_mode.ensures c.apply_letter_spacing.ensures c.apply_word_spacing.ensures
    _ _ c.adjust_lengths.ensures in
    let same : c.from_residual.result ≡ Err c.in_err-adjust_lengths.field-0.0 = search rules in
    rw same (refused-merged a.s.now a.next a.glyphs.now (told-refused _ _ told c.in_err-adjust_lengths.was))

-- ---- a chunk that has no cluster

pub progress_behind-requires : goal.progress_behind-requires
progress_behind-requires c =
    let a = c.args.chunk in
    let m = a.merged in
    let text = c.text_of-text.ensures ∙ ap (λ (bs : List ℕ). (chunk_of bs).text) c.tail.ensures in
    let checked = m.spanned.checked in
    let short : length c.text_of-text.result.now ≤ 4096 = rw text (few_bytes checked) in
    let long = c.write_empty_row-row.ensures.length ∙ empty-length _ in
    (omega (arith, short, checked.offset), omega (arith, long, checked.bytes))

pub returns-then-n-eq0 : goal.returns-then-n-eq0
returns-then-n-eq0 c =
    let a = c.args.chunk in
    let m = a.merged in
    let text = c.text_of-text.ensures ∙ ap (λ (bs : List ℕ). (chunk_of bs).text) c.tail.ensures in
    let told =
    adjusted-whole a.glyphs.now m.spanned text c.form_clusters-n.ensures c.apply_writing_mode.ensures c.apply_letter_spacing.ensures c.apply_word_spacing.ensures
    _ _ c.adjust_lengths.ensures in
    let many = worded-length a.glyphs.now m.spanned text c.form_clusters-n.ensures c.apply_writing_mode.ensures c.apply_letter_spacing.ensures c.apply_word_spacing.ensures in
    let none = done-given _ _ told c.in_ok-adjust_lengths.was ∙ ap given (none_of _ (omega (arith, many, c.if-n-eq0.true, c.adjust_lengths.auto.clusters))) in
    one-laid a.s.now a.next a.glyphs.now (empty-row a.s.now a.next a.glyphs.now) none refl text c.write_empty_row-row.ensures c.progress_behind.ensures

-- ---- step 7

pub place_clusters-placed-requires : goal.place_clusters-placed-requires
place_clusters-placed-requires c =
    let a = c.args.chunk in
    let m = a.merged in
    let text = c.text_of-text.ensures ∙ ap (λ (bs : List ℕ). (chunk_of bs).text) c.tail.ensures in
    let told =
    adjusted-whole a.glyphs.now m.spanned text c.form_clusters-n.ensures c.apply_writing_mode.ensures c.apply_letter_spacing.ensures c.apply_word_spacing.ensures
    _ _ c.adjust_lengths.ensures in
    let form = c.form_clusters-n.ensures in
    let many = worded-length a.glyphs.now m.spanned text form c.apply_writing_mode.ensures c.apply_letter_spacing.ensures c.apply_word_spacing.ensures in
    let before =
    worded-sortable a.glyphs.now m.spanned text form c.apply_writing_mode.ensures c.apply_letter_spacing.ensures c.apply_word_spacing.ensures
    {order = c.args.order.now} (omega (arith, form.count, c.requires.ordered)) (omega (arith, form.few, m.few)) in
    let short : length c.text_of-text.result.now ≤ 4096 = rw text (few_bytes m.spanned.checked) in
    let same = c.adjust_lengths.auto.clusters in
    record {
      own = text;
      short = omega (arith, short, m.spanned.checked.offset);
      some = omega (arith, many, same, c.if-n-eq0.false);
      spared = omega (arith, many, same, form.count, c.requires.spared, c.adjust_lengths.auto.spare);
      sortable = sortable-still _ before c.adjust_lengths.auto.order (done-kept (spans_in a.s.now a.spans.now) _ _ c.in_ok-adjust_lengths.was c.adjust_lengths.ensures);
      unmoved = adjusted-unmoved _ _ _ _ (done-given _ _ told c.in_ok-adjust_lengths.was);
    }

-- ---- step 8: the row

-- it is no longer than the longest
row-short : {s : List ℕ} {next : NextChunk} {spans glyphs : List ℕ} → MergedChunk s next spans glyphs
    → (cs : List Cluster) → adjusted_clusters (job_in s next) (chunk_in s next) (glyphs_at s glyphs) ≡ given cs
    → {pen : Point} {extent : Float} (row : ChunkRow) → OneRow s next glyphs (chunk_placed s next glyphs cs) pen extent row
    → length (chunk_row_bytes row) ≤ chunk_row_max (length spans) (length glyphs) (length cs)
row-short {s} {next} {spans} {glyphs} m cs e row one = rw (← (one-bytes s next glyphs one)) (placed-short m cs e)

pub write_chunk_row-row-requires : goal.write_chunk_row-row-requires
write_chunk_row-row-requires c =
    let a = c.args.chunk in
    let m = a.merged in
    let text = c.text_of-text.ensures ∙ ap (λ (bs : List ℕ). (chunk_of bs).text) c.tail.ensures in
    let told =
    adjusted-whole a.glyphs.now m.spanned text c.form_clusters-n.ensures c.apply_writing_mode.ensures c.apply_letter_spacing.ensures c.apply_word_spacing.ensures
    _ _ c.adjust_lengths.ensures in
    let many = worded-length a.glyphs.now m.spanned text c.form_clusters-n.ensures c.apply_writing_mode.ensures c.apply_letter_spacing.ensures c.apply_word_spacing.ensures in
    let same = c.adjust_lengths.auto.clusters in
    let one =
    clusters-row a.s.now a.next a.glyphs.now m.spanned c.adjust_lengths.new.clusters _ (omega (arith, many, same, c.if-n-eq0.false)) c.place_clusters-placed.result
    c.place_clusters-placed.ensures c.origin_of-origin.result c.pen_after-pen.result c.origin_of-origin.ensures c.pen_after-pen.ensures in
    let short = row-short m _ (done-given _ _ told c.in_ok-adjust_lengths.was) _ one in
    let placed = c.place_clusters-placed.auto.clusters in (
      record {
        few_spans = omega (arith, m.spanned.few);
        few_glyphs = omega (arith, m.few);
        few_clusters = omega (arith, many, same, placed, c.form_clusters-n.ensures.few, m.few);
        units = units-ok m;
      },
      omega (arith, m.spanned.checked.bytes),
      rw placed short,
    )

pub progress_behind-requires-2 : goal.progress_behind-requires-2
progress_behind-requires-2 c =
    let a = c.args.chunk in
    let m = a.merged in
    let text = c.text_of-text.ensures ∙ ap (λ (bs : List ℕ). (chunk_of bs).text) c.tail.ensures in
    let told =
    adjusted-whole a.glyphs.now m.spanned text c.form_clusters-n.ensures c.apply_writing_mode.ensures c.apply_letter_spacing.ensures c.apply_word_spacing.ensures
    _ _ c.adjust_lengths.ensures in
    let many = worded-length a.glyphs.now m.spanned text c.form_clusters-n.ensures c.apply_writing_mode.ensures c.apply_letter_spacing.ensures c.apply_word_spacing.ensures in
    let same = c.adjust_lengths.auto.clusters in
    let one =
    clusters-row a.s.now a.next a.glyphs.now m.spanned c.adjust_lengths.new.clusters _ (omega (arith, many, same, c.if-n-eq0.false)) c.place_clusters-placed.result
    c.place_clusters-placed.ensures c.origin_of-origin.result c.pen_after-pen.result c.origin_of-origin.ensures c.pen_after-pen.ensures in
    let short = row-short m _ (done-given _ _ told c.in_ok-adjust_lengths.was) _ one in
    let text-short : length c.text_of-text.result.now ≤ 4096 = rw text (few_bytes m.spanned.checked) in (
      omega (arith, text-short, m.spanned.checked.offset),
      omega (arith, c.write_chunk_row-row.ensures.length, short, many, same, c.form_clusters-n.ensures.few, m.few, m.spanned.few, m.spanned.checked.bytes),
    )

pub returns : goal.returns
returns c =
    let a = c.args.chunk in
    let m = a.merged in
    let text = c.text_of-text.ensures ∙ ap (λ (bs : List ℕ). (chunk_of bs).text) c.tail.ensures in
    let told =
    adjusted-whole a.glyphs.now m.spanned text c.form_clusters-n.ensures c.apply_writing_mode.ensures c.apply_letter_spacing.ensures c.apply_word_spacing.ensures
    _ _ c.adjust_lengths.ensures in
    let many = worded-length a.glyphs.now m.spanned text c.form_clusters-n.ensures c.apply_writing_mode.ensures c.apply_letter_spacing.ensures c.apply_word_spacing.ensures in
    let same = c.adjust_lengths.auto.clusters in
    let one =
    clusters-row a.s.now a.next a.glyphs.now m.spanned c.adjust_lengths.new.clusters _ (omega (arith, many, same, c.if-n-eq0.false)) c.place_clusters-placed.result
    c.place_clusters-placed.ensures c.origin_of-origin.result c.pen_after-pen.result c.origin_of-origin.ensures c.pen_after-pen.ensures in
    one-laid a.s.now a.next a.glyphs.now one (done-given _ _ told c.in_ok-adjust_lengths.was) refl text c.write_chunk_row-row.ensures c.progress_behind-2.ensures
