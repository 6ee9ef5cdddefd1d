-- The row that a chunk is placed as is no longer than the longest of its counts: its clusters share the merged glyphs, and no two of its spans cover
-- one byte. Assumes nothing.
use Prim.Native.Nat.{ℕ, ◌≤◌}
use mathlib.Core.Path.{◌≡◌, refl, sym, ap, ◌∙◌}
use mathlib.Core.List.{List}
use native.Mathlib.Nat.{le_refl}
use native.Mathlib.Omega.{arith}
use lib.ListN.{length, drop, length-map}
use Rattle.spec.specs.declared.Cluster.{Cluster}
use Rattle.spec.specs.Outcome.{given}
use Rattle.spec.specs.Decode.{parts_of, glyph_of}
use Rattle.spec.specs.Layout.{adjusted_clusters}
use Rattle.spec_laws.proofs.IfGiven.{of-given}
use Rattle.spec_laws.proofs.GlyphsShared.{Shared, adjusted-share}
use Rattle.spec_laws.proofs.RowSize.{placed-sized}
use Rattle.job_rows.specs.Rows.{glyphs_at, parts_in}
use Rattle.answer_rows.specs.Chunks.{chunk_row_max}
use Rattle.answer_rows.proofs.RowMost.{placed-most}
use Rattle.chunk.specs.declared.progress.NextChunk.{NextChunk}
use Rattle.chunk.specs.Checked.{MergedChunk}
use Rattle.chunk.specs.Steps.{chunk_in, job_in, progress_of, written_bytes}
use Rattle.chunk.proofs.Placed.{chunk_placed}

pub placed-short : {s : List ℕ} {next : NextChunk} {spans merged : List ℕ} → MergedChunk s next spans merged
    → (cs : List Cluster) → adjusted_clusters (job_in s next) (chunk_in s next) (glyphs_at s merged) ≡ given cs
    → length (written_bytes (chunk_placed s next merged cs)) ≤ chunk_row_max (length spans) (length merged) (length cs)
unfolding written_bytes parts_in glyphs_at
placed-short {s} {next} {spans} {merged} m cs e =
    let gs = glyphs_at s merged in
    let shared = of-given (Shared (length gs) (length gs)) _ cs (adjusted-share (job_in s next) (chunk_in s next) gs) e in
    let sized = placed-sized (job_in s next) (progress_of next.before) (chunk_in s next) gs cs m.spanned.checked.spans (record { glyphs = shared.glyphs; few = le_refl (length cs) }) in
    let parts : length (chunk_in s next).parts ≡ length spans = ap length (sym m.spanned.parts) ∙ length-map spans (λ (a : ℕ). parts_of (drop a s)) in
    let glyphs : length gs ≡ length merged = length-map merged (λ (a : ℕ). glyph_of (drop a s)) in
    omega (arith, placed-most refl sized, glyphs)
