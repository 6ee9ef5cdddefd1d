-- What the checks have shown of a chunk is what its steps ask for. Assumes nothing.
use Prim.Native.Nat.{ℕ, ◌≤◌}
use mathlib.Core.Path.{◌≡◌, refl, sym, ap, ◌∙◌}
use mathlib.Core.Bool.{Bool, true, false, ◌&&◌}
use mathlib.Core.List.{List, map, map-map}
use lib.ListN.{length, drop}
use lib.Dec.{T}
use Rattle.spec_laws.proofs.All.{all-weaken, all-every, all_true, first, rest}
use Rattle.spec.specs.Lists.{All}
use Rattle.spec_laws.proofs.Counted.{chunk-counted}
use Rattle.spec_laws.proofs.ChunkPassed.{PassedGlyph, merged-passed}
use Rattle.spec.specs.declared.Glyph.{Glyph}
use Rattle.spec.specs.Job.{Chunk, SpanParts, spans_of, limits}
use Rattle.spec.specs.Decode.{parts_of}
use Rattle.spec.specs.Check.{glyph_ok, units_ok}
use Rattle.spec.specs.Merge.{merge_glyphs}
use Rattle.job_rows.specs.Rows.{parts_in, spans_in, glyphs_at}
use Rattle.clustering.specs.Groups.{widths_ok}
use Rattle.answer_rows.specs.Glyphs.{units_in}
use Rattle.chunk.specs.declared.progress.NextChunk.{NextChunk}
use Rattle.chunk.specs.Checked.{CheckedChunk, SpannedChunk, MergedChunk}
use Rattle.chunk.specs.Steps.{chunk_in}

is_true : (b : Bool) → T b → b ≡ true
is_true true t = refl
is_true false t = absurd t

-- the spans at their places are the chunk's
pub spans-of : (s spans : List ℕ) (c : Chunk) → parts_in s spans ≡ c.parts → spans_in s spans ≡ spans_of c
unfolding spans_in parts_in parts_of
spans-of s spans c e = sym (map-map (λ (p : SpanParts). p.span) (λ (a : ℕ). parts_of (drop a s)) spans) ∙ ap (map (λ (p : SpanParts). p.span)) e

pub spans-are : {s : List ℕ} {next : NextChunk} {spans : List ℕ} → SpannedChunk s next spans → spans_in s spans ≡ spans_of (chunk_in s next)
spans-are {s} {next} {spans} p = spans-of s spans (chunk_in s next) p.parts

-- the text is short
pub few_bytes : {s : List ℕ} {next : NextChunk} → CheckedChunk s next → length (chunk_in s next).text ≤ limits.text
few_bytes {s} {next} k = (chunk-counted (drop next.at s) k.fits).text

module _ {s : List ℕ} {next : NextChunk} {spans merged : List ℕ} (m : MergedChunk s next spans merged) where
  abbrev fonts : ℕ
  fonts = next.job.fonts

  passed : All (PassedGlyph fonts) (glyphs_at s merged)
  passed =
      let k = m.spanned.checked in
      (merged-passed fonts (drop next.at s) k.fits k.ok (glyphs_at s merged) (ap merge_glyphs (sym m.spanned.parts) ∙ m.glyphs)).glyphs

  units_of : (g : Glyph) → PassedGlyph fonts g → (units_ok g.dx && (units_ok g.dy && units_ok g.width)) ≡ true
  unfolding glyph_ok
  units_of g t =
      let from-dx = rest (rest (all-every _ t)) in
      rw (is_true (units_ok g.dx) (first from-dx), is_true (units_ok g.dy) (first (rest from-dx)), is_true (units_ok g.width) (first (rest (rest from-dx)))) refl

  width_of : (g : Glyph) → PassedGlyph fonts g → units_ok g.width ≡ true
  unfolding glyph_ok
  width_of g t = is_true _ (first (rest (rest (rest (rest (all-every _ t))))))

  pub widths-ok : widths_ok (glyphs_at s merged) ≡ true
  widths-ok = all_true (λ (g : Glyph). units_ok g.width) (all-weaken width_of passed)

  pub units-ok : units_in (glyphs_at s merged) ≡ true
  units-ok = all_true (λ (g : Glyph). units_ok g.dx && (units_ok g.dy && units_ok g.width)) (all-weaken units_of passed)
