-- Steps 2 to 6 on the tables are the definitions', they keep the byte indexes, and what step 6 answers is what the chunk answers. Assumes nothing.
use Prim.Native.Nat.{ℕ, ◌≤◌}
use mathlib.Core.Path.{◌≡◌, refl, sym, ap, ◌∙◌}
use mathlib.Core.Bool.{Bool, false}
use mathlib.Core.List.{List, map}
use native.Mathlib.Omega.{arith}
use lib.ListN as list_n
use Rattle.spec_laws.proofs.All.{fold-skips}
use Rattle.spec.specs.Outcome.{Outcome, refused, given}
use Rattle.spec.specs.Lists.{any}
use Rattle.spec.specs.declared.Span.{Span}
use Rattle.spec.specs.declared.Cluster.{Cluster}
use Rattle.spec.specs.Job.{has_length}
use Rattle.spec.specs.Arithmetic.{indexes}
use Rattle.spec.specs.Group.{groups}
use Rattle.spec.specs.LetterSpacing.{apply_letter_spacing}
use Rattle.spec.specs.WordSpacing.{apply_word_spacing}
use Rattle.spec.specs.Cluster.{rounded, form_glyph_clusters}
use Rattle.spec.specs.WritingMode.{apply_writing_mode}
use Rattle.spec.specs.LengthAdjust.{adjust_span, apply_length_adjust}
use Rattle.spec.specs.Layout.{letter_spaced_clusters, adjusted_clusters}
use Rattle.job_rows.specs.Rows.{fonts_in, spans_in, glyphs_at}
use Rattle.spacing.proofs.Keeps.{writing-indexes, letter-indexes, word-indexes}
use Rattle.clustering.specs.Groups.{FormedInto}
use Rattle.text_order.specs.Ordered.{Sortable}
use Rattle.text_order.proofs.Keys.{indexes-length}
use Rattle.std.specs.Prelude.{Ok, Err}
use Rattle.std.specs.declared.result.Result.{Result}
use Rattle.spec.specs.declared.Refusal.{Refusal}
use Rattle.spec.specs.Refusal.{refusal_number}
use Rattle.length_adjust.specs.Answer.{adjusted_of}
use Rattle.length_adjust.proofs.Kept.{adjusted-order}
use Rattle.chunk.specs.declared.progress.NextChunk.{NextChunk}
use Rattle.chunk.specs.Checked.{SpannedChunk}
use Rattle.chunk.specs.Steps.{chunk_in, job_in}
use Rattle.chunk.proofs.Checked.{spans-are}

-- ---- the steps one after the other

module _ {s : List ℕ} {next : NextChunk} {spans text : List ℕ} (merged : List ℕ) (p : SpannedChunk s next spans) (text-is : text ≡ (chunk_in s next).text) where
  pub adjusted-is : {formed turned spaced worded : List Cluster}
      → formed ≡ map (form_glyph_clusters (fonts_in s next.job.fonts) (spans_in s spans)) (groups (spans_in s spans) (glyphs_at s merged))
      → turned ≡ apply_writing_mode next.job.mode formed
      → spaced ≡ apply_letter_spacing rounded (spans_in s spans) turned
      → worded ≡ apply_word_spacing rounded text (spans_in s spans) spaced
      → apply_length_adjust (spans_in s spans) worded ≡ adjusted_clusters (job_in s next) (chunk_in s next) (glyphs_at s merged)
  unfolding adjusted_clusters letter_spaced_clusters
  adjusted-is e₂ e₃ e₄ e₅ = rw (e₅, e₄, e₃, e₂, text-is, spans-are p) refl

-- ---- the clusters that step 6 is given: as many as were formed, with their byte indexes

module _ {s : List ℕ} {next : NextChunk} {spans text : List ℕ} (glyphs : List ℕ) (p : SpannedChunk s next spans) (text-is : text ≡ (chunk_in s next).text)
    {table turned spaced worded : List Cluster} {n : ℕ} (formed : FormedInto s next.job.fonts spans glyphs table n)
    (turned-is : turned ≡ apply_writing_mode next.job.mode (list_n.take n table)) (spaced-is : spaced ≡ apply_letter_spacing rounded (spans_in s spans) turned)
    (worded-is : worded ≡ apply_word_spacing rounded text (spans_in s spans) spaced) where
  indexes-kept : indexes rounded worded ≡ indexes rounded (list_n.take n table)
  indexes-kept =
      ap (indexes rounded) worded-is ∙ word-indexes text (spans_in s spans) spaced ∙ ap (indexes rounded) spaced-is
      ∙ letter-indexes (spans_in s spans) turned ∙ ap (indexes rounded) turned-is ∙ writing-indexes next.job.mode (list_n.take n table)

  pub worded-length : list_n.length worded ≡ n
  worded-length =
      sym (indexes-length worded) ∙ ap list_n.length indexes-kept ∙ indexes-length (list_n.take n table)
      ∙ ap list_n.length formed.clusters ∙ list_n.length-map _ _ ∙ sym formed.count

  pub worded-sortable : {order : List ℕ} → n ≤ list_n.length order → n ≤ 1024 → Sortable order worded
  worded-sortable h few =
      record { count = omega (arith, worded-length); few = omega (arith, worded-length); indexes = rw indexes-kept formed.indexes }

  -- what step 6 makes of them is what the definitions make of the merged glyphs
  pub adjusted-whole : (r : Result (Unit {0}) Refusal) (cs : List Cluster) → adjusted_of r cs ≡ apply_length_adjust (spans_in s spans) worded
      → adjusted_of r cs ≡ adjusted_clusters (job_in s next) (chunk_in s next) (glyphs_at s glyphs)
  adjusted-whole r cs e = e ∙ adjusted-is glyphs p text-is formed.clusters turned-is spaced-is worded-is

-- step 6 keeps them too, where it is done
pub done-kept : (spans : List Span) (cs ds : List Cluster) {r : Result (Unit {0}) Refusal} {u : Unit {0}} → r ≡ Ok u → adjusted_of r ds ≡ apply_length_adjust spans cs
    → indexes rounded ds ≡ indexes rounded cs
unfolding adjusted_of
done-kept spans cs ds e is = adjusted-order spans cs ds (rw e at is)

-- ---- what step 6 answers

-- where no span has a text length it leaves the clusters as they are
pub unadjusted : {b : Bool} (spans : List Span) (cs : List Cluster) → b ≡ any has_length spans → b ≡ false → adjusted_of (Ok tt) cs ≡ apply_length_adjust spans cs
unfolding adjusted_of apply_length_adjust adjust_span
unadjusted spans cs told none = sym (fold-skips has_length adjust_span (given cs) (λ s e. rw e) spans (sym told ∙ none))

module _ (r : Result (Unit {0}) Refusal) (cs : List Cluster) {o : Outcome (List Cluster)} (is : adjusted_of r cs ≡ o) where
  pub done-given : {u : Unit {0}} → r ≡ Ok u → o ≡ given cs
  unfolding adjusted_of
  done-given e = sym (rw e at is)

  pub told-refused : {e : Refusal} → r ≡ Err e → o ≡ refused (refusal_number e)
  unfolding adjusted_of
  told-refused e = sym (rw e at is)
