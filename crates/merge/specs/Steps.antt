-- A span's merge on its way, as the code holds it, beside the definitions' state. Definitions only.
use Rattle.std.specs.Prelude.{ℕ, ◌≤◌, ◌<◌, ◌≡◌, true, List, [], ◌∷◌, get_or, length, set, Ok, Err, IfOk}
use Rattle.std.specs.declared.result.Result.{Result}
use Rattle.spec.specs.Job.{limits}
use Rattle.spec.specs.declared.Glyph.{Glyph}
use Rattle.spec.specs.declared.Refusal.{Refusal}
use Rattle.spec.specs.declared.Span.{Span}
use Rattle.spec.specs.Refusal.{refusal_number}
use Rattle.spec.specs.Outcome.{Outcome, refused, given, IfGiven}
use Rattle.spec.specs.Merge.{Merging, span_contains, replace_first, merge_done}
use Rattle.merge.specs.Merged.{glyphs_in, merged_of, places_in}
use Rattle.merge.specs.declared.progress.Marks.{Marks}
use Rattle.merge.specs.declared.progress.Progress.{Progress}

-- the definitions' state as the code holds it, with the places replaced so far
abbrev pub merging_at : Progress → List ℕ → List ℕ → List ℕ → Merging
merging_at at s rows positions = record { list = glyphs_in s rows at.count; replaced = positions; owed = at.owed; next = at.next }

-- and as a step leaves it
unfoldable pub merging_of : Result Progress Refusal → List ℕ → List ℕ → List ℕ → Outcome Merging
merging_of (Ok at) s rows positions = given (merging_at at s rows positions)
merging_of (Err r) s rows positions = refused (refusal_number r)

-- every mark is less than n
abbrev pub StampsBelow : ℕ → List ℕ → Type 0
StampsBelow n stamps = (p : ℕ) → p < length stamps → get_or stamps p 0 < n

-- the stamps with the stamp at some places
unfoldable pub stamped : ℕ → List ℕ → List ℕ → List ℕ
stamped stamp [] stamps = stamps
stamped stamp (p ∷ ps) stamps = set (stamped stamp ps stamps) p stamp

-- The step r is the definitions' outcome o. Where that is a state, the stamps are those from before the span, with the stamp at the places
-- replaced. Where it is a refusal, nothing is said of the stamps: no one reads them again.
pub record AtState (r : Result Progress Refusal) (s rows : List ℕ) (stamp : ℕ) (stamps₀ stamps : List ℕ) (o : Outcome Merging) : Type 0 where
  pub marked : IfGiven (λ (m : Merging). stamps ≡ stamped stamp m.replaced stamps₀) o
  pub is : merging_of r s rows (places_in o) ≡ o

-- A step r keeps the span's stamp. If the marks are earlier ones with this stamp at the places replaced so far, it goes from the definitions'
-- state with these places to the outcome o of them.
pub record Stepped (r : Result Progress Refusal) (s rows : List ℕ) (marks marks₁ : Marks) (o : List ℕ → Outcome Merging) : Type 0 where
  pub same-span : marks₁.stamp ≡ marks.stamp
  pub stands : (stamps₀ positions : List ℕ) → StampsBelow marks.stamp stamps₀ → marks.stamps ≡ stamped marks.stamp positions stamps₀
      → AtState r s rows marks.stamp stamps₀ marks₁.stamps (o positions)

-- the glyph g replaces the first of its byte index, whatever span covers it
abbrev pub FirstReplaced : Progress → Result Progress Refusal → List ℕ → List ℕ → List ℕ → Marks → Marks → Glyph → Type 0
FirstReplaced at r s rows rows₁ marks marks₁ g =
    (span : Span) → span_contains span g.index ≡ true
    → Stepped r s rows₁ marks marks₁ (λ positions. replace_first span g (merging_at at s rows positions))

-- what a span's merge asks for: the marks are of earlier spans, and the list is within its limit
pub record SpanReady (marks : Marks) (count : ℕ) : Type 0 where
  pub earlier : StampsBelow marks.stamp marks.stamps
  pub few : count ≤ limits.merged

-- What it leaves: the merge that o says. Where that is not refused, the marks have got the span's stamp at `places`.
pub record SpanMerged (r : Result ℕ Refusal) (s rows : List ℕ) (marks marks₁ : Marks) (places : List ℕ) (o : Outcome (List Glyph)) : Type 0 where
  pub same-span : marks₁.stamp ≡ marks.stamp
  pub marked : IfGiven (λ (gs : List Glyph). marks₁.stamps ≡ stamped marks.stamp places marks.stamps) o
  pub held : IfOk r (λ n. n ≤ limits.merged)
  pub is : merged_of r s rows ≡ o

-- the same of a span whose glyphs are merged into a list that is not empty
abbrev pub SpanEnded : Result ℕ Refusal → List ℕ → List ℕ → Marks → Marks → Outcome Merging → Type 0
SpanEnded r s rows marks marks₁ o = SpanMerged r s rows marks marks₁ (places_in o) (merge_done o)
