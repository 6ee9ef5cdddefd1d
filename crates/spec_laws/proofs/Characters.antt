-- A chunk's layout counts its characters, and it has no more of them than bytes of text. Assumes nothing.
use Prim.Native.Nat.{ℕ, ◌+◌, ◌≤◌}
use mathlib.Core.Path.{◌≡◌}
use mathlib.Core.Bool.{cond}
use mathlib.Core.List.{List, [], ◌∷◌}
use native.Mathlib.Nat.{le_refl}
use native.Mathlib.Omega.{arith}
use lib.ListN.{length}
use Rattle.spec_laws.proofs.All.{cond-keeps}
use Rattle.spec_laws.proofs.IfGiven.{if-given, of-given, given-then}
use Rattle.spec.specs.Outcome.{given}
use Rattle.spec.specs.declared.Glyph.{Glyph}
use Rattle.spec.specs.declared.Cluster.{Cluster}
use Rattle.spec.specs.Job.{Job, Chunk}
use Rattle.spec.specs.Utf8.{continues, characters}
use Rattle.spec.specs.Merge.{merge_glyphs}
use Rattle.spec.specs.Layout.{adjusted_clusters, Progress, place_chunk, layout_chunk}

pub characters-few : (bs : List ℕ) → characters bs ≤ length bs
unfolding characters
characters-few [] = le_refl 0
characters-few (b ∷ bs) = let one : cond (continues b) 0 1 ≤ 1 = cond-keeps (λ n. n ≤ 1) (continues b) (omega arith) (omega arith) in omega (arith, characters-few bs)

abbrev Counted : Progress → Chunk → Progress → Type 0
Counted st c st' = st'.offset ≤ st.offset + length c.text

placed-counts : (job : Job) (st : Progress) (c : Chunk) (gs : List Glyph) (cs : List Cluster) → Counted st c (place_chunk job st c gs cs)
unfolding place_chunk
placed-counts job st c gs [] = omega (arith, characters-few c.text)
placed-counts job st c gs (d ∷ ds) = omega (arith, characters-few c.text)

pub chunk-characters : (job : Job) (st : Progress) (c : Chunk) (st' : Progress) → layout_chunk job (given st) c ≡ given st' → st'.offset ≤ st.offset + length c.text
unfolding layout_chunk
chunk-characters job st c st' e =
    of-given (Counted st c) (layout_chunk job (given st) c) st'
    (given-then (λ gs. Unit {0}) (Counted st c) (merge_glyphs c.parts) _ (if-given _ (merge_glyphs c.parts) (λ gs m. tt))
    (λ gs m. given-then (λ cs. Unit {0}) (Counted st c) (adjusted_clusters job c gs) _ (if-given _ (adjusted_clusters job c gs) (λ cs a. tt)) (λ cs a. placed-counts job st c gs cs))) e
