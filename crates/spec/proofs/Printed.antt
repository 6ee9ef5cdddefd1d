-- What platelist prints of the label's variants, computed from their bytes, is what the programs' stored outputs have: the first is platelist's, all are
-- label_cases'. Assumes nothing.
use Prim.Native.Nat.{ℕ}
use Prim.Native.String.{String}
use mathlib.Core.Path.{◌≡◌, refl}
use mathlib.Core.List.{List, [], ◌∷◌, ◌++◌, map, flat_map}
use lib.ListN.{take}
use Rattle.spec.specs.Script.Tag.{tag}
use Rattle.spec.specs.TextForm.{ascii, platelist}
use Rattle.spec.proofs.Compute.{computed}
use Rattle.spec.proofs.Seen.{shown}
use Rattle.spec.proofs.Jobs.{label_job, plain_variant, chunk_row, plain_job, built}
use Rattle.spec.proofs.Label.{Case, table}

-- lines as bytes, each with its end
text : List String → List ℕ
text lines = flat_map (λ (l : String). ascii l ++ (10 ∷ [])) lines

stored : List (List String)
stored =
    ("chunk 0 3 42c80000 42480000"
    ∷ "cluster 0 0 0 41200000 41300000 c1e00000"
    ∷ "cluster 1 1 0 40800000 40e00000 c1880000"
    ∷ "cluster 2 2 0 41200000 41200000 c1200000"
    ∷ "span 0 00000000 3f800000 40000000"
    ∷ "run 0 0 41e00000" ∷ [])
    ∷ ("chunk 0 3 42e60000 42480000"
    ∷ "cluster 0 0 0 41200000 41c80000 c2580000"
    ∷ "cluster 1 1 0 40800000 41980000 c1e80000"
    ∷ "cluster 2 2 0 41200000 41c80000 c1200000"
    ∷ "span 0 00000000 3f800000 40000000"
    ∷ "run 0 0 428a0000" ∷ [])
    ∷ ("chunk 0 3 42c80000 42480000"
    ∷ "cluster 0 0 8 41200000 41300000 c1e00000"
    ∷ "cluster 1 1 8 40800000 40e00000 c1880000"
    ∷ "cluster 2 2 8 41200000 41200000 c1200000"
    ∷ "span 0 00000000 3f800000 40000000"
    ∷ "run 0 0 41e00000" ∷ [])
    ∷ ("chunk 0 3 42c80000 42480000"
    ∷ "cluster 0 0 0 41200000 41300000 c1f80000"
    ∷ "cluster 1 1 1 40800000 40e00000 c1880000"
    ∷ "cluster 2 2 0 41200000 41200000 c1200000"
    ∷ "span 0 00000000 3f800000 40000000"
    ∷ "run 0 0 41300000"
    ∷ "run 0 1 41880000" ∷ [])
    ∷ ("chunk 0 3 42c80000 42480000"
    ∷ "cluster 0 0 32 00000000 00000000 c1400000"
    ∷ "cluster 1 1 32 00000000 40000000 c1400000"
    ∷ "cluster 2 2 0 41200000 41200000 c1200000"
    ∷ "span 0 00000000 3f800000 40000000"
    ∷ "run 0 0 41400000" ∷ [])
    ∷ ("chunk 0 3 42c80000 42480000"
    ∷ "cluster 0 0 0 41200000 41300000 c1e00000"
    ∷ "cluster 1 1 0 40800000 40e00000 c1880000"
    ∷ "cluster 2 2 0 41200000 41200000 c1200000"
    ∷ "span 0 40800000 3f800000 40000000"
    ∷ "run 0 0 41e00000" ∷ [])
    ∷ ("chunk 0 3 42c80000 42480000"
    ∷ "cluster 0 0 0 41200000 41300000 c1e00000"
    ∷ "cluster 1 1 0 40800000 40e00000 c1880000"
    ∷ "cluster 2 2 0 41200000 41200000 c1200000"
    ∷ "span 0 c0a00000 3f800000 40000000"
    ∷ "run 0 0 41e00000" ∷ [])
    ∷ ("chunk 0 3 42c80000 42480000"
    ∷ "cluster 0 0 2 41200000 41300000 c1e00000"
    ∷ "cluster 1 1 4 40800000 40e00000 c1880000"
    ∷ "cluster 2 2 4 41200000 41200000 c1200000"
    ∷ "span 0 80000000 3f800000 41000000"
    ∷ "run 0 0 41e00000" ∷ [])
    ∷ ("chunk 0 3 42c80000 42480000"
    ∷ "cluster 0 0 0 41200000 41200000 c1d00000"
    ∷ "cluster 1 1 0 40800000 40c00000 c1800000"
    ∷ "cluster 2 2 0 41200000 41200000 c1200000"
    ∷ "span 0 00000000 3f800000 40000000"
    ∷ "run 0 0 41d00000" ∷ [])
    ∷ ("chunk 0 3 42e20000 42480000"
    ∷ "cluster 0 0 0 41200000 41c00000 c2580000"
    ∷ "cluster 1 1 0 40800000 41a00000 c1f00000"
    ∷ "cluster 2 2 0 41200000 41b80000 c1200000"
    ∷ "span 0 00000000 3f800000 40000000"
    ∷ "run 0 0 42860000" ∷ [])
    ∷ []

printed : map (λ (c : Case). platelist (label_job c.variant)) table ≡ map text stored
unfolding computed built shown table text stored
printed = refl

-- the label
label : List ℕ
label = label_job (plain_variant (tag "Latn") 0x3f800000)

-- refused jobs: nothing at all; the label without its last byte; seventeen chunks. And a job of no chunks, which prints nothing
short : map platelist ([] ∷ take 152 label ∷ plain_job [] [] (map (λ (k : ℕ). chunk_row 0 [] []) (0 ∷ 1 ∷ 2 ∷ 3 ∷ 4 ∷ 5 ∷ 6 ∷ 7 ∷ 8 ∷ 9 ∷ 10 ∷ 11 ∷ 12 ∷ 13 ∷ 14 ∷ 15 ∷ 16 ∷ [])) ∷ plain_job [] [] [] ∷ [])
    ≡ text ("refused 1" ∷ []) ∷ text ("refused 1" ∷ []) ∷ text ("refused 3" ∷ []) ∷ [] ∷ []
unfolding computed built shown text label
short = refl
