-- Behind a chunk's span rows the chunk ends. Assumes nothing.
use Prim.Native.Nat.{ℕ, ◌+◌}
use mathlib.Core.Path.{◌≡◌, ◌∙◌, ap}
use mathlib.Core.List.{List}
use lib.ListN.{drop}
use lib.Seq.{drop-drop}
use Rattle.spec.specs.Bytes.{be, sizes}
use Rattle.spec.specs.Answer.{chunk_head_size, cluster_part, cluster_row_size_of, span_row_size_of, span_part, chunk_row_size_of}
use Rattle.text_form.specs.Walk.{behind}

-- `first` is the place of the first span row, and `end` the place behind the last
pub behind-chunk : (chunk : List ℕ) (clusters spans first end : ℕ) → clusters ≡ be 2 chunk → spans ≡ be 1 (drop 2 chunk)
    → drop first chunk ≡ behind cluster_row_size_of clusters (cluster_part chunk) → drop end chunk ≡ behind span_row_size_of spans (drop first chunk)
    → drop end chunk ≡ drop (chunk_row_size_of chunk) chunk
unfolding span_part chunk_row_size_of
behind-chunk chunk clusters spans first end clusters-are spans-are first-is end_is =
    let before = sizes cluster_row_size_of (be 2 chunk) (cluster_part chunk) in
    let size = sizes span_row_size_of (be 1 (drop 2 chunk)) (span_part chunk) in
    let first-at : drop first chunk ≡ span_part chunk = first-is ∙ ap (λ (n : ℕ). behind cluster_row_size_of n (cluster_part chunk)) clusters-are in
    end_is ∙ ap (λ (n : ℕ). behind span_row_size_of n (drop first chunk)) spans-are ∙ ap (behind span_row_size_of (be 1 (drop 2 chunk))) first-at
    ∙ ap (drop size) (drop-drop before chunk_head_size chunk) ∙ drop-drop size (chunk_head_size + before) chunk
