-- `chunk::chunk::layout_chunk` meets its contract: its spans are found, and it is laid out behind their merge, or with the glyphs of one. Assumes nothing.
use Prim.Native.Nat.{ℕ, ◌+◌, ◌≤◌}
use mathlib.Core.Path.{◌≡◌}
use mathlib.Core.List.{List}
use native.Mathlib.Omega.{arith}
use lib.ListN.{length, take}
use Rattle.clustering.proofs.FewClusters.{clusters-at-most}
use Rattle.job_rows.specs.Rows.{parts_in}
use Rattle.merge.specs.Source.{glyph_span}
use Rattle.chunk.specs.Checked.{OwnMerged}
use Rattle.chunk.proofs.Spans.{lent_length, spanned-of}
use Rattle.chunk.proofs.Merging.{own-within, own_alone, own-merged, merged-laid}
use Rattle.chunk.proofs.chunk.layout_chunk.Goals as goal

pub overflow_add-own : goal.overflow_add-own
overflow_add-own c =
    let places = c.find_spans-n.new.places in
    let many : c.find_spans-n.result ≡ length (take c.find_spans-n.result places) = lent_length places (omega arith) in
    omega (arith, own-within c.args.s.now (take c.find_spans-n.result places) c.glyph_span-own.ensures, many, c.find_spans-n.ensures.few)

-- ---- no second span has glyphs

-- the first n places are the spans'; where no second span has glyphs, the first one's are merged as they stand
alone : (s places : List ℕ) {n own other : ℕ} → n ≤ length places → own ≡ glyph_span (parts_in s (take n places)) 0
    → other ≡ glyph_span (parts_in s (take n places)) (own + 1) → n ≤ other → OwnMerged s (take n places) own
alone s places few e f h = own_alone s _ e f (omega (arith, lent_length places few, h))

pub listed_chunk-requires : goal.listed_chunk-requires
listed_chunk-requires c = (
  spanned-of c.requires c.find_spans-n.ensures,
  alone _ _ (omega arith) c.glyph_span-own.ensures c.glyph_span.ensures (omega arith),
)

-- ---- and the one has few

pub invariant_of-chunk : goal.invariant_of-chunk
invariant_of-chunk c =
    let one = alone _ _ (omega arith) c.glyph_span-own.ensures c.glyph_span.ensures (omega arith) in
    record { merged = own-merged (spanned-of c.requires c.find_spans-n.ensures) _ one c.list_own-count.new.rows c.list_own-count.ensures.1 c.list_own-count.ensures.2 }

pub chunk_of-requires : goal.chunk_of-requires
chunk_of-requires c =
    let spans = take c.find_spans-n.result c.find_spans-n.new.places in
    let rows = c.list_own-count.new.rows in
    let few-rows : c.list_own-count.result ≤ 32 = omega (arith, c.list_own-count.ensures.1, c.own_count.ensures, c.if-own_count-gt-SHORT.false) in
    let held : c.list_own-count.result ≤ length rows = omega (arith, c.list_own-count.ensures.0, few-rows) in
    (omega arith, omega (arith, clusters-at-most c.args.s.now spans (take c.list_own-count.result rows), lent_length rows held, few-rows))

pub returns : goal.returns
returns c =
    let one = alone _ _ (omega arith) c.glyph_span-own.ensures c.glyph_span.ensures (omega arith) in
    merged-laid (own-merged (spanned-of c.requires c.find_spans-n.ensures) _ one _ c.list_own-count.ensures.1 c.list_own-count.ensures.2) c.chunk_of.ensures
