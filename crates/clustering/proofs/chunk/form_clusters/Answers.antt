use native.Mathlib.Omega.{arith}
use Prim.Native.Nat.{◌<◌}
use mathlib.Core.Path.{refl, ap, ◌∙◌}
use mathlib.Core.List.{map}
use lib.ListN.{length, length-set}
use borrow.Author.Tests.{lt-ltb}
use Rattle.std.proofs.lemmas.Option.{MatchOption-at_some, MatchOption-at_none}
use Rattle.spec.specs.Lists.{all}
use Rattle.spec.specs.Cluster.{form_glyph_clusters}
use Rattle.job_rows.specs.Rows.{fonts_in, spans_in}
use Rattle.clustering.specs.declared.measures.Measures.{Measures}
use Rattle.clustering.proofs.Glyphs.{widths-part}
use Rattle.clustering.proofs.Kept.{kept, of-font, of-span}
use Rattle.clustering.proofs.LoopSteps.{run_at, groups-start, groups-end, groups-kept, groups-passed, groups-room, groups-turn, groups-all, formed-all, formed-turn, indexes-turn}
use Rattle.clustering.proofs.chunk.form_clusters.Goals as goal

pub loop-i-init : goal.loop-i-init
unfolding all
loop-i-init c =
    let a = c.args in
    let form = form_glyph_clusters (fonts_in a.s.now a.fonts) (spans_in a.s.now a.spans.now) in
    let all_left = groups-start a.s.now a.spans.now a.merged.now in
    (refl, omega arith, omega arith, omega (arith, ap length all_left), ap (map form) all_left, refl, kept a.s.now a.fonts a.spans.now c.measures_of-kept.ensures)

pub form_glyph_clusters-requires : goal.form_glyph_clusters-requires
form_glyph_clusters-requires c =
    let run = c.run_end-end.ensures in
    let a = c.args in
    let m = c.next_measures-kept.ensures in
    let here = MatchOption-at_some _ _ _ c.in-Some.is c.chunk_span_at.ensures in
    let given = c.requires in (
      record { some = run.1; inside = run.2; widths = widths-part a.s.now a.merged.now _ c.loop-i.i given.widths },
      omega (arith, run.2, given.few_glyphs),
      omega (arith, ap (λ (m : Measures). m.span) m, here.1, given.few_spans),
      rw c.place_in.ensures at c.glyph_at-first.ensures,
      of-font a.s.now a.fonts a.spans.now m,
    )

pub bounds-clusters-n : goal.bounds-clusters-n
bounds-clusters-n c =
    let l = c.loop-i in
    let here = MatchOption-at_some _ _ _ c.in-Some.is c.chunk_span_at.ensures in
    let more = groups-room c.args.spans.now (run_at c.run_end-end.ensures c.index_in-index.ensures) here l.n l.invariant.3 in
    omega (arith, c.requires.rows)

pub loop-i-preserved-in-Some : goal.loop-i-preserved-in-Some
loop-i-preserved-in-Some c =
    let a = c.args in
    let l = c.loop-i in
    let run = run_at c.run_end-end.ensures c.index_in-index.ensures in
    let here = MatchOption-at_some _ _ _ c.in-Some.is c.chunk_span_at.ensures in
    let r = c.form_glyph_clusters in
    let m = c.next_measures-kept.ensures in
    let room = groups-room a.spans.now run here l.n l.invariant.3 in
    let h : l.n < length l.clusters = omega (arith, c.requires.rows) in
    let form = form_glyph_clusters (fonts_in a.s.now a.fonts) (spans_in a.s.now a.spans.now) in
    let cluster = r.ensures.0 (spans_in a.s.now a.spans.now) (of-span a.s.now a.fonts a.spans.now m) in (
      length-set l.clusters _ _ ∙ l.invariant.0,
      omega arith,
      run.ends.2,
      groups-turn a.spans.now run here l.n l.invariant.3,
      formed-turn l.clusters l.n r.result h form (rw m at cluster) (groups-kept a.spans.now run here) ∙ l.invariant.4,
      indexes-turn l.clusters l.n r.result h _ (lt-ltb _ _ r.ensures.1) l.invariant.5,
      kept a.s.now a.fonts a.spans.now m,
    )

pub loop-i-preserved : goal.loop-i-preserved
loop-i-preserved c =
    let l = c.loop-i in
    let run = c.run_end-end.ensures in
    let next = groups-passed c.args.spans.now (run_at run c.index_in-index.ensures) (MatchOption-at_none _ _ c.in_default.is c.chunk_span_at.ensures) in
    (l.invariant.0, omega arith, run.2, rw next at l.invariant.3, rw next at l.invariant.4, l.invariant.5, l.invariant.6)

pub returns : goal.returns
returns c =
    let l = c.loop-i in
    let a = c.args in
    let form = form_glyph_clusters (fonts_in a.s.now a.fonts) (spans_in a.s.now a.spans.now) in
    let none = groups-end a.s.now a.spans.now a.merged.now l.i c.loop-i-test.false in
    record {
      clusters = rw (formed-all form l.clusters l.n none) at l.invariant.4;
      few = omega arith;
      count = groups-all a.s.now a.spans.now a.merged.now l.n l.i l.invariant.3 none;
      indexes = l.invariant.5;
    }
