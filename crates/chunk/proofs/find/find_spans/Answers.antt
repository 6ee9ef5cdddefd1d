-- `chunk::find::find_spans` meets its contract. Assumes nothing.
use Prim.Native.Nat.{◌≤◌}
use mathlib.Core.Path.{ap, ◌∙◌}
use native.Mathlib.Omega.{arith}
use lib.ListN.{length}
use Rattle.spec.specs.Job.{limits}
use Rattle.job_rows.proofs.ByNumber.{length-places}
use Rattle.chunk.proofs.Spans.{lent_length, own_back, few-spans, places_of}
use Rattle.chunk.proofs.find.find_spans.Goals as goal

pub slice_bounds-span_places-end : goal.slice_bounds-span_places-end
slice_bounds-span_places-end c =
    let few : c.span_count-n.result ≤ limits.spans =
    few-spans c.requires.0 c.tail-chunk.ensures c.span_count-n.ensures.0 in
    let held : c.span_count-n.result ≤ length c.args.places.now =
    omega (arith, few, c.requires.1) in
    held

pub slice_bounds-span_places-end-2 : goal.slice_bounds-span_places-end-2
slice_bounds-span_places-end-2 c =
    let few : c.span_count-n.result ≤ limits.spans =
    few-spans c.requires.0 c.tail-chunk.ensures c.span_count-n.ensures.0 in
    let held : c.span_count-n.result ≤ length c.args.places.now =
    omega (arith, few, c.requires.1) in
    lent_length _ held

pub returns : goal.returns
returns c =
    let few : c.span_count-n.result ≤ limits.spans =
    few-spans c.requires.0 c.tail-chunk.ensures c.span_count-n.ensures.0 in
    let held : c.span_count-n.result ≤ length c.args.places.now =
    omega (arith, few, c.requires.1) in
    let places = c.args.places.now in
    let all = held in
    let same = ap length c.span_places.ensures ∙ length-places _ _ _ in
    record {
      few = few;
      parts = rw (own_back places _ all same) (places_of c.requires.0 c.tail-chunk.ensures _ c.spans_at.ensures.0 c.span_count-n.ensures.0 (lent_length places all) c.span_places.ensures);
    }
