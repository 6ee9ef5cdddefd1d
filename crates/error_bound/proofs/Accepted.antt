-- What an accepted job gives the argument: fonts, spans and clusters with their numbers in range. Assumes nothing.
use Prim.Native.Nat.{ℕ, zero, suc, ◌+◌, ◌^◌, ◌≤◌, ◌<◌}
use mathlib.Core.Path.{◌≡◌, refl, sym, subst}
use mathlib.Core.Bool.{Bool, true, false, cond}
use mathlib.Core.List.{List, [], ◌∷◌}
use native.Mathlib.Nat.{le_refl, le_trans, le_of_suc-le-suc}
use native.Mathlib.Omega.{arith}
use lib.ListN.{length}
use lib.Dec.{T, ltb, ltb→lt, leb→le}
use lib.Ieee.{Float}
use Rattle.float_error.proofs.Inputs.{Input, input_of, font-size-of}
use Rattle.spec_laws.proofs.All.{all_of, all-every, all_map, all-weaken, all_read, all_drop, both, first, rest}
use Rattle.spec.specs.Lists.{All}
use Rattle.spec_laws.proofs.Accepted.{accepted, InRange, RangedSpan, RangedChunk}
use Rattle.spec_laws.proofs.Counted.{IsByte, be-below}
use Rattle.spec_laws.proofs.GroupsKeep.{groups-keep}
use Rattle.spec_laws.proofs.GlyphsShared.{group_glyphs, groups-share}
use Rattle.spec_laws.proofs.GlyphsAccepted.{AcceptedGlyph}
use Rattle.spec.specs.declared.Font.{Font}
use Rattle.spec.specs.declared.Glyph.{Glyph}
use Rattle.spec.specs.declared.Span.{Span}
use Rattle.spec.specs.Outcome.{given}
use Rattle.spec.specs.Job.{Job, Chunk, SpanParts, spans_of, span_at}
use Rattle.spec.specs.Decode.{job_of, font_of}
use Rattle.spec.specs.Check.{checked, after_version, float_ok, size_ok, font_ok, glyph_ok, values_ok}
use Rattle.spec.specs.Group.{Group, chunk_span_at, glyph_runs, covered_runs, groups}
use Rattle.error_bound.proofs.Formed.{FontIn, GlyphIn}
use Rattle.error_bound.proofs.Spaced.{SpanIn, GroupIn}

-- ---- floats

pub input : (x : Float) → InRange x → Input x
unfolding float_ok
input x (f, h) = input_of x f h

pub span-in : (s : Span) → RangedSpan s → SpanIn s
unfolding size_ok
span-in s r =
    record {
      size = font-size-of s.size r.size.0 r.size.1;
      letter = input s.letter r.letter;
      word = input s.word r.word;
      length = input s.length r.length;
    }

pub spans-in : (c : Chunk) → RangedChunk c → All SpanIn (spans_of c)
spans-in c r = all_map SpanIn (λ (p : SpanParts). p.span) (λ p q. span-in p.span q.span) r.parts

-- ---- fonts

abbrev Short : Font → Type 0
Short f = f.units < 256 ^ 2

font-short : (bs : List ℕ) → All IsByte bs → Short (font_of bs)
unfolding font_of
font-short bs h = be-below 2 bs h

job-short : (bs : List ℕ) → All IsByte bs → All Short (job_of bs).fonts
unfolding job_of
job-short bs h = all_read Short _ font_of font-short _ _ (all_drop 2 h)

font-in : (f : Font) → Short f → T (font_ok f) → FontIn f
unfolding font_ok
font-in f h t = record { some = ltb→lt 0 f.units (first (all-every _ t)); few = omega arith }

pub fonts-in : (bs : List ℕ) (job : Job) → All IsByte bs → checked bs ≡ given job → All FontIn job.fonts
unfolding values_ok
fonts-in bs job h e =
    let a = accepted bs job e in
    both font-in (subst (λ (j : Job). All Short j.fonts) a.is (job-short (after_version bs) (all_drop 5 h))) (all_of font_ok job.fonts (first (rest (all-every _ a.values))))

-- ---- glyphs

pub glyph-in : (job : Job) (c : Chunk) (g : Glyph) → AcceptedGlyph job c g → GlyphIn job.fonts g
unfolding glyph_ok
glyph-in job c g a =
    let conditions = all-every _ a.ok in
    record {
      font = ltb→lt g.font (length job.fonts) (first (rest (rest (rest (rest (rest conditions))))));
      width = leb→le _ _ (first (rest (rest (rest (rest conditions)))));
    }

-- ---- groups

abbrev Covered : List Span → Group → Type 0
Covered spans g = (0 < length g.glyphs) × (g.span < length spans)

covered : (spans : List Span) (from : ℕ) (runs : List (List Glyph)) → All (Covered spans) (covered_runs spans from runs)
unfolding covered_runs
covered spans from [] = All.none
covered spans from ([] ∷ runs) = covered spans from runs
covered spans from ((g ∷ gs) ∷ runs) = go (ltb k (length spans)) refl (covered spans (from + length (g ∷ gs)) runs)
  where
    k : ℕ
    k = chunk_span_at spans g.index

    others : List Group
    others = covered_runs spans (from + length (g ∷ gs)) runs

    here : Group
    here = record { from = from; first = g; glyphs = g ∷ gs; span = k }

    go : (b : Bool) → ltb k (length spans) ≡ b → All (Covered spans) others → All (Covered spans) (cond b (here ∷ others) others)
    go true e r = All.more {x = here} (omega arith, ltb→lt k (length spans) (subst T (sym e) tt)) r
    go false e r = r

part : (gs : List Group) → All (λ g. length g.glyphs ≤ group_glyphs gs) gs
part [] = All.none
part (g ∷ gs) =
    let whole : length g.glyphs ≤ group_glyphs (g ∷ gs) = omega arith in
    let later : group_glyphs gs ≤ group_glyphs (g ∷ gs) = omega arith in
    All.more whole (all-weaken (λ h i. le_trans i later) (part gs))

-- the groups of a merged list, the glyphs in them, and each group's
pub record GroupsIn (fonts : List Font) (spans : List Span) (n : ℕ) (gs : List Group) : Type 0 where
  pub groups : All (GroupIn fonts spans) gs
  pub few : group_glyphs gs ≤ n
  pub each : All (λ g. length g.glyphs ≤ group_glyphs gs) gs
  pub count : length gs ≤ group_glyphs gs

at_least : (spans : List Span) {gs : List Group} → All (Covered spans) gs → length gs ≤ group_glyphs gs
at_least spans All.none = omega arith
at_least spans (All.more c cs) = omega (arith, at_least spans cs, c.0)

span-at : {spans : List Span} → All SpanIn spans → (k : ℕ) → k < length spans → SpanIn (span_at spans k)
span-at All.none k h = let z : ⊥ = omega arith in absurd z
span-at (All.more s ss) zero h = s
span-at (All.more s ss) (suc k) h = span-at ss k (le_of_suc-le-suc h)

pub groups-in : {fonts : List Font} {spans : List Span} {gs : List Glyph} → All (GlyphIn fonts) gs → length gs ≤ 1024 → All SpanIn spans → GroupsIn fonts spans 1024 (groups spans gs)
unfolding groups
groups-in {fonts} {spans} {gs} is few ss =
    let c = covered spans 0 (glyph_runs gs) in
    let kept = groups-keep (GlyphIn fonts) spans (length gs) (record { each = is; few = le_refl (length gs) }) in
    let small : group_glyphs (groups spans gs) ≤ 1024 = omega (arith, (groups-share spans gs).glyphs) in
    let sizes = part (groups spans gs) in
    record {
      groups =
          both (λ g p q. record { glyphs = p.glyphs; some = q.0.0; few = le_trans q.1 small; span = span-at ss g.span q.0.1 }) kept.each
          (both {R = λ g. Covered spans g × (length g.glyphs ≤ group_glyphs (groups spans gs))} (λ g p q. (p, q)) c sizes);
      few = small;
      each = sizes;
      count = at_least spans c;
    }
