-- T, the sum of sizes that the distance is measured by: its mass is that of the clusters with their spacing, of the text lengths and of the shifts.
-- Assumes nothing.
use Prim.Native.Nat.{ℕ, ◌+◌, ◌*◌}
use mathlib.Core.List.{List, [], ◌∷◌, map, foldl}
use native.Mathlib.Omega.{arith}
use lib.ListN.{length}
use lib.Ieee.{Float}
use Rattle.float_error.specs.Fraction.{Frac, ◌+ᵠ◌, absᵠ, value_of}
use Rattle.float_error.proofs.Units.{size_of}
use Rattle.float_error.proofs.Inputs.{Input, input-zero}
use Rattle.spec_laws.proofs.All.{all_get_d}
use Rattle.spec.specs.Lists.{All}
use Rattle.spec.specs.declared.Font.{Font}
use Rattle.spec.specs.declared.Span.{Span}
use Rattle.spec.specs.Single.{+0}
use Rattle.spec.specs.Job.{Job, Chunk, spans_of}
use Rattle.spec.specs.Group.{Group}
use Rattle.spec.specs.Position.{character_number}
use Rattle.spec.specs.Exact.{ExactCluster, cluster_sizes, size_total}
use Rattle.error_bound.proofs.Load.{Load, load-zero, load-add, load-input, load-as}
use Rattle.error_bound.proofs.Formed.{Frame}
use Rattle.error_bound.proofs.Spaced.{SpanIn, GroupIn, word_part, body}
use Rattle.error_bound.proofs.Shifts.{float_at, shift_mass}
use Rattle.error_bound.proofs.Lengths.{lengths_mass}
use Rattle.spec_laws.proofs.GlyphsShared.{group_glyphs}

-- the clusters with their spacing
abbrev pub groups_mass : List Font → List Span → ℕ → ℕ → List Group → ℕ
groups_mass fonts spans K D [] = 0
groups_mass fonts spans K D (g ∷ gs) = word_part fonts spans K D g + groups_mass fonts spans K D gs

abbrev pub indexes_of : List Group → List ℕ
indexes_of gs = map (λ (g : Group). g.first.index) gs

abbrev pub groups_of : List ExactCluster → List Group
groups_of qs = map (λ (q : ExactCluster). q.group) qs

module _ {K D S : ℕ} (job : Job) (c : Chunk) (offset : ℕ) (frame : Frame job.fonts K D S) (dxs : All Input job.dx) (dys : All Input job.dy) where
  abbrev spans : List Span
  spans = spans_of c

  abbrev at : List Float → ℕ → ℕ
  at xs i = size_of (float_at D xs c.text offset i) * D

  -- a cluster's part
  cluster-load : (g : Group) → GroupIn job.fonts spans g
      → Load D (cluster_sizes job offset c g) (word_part job.fonts spans K D g + at job.dx g.first.index + at job.dy g.first.index) (length g.glyphs + 4)
  unfolding cluster_sizes
  cluster-load g i =
      load-as (omega arith) (omega arith)
      (load-add (load-add (body spans frame g i) (load-input D (all_get_d (character_number c.text offset g.first.index) +0 input-zero dxs)))
      (load-input D (all_get_d (character_number c.text offset g.first.index) +0 input-zero dys)))

  clusters-load : {r : Frac} {m k : ℕ} (qs : List ExactCluster) → All (GroupIn job.fonts spans) (groups_of qs) → Load D r m k
      → Load D (foldl (λ (t : Frac) (q : ExactCluster). t +ᵠ cluster_sizes job offset c q.group) r qs)
      (m + (groups_mass job.fonts spans K D (groups_of qs) + (shift_mass D job.dx c.text offset (indexes_of (groups_of qs)) + shift_mass D job.dy c.text offset (indexes_of (groups_of qs)))))
      (k + (group_glyphs (groups_of qs) + 4 * length qs))
  clusters-load [] All.none l = load-as (omega arith) (omega arith) l
  clusters-load {r = r} (q ∷ qs) (All.more i is) l =
      load-as (omega arith) (omega arith) (clusters-load {r = r +ᵠ cluster_sizes job offset c q.group} qs is (load-add l (cluster-load q.group i)))

  spans-load : {r : Frac} {m k : ℕ} {ss : List Span} → All SpanIn ss → Load D r m k
      → Load D (foldl (λ (t : Frac) (s : Span). t +ᵠ absᵠ (value_of s.length)) r ss) (m + lengths_mass D ss) (k + length ss)
  spans-load All.none l = load-as (omega arith) (omega arith) l
  spans-load {r = r} (All.more {x = s} i is) l =
      load-as (omega arith) (omega arith) (spans-load {r = r +ᵠ absᵠ (value_of s.length)} is (load-add l (load-input D i.length)))

  pub total-load : (qs : List ExactCluster) → All (GroupIn job.fonts spans) (groups_of qs) → All SpanIn spans
      → Load D (size_total job offset c qs)
      (groups_mass job.fonts spans K D (groups_of qs) + lengths_mass D spans + (shift_mass D job.dx c.text offset (indexes_of (groups_of qs)) + shift_mass D job.dy c.text offset (indexes_of (groups_of qs))))
      (group_glyphs (groups_of qs) + 4 * length qs + length spans)
  unfolding size_total
  total-load qs is ss = load-as (omega arith) (omega arith) (spans-load ss (clusters-load qs is (load-zero D)))
