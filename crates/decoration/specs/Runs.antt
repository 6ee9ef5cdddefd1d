-- The run that has started. Definitions only.
use Rattle.std.specs.Prelude.{ℕ, ◌+◌, Bool, not, cond, ◌&&◌, List, [], ltb, Float, Option, Some, None, option_to_list}
use Rattle.spec.specs.Single.{◌+ᶠ◌}
use Rattle.spec.specs.declared.Run.{Run}
use Rattle.spec.specs.declared.Span.{Span}
use Rattle.spec.specs.Merge.{span_contains}
use Rattle.spec.specs.declared.Cluster.{Cluster}
use Rattle.decoration.specs.declared.OpenRun.{OpenRun}

-- before the first cluster
abbrev pub no_run : OpenRun
no_run = record { ended = 0; run = None }

-- the run that starts at place k, inside the span
abbrev pub started_at : ℕ → Bool → Float → Option Run
started_at k inside a = cond inside (Some (record { first = k; width = a })) None

-- behind the cluster at place k, with e runs ended before it: the run goes on inside the span, or it ends and another starts there
abbrev pub opened_behind : ℕ → Option Run → ℕ → Bool → Bool → Float → OpenRun
opened_behind e None k inside relative a = record { ended = e; run = started_at k inside a }
opened_behind e (Some r) k inside relative a =
    cond (inside && not relative) (record { ended = e; run = Some (record { first = r.first; width = r.width +ᶠ a }) }) (record { ended = e + 1; run = started_at k inside a })

unfoldable pub opened : OpenRun → ℕ → Bool → Bool → Float → OpenRun
opened o k inside relative a = opened_behind o.ended o.run k inside relative a

-- the same by the cluster
abbrev pub opened_by : Span → OpenRun → ℕ → Cluster → OpenRun
opened_by span o k c = opened o k (span_contains span c.index) c.relative c.advance

-- the run that has ended since `o`, if one has
unfoldable pub ended_since : OpenRun → OpenRun → List Run
ended_since o next = cond (ltb o.ended next.ended) (option_to_list o.run) []
