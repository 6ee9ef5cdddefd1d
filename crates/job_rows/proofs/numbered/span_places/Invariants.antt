-- `job_rows::numbered::span_places` meets its contract. The loop's invariant: what is placed and what is left are the whole. Assumes nothing.
use mathlib.Core.Path.{◌≡◌}
use lib.ListN.{length}
use Rattle.job_rows.specs.Rows.{span_places}
use Rattle.job_rows.proofs.ByNumber.{placed}
use Rattle.job_rows.proofs.numbered.span_places.Given as goal

abbrev pub invariant-loop-place : goal.invariant-loop-place
invariant-loop-place l = placed l.s l.places l.place-index l.p ≡ span_places l.s l.at (length l.initial.places)
