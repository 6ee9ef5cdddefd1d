-- The loop that sets the clusters' marks: what it begins with, and one turn. Assumes nothing.
use Prim.Native.Nat.{ℕ, ◌<◌}
use native.Mathlib.Nat.{not-suc-le-zero}
use mathlib.Core.Path.{◌≡◌, refl, ap, ◌∙◌}
use mathlib.Core.List.{List, [], ◌∷◌}
use lib.Ieee.{Float}
use lib.ListN.{length, get_or}
use Rattle.spec.specs.declared.Cluster.{Cluster}
use Rattle.spec.specs.Lists.{scan}
use Rattle.spec.specs.Single.{+0}
use Rattle.spec.specs.Job.{Job}
use Rattle.spec.specs.Arithmetic.{indexes}
use Rattle.spec.specs.Position.{character_number, marked_by, marked, mark_relative_shifts}
use Rattle.spec.specs.Cluster.{rounded}
use Rattle.text_order.proofs.Keys.{indexes-at}
use Rattle.position.specs.Given.{CharacterNumbersOf}
use Rattle.position.proofs.TextOrder.{number_at, numbers-still}

pub marked-index : (angle : Float) (before c : Cluster) → (marked_by angle before c).index ≡ c.index
unfolding marked_by
marked-index angle before c = refl

-- a cluster that is marked by its character's angle is marked as the definition has it
module _ (angle : Float) (before c : Cluster) where
  pub marked_by_lem : (job : Job) (text : List ℕ) (offset : ℕ) → get_or job.rotate (character_number text offset c.index) +0 ≡ angle → marked_by angle before c ≡ marked job text offset before c
  unfolding marked
  marked_by_lem job text offset e = rw e

-- the state is the cluster before
abbrev pub last : Cluster → Cluster → Cluster
last before c = c

module _ (job : Job) (text : List ℕ) (offset : ℕ) where
  pub mark-start : (cs : List Cluster) (d : Cluster) → 0 < length cs → scan last (marked job text offset) (get_or cs 0 d) cs ≡ mark_relative_shifts job text offset cs
  unfolding mark_relative_shifts
  mark-start [] d h = absurd (not-suc-le-zero h)
  mark-start (c ∷ cs) d h = refl

  -- the angle of cluster i, the clusters having kept their byte indexes
  pub marked-at : (numbers : List ℕ) (cs ds : List Cluster) (i : ℕ) (angle : Float) (before d : Cluster)
      → CharacterNumbersOf text offset numbers cs → indexes rounded ds ≡ indexes rounded cs → i < length ds
      → angle ≡ get_or job.rotate (get_or numbers i 0) +0
      → marked_by angle before (get_or ds i d) ≡ marked job text offset before (get_or ds i d)
  unfolding marked
  marked-at numbers cs ds i angle before d en ei h ea =
      let number : get_or numbers i 0 ≡ character_number text offset (get_or ds i d).index =
      number_at text offset numbers ds (numbers-still text offset numbers cs en ds ei) i h ∙ ap (character_number text offset) (indexes-at ds i d h) in
      rw (ea, number)
