-- What a host does with an answer's rows: the transforms that document 01 says of them, as steps. They are composed from the identity in this order.
-- Definitions only.
use Rattle.std.specs.Prelude.{ℕ, ◌/◌, ◌%◌, Bool, cond, List, [], ◌∷◌, ◌++◌, eqb, Float}
use Rattle.std.specs.Float.Ieee.{neg}
use Rattle.spec.specs.Single.{+0, of_nat}
use Rattle.spec.specs.Job.{top_to_bottom}
use Rattle.spec.specs.Answer.{ClusterRow, SpanRow}

-- angles are in degrees
pub data Step : Type 0 where
  translate : Float → Float → Step
  scale : Float → Float → Step
  rotate : Float → Step
  rotate_about : Float → Float → Float → Step

-- the row has the flag
abbrev pub flagged : ClusterRow → ℕ → Bool
flagged c flag = eqb (c.flags / flag % 2) 1

-- a span's: top to bottom it is turned by 90 about its origin; its baseline is shifted
unfoldable pub span_steps : ℕ → SpanRow → List Step
span_steps mode s =
    cond (eqb mode top_to_bottom) (rotate_about (of_nat 90) s.x s.y ∷ []) []
    ++ (translate s.x s.y ∷ translate +0 s.baseline ∷ [])

-- a cluster's, and so a run's, by its first cluster
unfoldable pub steps_of : ClusterRow → List Step
steps_of c =
    cond (flagged c 4) (translate +0 c.nudge ∷ []) []
    ++ (cond (flagged c 8) (scale c.scale (of_nat 1) ∷ []) []
    ++ (translate c.x c.y
    ∷ cond (flagged c 16) (rotate c.angle ∷ []) []))

-- `path_transform`, which the glyphs of an upright cluster have besides, and a run has not
unfoldable pub path_steps : ClusterRow → List Step
path_steps c = cond (flagged c 2) (translate +0 c.nudge ∷ rotate_about (neg (of_nat 90)) c.ascent (neg c.nudge) ∷ []) []

-- the glyphs of a cluster
unfoldable pub glyph_steps : ClusterRow → List Step
glyph_steps c = steps_of c ++ path_steps c
