-- Numbers, and clusters that have such numbers, as the steps use them. The rules of steps 2 and 4 to 7 are written once, over any arithmetic, and taken
-- twice: over `rounded` (Cluster), demand 2's floats, and over `exact` (Exact), demand 3's fractions. Definitions only.
use Rattle.std.specs.Prelude.{ℕ, Bool, cond, ℤ, Float}
use mathlib.Core.List.{List, map, foldl}
use Rattle.spec.specs.Job.{Font, Glyph, font_at}

pub record Arithmetic : Type 1 where
  -- The numbers. of_float: a float of the job; times: a whole number times a number; _⊘_: divided by a whole number above 0
  pub Num : Type 0
  pub of_float : Float → Num
  pub zero : Num
  pub times : ℤ → Num → Num
  pub ◌⊕◌ : Num → Num → Num
  pub ◌⊖◌ : Num → Num → Num
  pub ◌⊘◌ : Num → ℕ → Num
  pub halved : Num → Num
  pub minus : Num → Num
  pub less : Num → Num → Bool
  -- A cluster with such numbers: what the steps read of it (index: byte index; span: the place of its covering span; spacing: length
  -- spacing; x and y: its shift),
  pub Cluster : Type 0
  pub index : Cluster → ℕ
  pub tag : Cluster → ℕ
  pub span : Cluster → ℕ
  pub width : Cluster → Num
  pub advance : Cluster → Num
  pub spacing : Cluster → Num
  pub x : Cluster → Num
  pub y : Cluster → Num
  -- and what they set: the advance; the advance and the length spacing; the shift
  pub with_advance : Num → Cluster → Cluster
  pub with_spacing : Num → Num → Cluster → Cluster
  pub with_shift : Num → Num → Cluster → Cluster
  -- The one choice that is not exact: step 4 clears the cluster, once its letter spacing is added. Width and advance become 0
  pub collapses : Cluster → Bool
  pub collapse : Cluster → Cluster

module _ (K : Arithmetic) where
  open K use {Num, of_float, zero, times, ◌⊕◌, ◌⊘◌, less, Cluster, index}

  infixl 75 ◌⊕◌
  infixl 80 ◌⊘◌
  -- the smaller and the larger of two, the first where they are equal
  abbrev pub least : Num → Num → Num
  least a b = cond (less b a) b a

  abbrev pub greatest : Num → Num → Num
  greatest a b = cond (less a b) b a

  abbrev pub indexes : List Cluster → List ℕ
  indexes cs = map index cs

  -- ---- step 2

  -- z font units at a font size: z times (size ÷ units per em)
  abbrev pub measure : Font → Float → ℤ → Num
  measure f size z = times z (of_float size ⊘ f.units)

  abbrev pub glyph_advance : List Font → Float → Glyph → Num
  glyph_advance fonts size g = measure (font_at fonts g.font) size g.width

  -- a cluster's advance is the sum of its glyphs' advances
  unfoldable pub sum_advance : List Font → Float → List Glyph → Num
  sum_advance fonts size gs = foldl (λ (a : Num) (g : Glyph). a ⊕ glyph_advance fonts size g) zero gs

  -- its width the largest of them, at least 0
  unfoldable pub max_advance : List Font → Float → List Glyph → Num
  max_advance fonts size gs = foldl (λ (w : Num) (g : Glyph). greatest w (glyph_advance fonts size g)) zero gs
