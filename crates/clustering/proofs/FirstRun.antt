-- The runs of a merged list: how long the first of them is, and what is behind it. Assumes nothing.
use Prim.Native.Nat.{ℕ, suc, ◌<◌}
use mathlib.Core.Path.{◌≡◌, refl, sym, ap}
use mathlib.Core.Bool.{Bool, true, false, not}
use mathlib.Core.List.{List, [], ◌∷◌}
use native.Mathlib.Omega.{arith}
use lib.ListN.{length, get_or, take, drop}
use lib.Seq.{length-take-le}
use lib.Dec.{eqb}
use borrow.Author.Tests.{eqb-true, eqb-false, eq-eqb, ne_eqb}
use Rattle.spec.specs.declared.Glyph.{Glyph}
use Rattle.spec.specs.Lists.{find_idx}
use Rattle.spec.specs.Group.{join_run, glyph_runs}
use Rattle.spec_laws.proofs.Search.{find-le}

-- a glyph of another byte index
abbrev pub other : ℕ → Glyph → Bool
other index g = not (eqb g.index index)

-- how many glyphs join g
abbrev joining : Glyph → List Glyph → ℕ
joining g gs = find_idx (other g.index) gs

abbrev FirstRun : Glyph → List Glyph → Type 0
FirstRun g gs = glyph_runs (g ∷ gs) ≡ (g ∷ take (joining g gs) gs) ∷ glyph_runs (drop (joining g gs) gs)

run-joined : (g h : Glyph) (hs : List Glyph) (b : Bool) → eqb g.index h.index ≡ b → FirstRun h hs → FirstRun g (h ∷ hs)
unfolding glyph_runs join_run find_idx
run-joined g h hs true e f =
    let i = eqb-true g.index h.index e in
    let run = (λ (j : ℕ). (g ∷ h ∷ take (find_idx (other j) hs) hs) ∷ glyph_runs (drop (find_idx (other j) hs) hs)) in
    rw (f, e, eq-eqb h.index g.index (sym i)) (ap {B = List (List Glyph)} run (sym i))
run-joined g h hs false e f =
    let i = ne_eqb h.index g.index (λ j. eqb-false g.index h.index e (sym j)) in
    rw (f, e, i) (ap {B = List (List Glyph)} (λ r. (g ∷ []) ∷ r) (sym f))

first_run : (g : Glyph) (gs : List Glyph) → FirstRun g gs
unfolding glyph_runs join_run find_idx
first_run g [] = refl
first_run g (h ∷ hs) = run-joined g h hs (eqb g.index h.index) refl (first_run h hs)

-- how long it is
abbrev pub run_length : List Glyph → ℕ
run_length gs = length (get_or (glyph_runs gs) 0 [])

first-length : (g : Glyph) (gs : List Glyph) → run_length (g ∷ gs) ≡ suc (joining g gs)
first-length g gs = rw (first_run g gs) (ap suc (length-take-le (joining g gs) gs (find-le (other g.index) gs)))

pub runs-split : {g : Glyph} {gs rest : List Glyph} (m : ℕ) → gs ≡ g ∷ rest → m ≡ run_length gs → glyph_runs gs ≡ take m gs ∷ glyph_runs (drop m gs)
runs-split {g} {gs} {rest} m e h = rw (h, e, first-length g rest) (first_run g rest)

-- a search for another byte index finds how long it is
pub run-search : {g : Glyph} {gs rest : List Glyph} (index : ℕ) → gs ≡ g ∷ rest → index ≡ g.index → find_idx (other index) gs ≡ run_length gs
unfolding find_idx
run-search {g} {gs} {rest} index e h = rw (e, eq-eqb g.index index (sym h), first-length g rest) (ap (λ (i : ℕ). suc (find_idx (other i) rest)) h)

pub run_some : {g : Glyph} {gs rest : List Glyph} → gs ≡ g ∷ rest → 0 < run_length gs
run_some {g} {gs} {rest} e = rw e (omega (arith, first-length g rest))
