-- Who scrolls from any place sees the widths of who scrolled from the top. Assumes nothing.
use Prim.Native.Nat.{ℕ, zero, suc, ◌+◌, ◌≤◌, ◌<◌}
use native.Mathlib.Nat.{zero-add, suc-add}
use native.Mathlib.Omega.{arith}
use mathlib.Core.Path.{◌≡◌, refl, sym, ap, ◌∙◌}
use mathlib.Core.Bool.{Bool, true, false}
use mathlib.Core.List.{List, [], ◌∷◌, ◌++◌, append_assoc, append-nil}
use lib.ListN.{length, take, get_or, length-append}
use lib.Dec.{ltb}
use lib.Ieee.{Float}
use borrow.Author.Tests.{ltb-true, ltb-false, lt-ltb, le-ltb}
use Rattle.spec.specs.Outcome.{Outcome, refused, given}
use Rattle.column_window.specs.Window.{Window, labels_most, extent_ok, plain, widest, width_of, with, empty, added}
use Rattle.column_window.specs.Scroll.{after, answers, scroll, accepted, SameWidths}
use Rattle.column_window.proofs.Widest.{last_within}

never-given : {k : ℕ} {a : Float} → ◌≡◌ {A = Outcome Float} (refused k) (given a) → ⊥
never-given e = let z : ◌≡◌ {A = ℕ} 0 1 = cc in omega arith

same-given : {a b : Float} → ◌≡◌ {A = Outcome Float} (given a) (given b) → a ≡ b
same-given e = cc

-- ---- how a label goes

added-bad : (w : Window) (x : Float) → extent_ok x ≡ false → added w x ≡ refused 4
unfolding added
added-bad w x e = rw e refl

added_full : (w : Window) (x : Float) → extent_ok x ≡ true → labels_most ≤ length w.seen → added w x ≡ refused 3
unfolding added
added_full w x e h = rw (e, le-ltb (length w.seen) labels_most h) refl

added-fits : (w : Window) (x : Float) → extent_ok x ≡ true → length w.seen < labels_most → added w x ≡ given (with w x)
unfolding added
added-fits w x e h = rw (e, lt-ltb (length w.seen) labels_most h) refl

data Goes (w : Window) (x : Float) : Type 0 where
  bad : extent_ok x ≡ false → Goes w x
  full : extent_ok x ≡ true → labels_most ≤ length w.seen → Goes w x
  fits : extent_ok x ≡ true → length w.seen < labels_most → Goes w x

goes : (w : Window) (x : Float) → Goes w x
goes w x = by (extent_ok x) refl (ltb (length w.seen) labels_most) refl
  where
    by : (t : Bool) → extent_ok x ≡ t → (u : Bool) → ltb (length w.seen) labels_most ≡ u → Goes w x
    by false p u q = Goes.bad p
    by true p false q = Goes.full p (ltb-false (length w.seen) labels_most q)
    by true p true q = Goes.fits p (ltb-true (length w.seen) labels_most q)

-- a window that has accepted as many as it may accepts no other
none_more : (zs : List Float) (w : Window) → labels_most ≤ length w.seen → (i : ℕ) {a : Float} → get_or (answers w zs) i (refused 0) ≡ given a → ⊥
none_more [] w h i e = never-given e
none_more (z ∷ zs) w h i {a} e = by (λ j. none_more zs w h j) (goes w z) i e
  where
    over : {n m : ℕ} → m ≤ n → n < m → ⊥
    over h l = omega arith

    by : ((j : ℕ) → get_or (answers w zs) j (refused 0) ≡ given a → ⊥) → Goes w z → (i : ℕ) → get_or (answers w (z ∷ zs)) i (refused 0) ≡ given a → ⊥
    by next (Goes.bad p) zero e = never-given (rw (added-bad w z p) at e)
    by next (Goes.bad p) (suc j) e = next j (rw (added-bad w z p) at e)
    by next (Goes.full p l) zero e = never-given (rw (added_full w z p l) at e)
    by next (Goes.full p l) (suc j) e = next j (rw (added_full w z p l) at e)
    by next (Goes.fits p l) i e = over h l

-- ---- two windows, of which the one has accepted what the other has, and `p` before it

same_width : (u v : Window) (p : List Float) → u.span ≡ v.span → u.seen ≡ p ++ v.seen → v.span ≤ length v.seen → width_of u ≡ width_of v
unfolding width_of
same_width u v p s e h = ap widest (rw (s, e) (last_within v.span p v.seen h))

abbrev SameFrom : List Float → Window → Window → Type 0
SameFrom zs u v = (i : ℕ) (a b : Float) → get_or (answers u zs) i (refused 0) ≡ given a → get_or (answers v zs) i (refused 0) ≡ given b
    → v.span ≤ length v.seen + accepted (take (suc i) (answers v zs)) → a ≡ b

abbrev Follows : List Float → Type 0
Follows zs = (u v : Window) (p : List Float) → u.span ≡ v.span → u.seen ≡ p ++ v.seen → SameFrom zs u v

module _ (z : Float) (zs : List Float) (next : Follows zs) (u v : Window) (p : List Float) (s : u.span ≡ v.span) (e : u.seen ≡ p ++ v.seen) where
  more : (with u z).seen ≡ p ++ (with v z).seen
  more = ap (λ (l : List Float). l ++ (plain z ∷ [])) e ∙ append_assoc p v.seen (plain z ∷ [])

  longer : length (with v z).seen ≡ length v.seen + 1
  longer = length-append v.seen (plain z ∷ [])

  few : length u.seen < labels_most → length v.seen < labels_most
  few l = let k = ap length e ∙ length-append p v.seen in omega arith

  step : Goes u z → SameFrom (z ∷ zs) u v
  step (Goes.bad q) zero a b f g h = absurd (never-given (rw (added-bad u z q) at f))
  step (Goes.bad q) (suc j) a b f g h = next u v p s e j a b (rw (added-bad u z q) at f) (rw (added-bad v z q) at g) (rw (added-bad v z q) at h)
  step (Goes.full q l) i a b f g h = absurd (none_more (z ∷ zs) u l i f)
  step (Goes.fits q l) zero a b f g h =
      let y = added-fits v z q (few l) in
      let k = longer in
      let r : v.span ≤ length v.seen + 1 = rw y at h in
      sym (same-given (rw (added-fits u z q l) at f)) ∙ same_width (with u z) (with v z) p s more (omega arith) ∙ same-given (rw y at g)
  step (Goes.fits q l) (suc j) a b f g h =
      let y = added-fits v z q (few l) in
      let k = longer in
      let r : v.span ≤ length v.seen + suc (accepted (take (suc j) (answers (with v z) zs))) = rw y at h in
      next (with u z) (with v z) p s more j a b (rw (added-fits u z q l) at f) (rw y at g) (omega arith)

follows : (zs : List Float) → Follows zs
follows [] u v p s e = λ i a b f g h. absurd (never-given f)
follows (z ∷ zs) u v p s e = step z zs (follows zs) u v p s e (goes u z)

-- ---- the labels before

abbrev past : Window → List Float → Window
past w [] = w
past w (y ∷ ys) = past (after w (added w y)) ys

span-after : (w : Window) (x : Float) → (after w (added w x)).span ≡ w.span
span-after w x = by (goes w x)
  where
    by : Goes w x → (after w (added w x)).span ≡ w.span
    by (Goes.bad p) = rw (added-bad w x p) refl
    by (Goes.full p l) = rw (added_full w x p l) refl
    by (Goes.fits p l) = rw (added-fits w x p l) refl

span-past : (w : Window) (ys : List Float) → (past w ys).span ≡ w.span
span-past w [] = refl
span-past w (y ∷ ys) = span-past (after w (added w y)) ys ∙ span-after w y

answers-past : (w : Window) (ys zs : List Float) (i : ℕ) → get_or (answers w (ys ++ zs)) (length ys + i) (refused 0) ≡ get_or (answers (past w ys) zs) i (refused 0)
answers-past w [] zs i = rw (zero-add i) refl
answers-past w (y ∷ ys) zs i = rw (suc-add (length ys) i) (answers-past (after w (added w y)) ys zs i)

-- zs are the labels from the place on, ys those before it
pub scrolling : (n : ℕ) (ys zs : List Float) → SameWidths n (length ys) (scroll n (ys ++ zs)) (scroll n zs)
scrolling n ys zs i a b f g h =
    let top = past (empty n) ys in
    follows zs top (empty n) top.seen (span-past (empty n) ys) (sym (append-nil top.seen)) i a b (sym (answers-past (empty n) ys zs i) ∙ f) g
    (rw (zero-add (accepted (take (suc i) (scroll n zs)))) h)
