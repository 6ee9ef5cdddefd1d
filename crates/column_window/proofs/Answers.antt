-- The numbers of the calls, and with them what is promised of each. Assumes nothing.
use Prim.Native.Nat.{ℕ, ◌≤◌, ◌<◌}
use native.Mathlib.Omega.{arith}
use mathlib.Core.Path.{◌≡◌, refl, sym, ap, ◌∙◌, subst}
use mathlib.Core.Bool.{Bool, true, false, cond}
use mathlib.Core.List.{List, ◌++◌}
use lib.ListN.{length, drop, length-map}
use lib.Dec.{T, ltb}
use lib.Ieee.{Float, binary32, fits, of_bits}
use borrow.Author.Tests.{ltb-true, ltb-false, lt-ltb, le-ltb, ne_eqb}
use Rattle.spec_laws.proofs.All.{and_left, and_right}
use Rattle.spec.specs.Single.{+0}
use Rattle.spec.specs.Outcome.{refused, given}
use Rattle.column_window.specs.Window.{Window, labels_most, span_ok, extent_ok, with, empty, added}
use Rattle.column_window.specs.Words.{window_words, span_word, count_word, place_word, pattern_of, opened_words, added_words, width_pattern, Ready}
use Rattle.column_window.specs.State.{Holds}
use Rattle.column_window.specs.declared.refusal.ColumnRefusal.{ColumnRefusal}
use Rattle.column_window.specs.declared.refusal.ColumnRefusal.TheVariants.{TooManyLabels, BadExtent, NoRoom, BadWindow}
use Rattle.column_window.specs.Refusal.{refusal_number}
use Rattle.column_window.specs.Called.{open_number, is_window, words_number, add_number, WindowOpened, ExtentAdded}
use Rattle.column_window.proofs.Extents.{kept_back, kept-extent}
use Rattle.column_window.proofs.Stored.{past-opened, past-added}
use Rattle.column_window.proofs.Held.{span-range, opened-holds, held-width, added-holds}

not-zero : {k : ℕ} → 0 < k → k ≡ 0 → ⊥
not-zero l e = omega arith

-- ---- `open_window`

pub opens-when : (b : List ℕ) (n : ℕ) → open_number b n ≡ 0 → (span_ok n ≡ true) × (window_words ≤ length b)
unfolding open_number
opens-when b n e = by (span_ok n) refl (ltb (length b) window_words) refl e
  where
    by : (t : Bool) → span_ok n ≡ t → (u : Bool) → ltb (length b) window_words ≡ u → ◌≡◌ {A = ℕ} (cond t (cond u 10 0) 19) 0 → (span_ok n ≡ true) × (window_words ≤ length b)
    by true p false q e = (p, ltb-false (length b) window_words q)
    by true p true q e = absurd (not-zero (omega arith) e)
    by false p u q e = absurd (not-zero (omega arith) e)

pub opened : (b : List ℕ) (s : ℕ) {a : List ℕ} → 0 ≡ open_number b s → a ≡ opened_words b s → WindowOpened b s 0 +0 a
opened b s e f =
    let m = opens-when b s (sym e) in record {
      number = e;
      zero = refl;
      untouched = λ l. absurd (not-zero l refl);
      words = λ q. f;
      past = ap (drop window_words) f ∙ past-opened b s;
      holds = λ q. subst (λ (l : List ℕ). Holds l (empty s)) (sym f) (opened-holds b s m.0 m.1);
    }

-- ---- `add_extent`

-- what a label that is accepted has, whatever the words
pub adds-when : (b : List ℕ) (x : Float) → add_number b x ≡ 0 → (extent_ok x ≡ true) × Ready b
unfolding add_number words_number is_window
adds-when b x e = by (extent_ok x) refl (ltb (count_word b) labels_most) refl (ltb (length b) window_words) refl (is_window b) refl e
  where
    ready : ltb (count_word b) labels_most ≡ true → ltb (length b) window_words ≡ false → is_window b ≡ true → Ready b
    ready p q r = record {
      room = ltb-false (length b) window_words q;
      span = (span-range (span_word b) (and_left (span_ok (span_word b)) (ltb (place_word b) (span_word b)) r)).1;
      place = ltb-true (place_word b) (span_word b) (and_right (span_ok (span_word b)) (ltb (place_word b) (span_word b)) r);
      count = ltb-true (count_word b) labels_most p;
    }

    by : (t : Bool) → extent_ok x ≡ t → (u : Bool) → ltb (count_word b) labels_most ≡ u → (v : Bool) → ltb (length b) window_words ≡ v → (s : Bool) → is_window b ≡ s
        → ◌≡◌ {A = ℕ} (cond t (cond u (cond v 10 (cond s 0 19)) 3) 4) 0 → (extent_ok x ≡ true) × Ready b
    by true p true q false r true s e = (p, ready q r s)
    by true p true q false r false s e = absurd (not-zero (omega arith) e)
    by true p true q true r t s e = absurd (not-zero (omega arith) e)
    by true p false q v r t s e = absurd (not-zero (omega arith) e)
    by false p u q v r t s e = absurd (not-zero (omega arith) e)

-- of words that hold a window the number is that of the definition
module _ (b : List ℕ) (x : Float) (w : Window) (h : Holds b w) where
  held-room : window_words ≤ length b
  held-room = let r = h.room in rw h.words (omega arith)

  held-count : count_word b ≡ length w.seen
  held-count = rw (h.words, h.seen) (sym (length-map (h.before ++ h.running) (of_bits binary32)))

  held-window : is_window b ≡ true
  unfolding is_window
  held-window = rw (h.words, h.span, lt-ltb (length h.running) w.span h.place) refl

  held_number : add_number b x ≡ cond (extent_ok x) (cond (ltb (length w.seen) labels_most) 0 3) 4
  unfolding add_number words_number
  held_number = rw (held-count, le-ltb (length b) window_words held-room, held-window) refl

  held-refused : 0 < add_number b x → added w x ≡ refused (add_number b x)
  unfolding added
  held-refused l = rw held_number (by (extent_ok x) (ltb (length w.seen) labels_most) (rw held_number at l))
    where
      by : (t u : Bool) → 0 < cond t (cond u 0 3) 4 → cond t (cond u (given (with w x)) (refused 3)) (refused 4) ≡ refused (cond t (cond u 0 3) 4)
      by true true l = absurd (not-zero l refl)
      by true false l = refl
      by false u l = refl

  held-given : add_number b x ≡ 0 → added w x ≡ given (with w x)
  unfolding added
  held-given e = by (extent_ok x) (ltb (length w.seen) labels_most) (sym held_number ∙ e)
    where
      by : (t u : Bool) → ◌≡◌ {A = ℕ} (cond t (cond u 0 3) 4) 0 → cond t (cond u (given (with w x)) (refused 3)) (refused 4) ≡ given (with w x)
      by true true e = refl
      by true false e = absurd (not-zero (omega arith) e)
      by false u e = absurd (not-zero (omega arith) e)

refusal_positive : (r : ColumnRefusal) → 0 < refusal_number r
refusal_positive TooManyLabels = omega arith
refusal_positive BadExtent = omega arith
refusal_positive NoRoom = omega arith
refusal_positive BadWindow = omega arith

pub not-added : (b : List ℕ) (x : Float) (r : ColumnRefusal) → refusal_number r ≡ add_number b x → ExtentAdded b x (refusal_number r) +0 b
not-added b x r e = record {
  number = e;
  zero = λ l. refl;
  untouched = λ l. refl;
  words = λ q. absurd (none q);
  shows = λ q. absurd (none q);
  past = refl;
  answer = λ w h. rw (as-refused w h, ne_eqb (refusal_number r) 0 none) refl;
  holds = λ w h. rw (as-refused w h) h;
}
  where
    none : refusal_number r ≡ 0 → ⊥
    none q = not-zero (refusal_positive r) q

    as-refused : (w : Window) → Holds b w → added w x ≡ refused (refusal_number r)
    as-refused w h = held-refused b x w h (rw (sym e) (refusal_positive r)) ∙ ap refused (sym e)

pub is-added : (b : List ℕ) (x : Float) {width : Float} {a : List ℕ} → T (fits binary32 x) → add_number b x ≡ 0 → a ≡ added_words b (pattern_of x)
    → width ≡ of_bits binary32 (width_pattern a) → ExtentAdded b x 0 width a
is-added b x {width} {a} k e f g = record {
  number = sym e;
  zero = λ l. absurd (not-zero l refl);
  untouched = λ l. absurd (not-zero l refl);
  words = λ q. f;
  shows = λ q. g;
  past = ap (drop window_words) f ∙ past-added b (pattern_of x) (adds-when b x e).1;
  answer = λ w h. rw (held-given b x w h e) (ap given (g ∙ held-width a (with w x) (more w h)));
  holds = λ w h. rw (held-given b x w h e) (more w h);
}
  where
    more : (w : Window) → Holds b w → Holds a (with w x)
    more w h = subst (λ (l : List ℕ). Holds l (with w x)) (sym f) (added-holds b w h x (pattern_of x) (kept_back x k) (kept-extent x k (adds-when b x e).0))
