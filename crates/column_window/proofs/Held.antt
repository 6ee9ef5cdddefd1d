-- Words that hold a window show its width, and hold it with one label more after a call. Assumes nothing.
use Prim.Native.Nat.{ℕ, ◌+◌, ◌-◌, ◌≤◌, ◌<◌, max}
use native.Mathlib.Omega.{arith}
use mathlib.Core.Path.{◌≡◌, refl, sym, ap, ◌∙◌, subst}
use mathlib.Core.Bool.{Bool, true, false}
use mathlib.Core.List.{List, [], ◌∷◌, ◌++◌, map, append_assoc, append-nil, map-append}
use lib.ListN.{length, drop, set, replicate, length-append, length-set, get_or-replicate, get_or-append}
use lib.Seq.{drop-nil, set-append_seam, get_or-append-add, get_or-drop, take_at, drop_at}
use lib.Dec.{leb, ltb}
use lib.Ieee.{Float, binary32, of_bits}
use borrow.Author.Tests.{leb-true, ltb-true, ltb-false, lt-ltb, le-ltb}
use Rattle.spec_laws.proofs.All.{and_left, and_right}
use Rattle.spec.specs.Lists.{all}
use Rattle.column_window.specs.Window.{Window, span_ok, span_max, plain, widest, last_of, width_of, with, empty}
use Rattle.column_window.specs.Words.{highest, tails, window_words, opened_words, added_words, width_pattern}
use Rattle.column_window.specs.State.{is_extent, Holds}
use Rattle.column_window.proofs.Highest.{highest-append, highest-snoc, length-tails, get_d-tails}
use Rattle.column_window.proofs.Widest.{widest-pattern, last-append, last_within, last-drop, map_last, all-last, all_snoc}

-- a span that passes
pub span-range : (n : ℕ) → span_ok n ≡ true → (1 ≤ n) × (n ≤ 64)
unfolding span_ok
span-range n e = (leb-true 1 n (and_left (leb 1 n) (leb n 64) e), leb-true n 64 (and_right (leb 1 n) (leb n 64) e))

-- ---- an empty window

nothing : (k : ℕ) → 0 ≡ highest (last_of k [])
unfolding highest last_of
nothing k = rw (drop-nil {A = ℕ} (0 - k)) refl

pub opened-holds : (b : List ℕ) (n : ℕ) → span_ok n ≡ true → window_words ≤ length b → Holds (opened_words b n) (empty n)
unfolding opened_words highest all
opened-holds b n ok room = record {
  before = [];
  running = [];
  behind = replicate 64 0 ++ drop window_words b;
  words = refl;
  room = simp length-append (omega arith);
  span = ok;
  place = (span-range n ok).0;
  seen = refl;
  extents = refl;
  tails = λ i h.
      let l = (span-range n ok).1 in
      get_or-append (replicate 64 0) (drop window_words b) 0 i (omega arith) ∙ get_or-replicate 64 i 0 0 (omega arith) ∙ nothing (n - (0 + i));
}

-- ---- the width

module _ (b : List ℕ) (w : Window) (h : Holds b w) where
  abbrev n : ℕ
  n = w.span

  abbrev before : List ℕ
  before = h.before

  abbrev running : List ℕ
  running = h.running

  shown-pattern : width_pattern b ≡ highest (last_of n (before ++ running))
  unfolding width_pattern
  shown-pattern =
      let z : length running + 0 ≡ length running = omega arith in
      let p = h.place in
      let t = get_or-append-add running h.behind 0 0 ∙ h.tails 0 (omega arith) in
      ap width_pattern h.words ∙ ap (λ (k : ℕ). max k (highest running)) (rw z at t)
      ∙ sym (highest-append (last_of (n - length running) before) running) ∙ ap highest (sym (last-append n before running (omega arith)))

  pub held-width : of_bits binary32 (width_pattern b) ≡ width_of w
  unfolding width_of
  held-width =
      ap (of_bits binary32) shown-pattern ∙ sym (widest-pattern (last_of n (before ++ running)) (all-last is_extent n (before ++ running) h.extents))
      ∙ ap widest (map_last (of_bits binary32) n (before ++ running) ∙ ap (last_of n) (sym h.seen))

-- ---- one label more: its pattern x is put behind the running labels

never-full : {k : ℕ} → k < k → ⊥
never-full h = omega arith

put-running : (r s : List ℕ) (x : ℕ) → length r < length (r ++ s) → set (r ++ s) (length r) x ≡ (r ++ (x ∷ [])) ++ drop 1 s
put-running r [] x h = absurd (never-full (subst (λ (l : List ℕ). length r < length l) (append-nil r) h))
put-running r (y ∷ s) x h = set-append_seam r y s x ∙ sym (append_assoc r (x ∷ []) s)

module _ (b : List ℕ) (w : Window) (h : Holds b w) (e : Float) (x : ℕ) (is : of_bits binary32 x ≡ plain e) (ok : is_extent x ≡ true) where
  abbrev block : List ℕ
  block = h.running ++ (x ∷ [])

  abbrev rest : List ℕ
  rest = drop 1 h.behind

  block-length : length block ≡ length h.running + 1
  block-length = length-append h.running (x ∷ [])

  put : set (h.running ++ h.behind) (length h.running) x ≡ block ++ rest
  put = let r = h.room in let p = h.place in let l = (span-range w.span h.span).1 in put-running h.running h.behind x (omega arith)

  put-room : span_max ≤ length (block ++ rest)
  put-room = rw (ap length (sym put) ∙ length-set (h.running ++ h.behind) (length h.running) x) h.room

  all_more : h.before ++ block ≡ (h.before ++ h.running) ++ (x ∷ [])
  all_more = sym (append_assoc h.before h.running (x ∷ []))

  count-more : length (h.before ++ h.running) + 1 ≡ length (h.before ++ block)
  count-more = sym (length-append (h.before ++ h.running) (x ∷ [])) ∙ ap length (sym all_more)

  seen_more : w.seen ++ (plain e ∷ []) ≡ map (of_bits binary32) (h.before ++ block)
  seen_more =
      ap (λ (l : List Float). l ++ (plain e ∷ [])) h.seen ∙ ap (λ (z : Float). map (of_bits binary32) (h.before ++ h.running) ++ (z ∷ [])) (sym is)
      ∙ sym (map-append (of_bits binary32) (h.before ++ h.running) (x ∷ [])) ∙ ap (map (of_bits binary32)) (sym all_more)

  extents-more : all is_extent (h.before ++ block) ≡ true
  extents-more = rw all_more (all_snoc is_extent (h.before ++ h.running) x h.extents ok)

  -- within the block
  within-holds : length h.running + 1 < w.span → Holds (added_words b x) (with w e)
  unfolding added_words
  within-holds more = record {
    before = h.before;
    running = block;
    behind = rest;
    words =
        rw (h.words, lt-ltb (length h.running + 1) w.span more)
        (let c = count-more in let l = block-length in let m = highest-snoc h.running x in let q = put in cc);
    room = put-room;
    span = h.span;
    place = rw block-length more;
    seen = seen_more;
    extents = extents-more;
    tails = λ i l.
        let n = block-length in
        let k : length h.running + (1 + i) ≡ length block + i = omega arith in
        get_or-drop 1 h.behind i 0 ∙ (rw k at (h.tails (1 + i) (omega arith)));
  }

  last_block : (i : ℕ) → length block ≡ w.span → i < w.span → last_of (w.span - (0 + i)) (h.before ++ block) ≡ drop i block
  last_block i n l =
      let k : 0 + i ≡ i = omega arith in
      rw k (last_within (w.span - i) h.before block (omega arith) ∙ last-drop w.span i block n (omega arith))

  -- at its end
  filled-holds : length h.running + 1 ≡ w.span → Holds (added_words b x) (with w e)
  unfolding added_words highest
  filled-holds last =
      let n : length block ≡ w.span = block-length ∙ last in
      let t : length (tails block) ≡ w.span = length-tails block ∙ n in
      let r = put-room in record {
        before = h.before ++ block;
        running = [];
        behind = tails block ++ rest;
        words =
            rw (h.words, le-ltb (length h.running + 1) w.span (omega arith), put, take_at block rest w.span n, drop_at block rest w.span n, append-nil (h.before ++ block))
            (let c = count-more in cc);
        room = let l = length-append block rest in let m = length-append (tails block) rest in omega arith;
        span = h.span;
        place = (span-range w.span h.span).0;
        seen = rw (append-nil (h.before ++ block)) seen_more;
        extents = rw (append-nil (h.before ++ block)) extents-more;
        tails = λ i l. get_or-append (tails block) rest 0 i (omega arith) ∙ get_d-tails block i ∙ ap highest (sym (last_block i n (omega arith)));
      }

  pub added-holds : Holds (added_words b x) (with w e)
  added-holds = by (ltb (length h.running + 1) w.span) refl
    where
      by : (t : Bool) → ltb (length h.running + 1) w.span ≡ t → Holds (added_words b x) (with w e)
      by true p = within-holds (ltb-true (length h.running + 1) w.span p)
      by false p = let l = ltb-false (length h.running + 1) w.span p in let m = h.place in filled-holds (omega arith)
