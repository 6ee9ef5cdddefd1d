-- The search for a span's clusters: a turn of its loop, and that it marks what a look at all bytes of the span marks. Assumes nothing.
use Prim.Native.Nat.{ℕ, zero, suc, ◌+◌, ◌-◌, ◌/◌, ◌≤◌, ◌<◌}
use mathlib.Core.Path.{◌≡◌, refl, sym, ap, ap₂, subst, ◌∙◌}
use mathlib.Core.Logic.{◌⊎◌, inl, inr, ⊎_elim}
use mathlib.Core.List.{List, [], ◌∷◌}
use native.Mathlib.Omega.{arith}
use lib.ListN.{length, get_or, set, take, drop, length-set, length-drop}
use lib.Seq.{set_out}
use borrow.Author.Tests.{ne_eqb}
use Rattle.std.specs.Prelude.{Some, None}
use Rattle.std.specs.List.{slice_get}
use Rattle.spec.specs.Lists.{find_idx, All}
use Rattle.spec.specs.declared.Span.{Span}
use Rattle.spec_laws.proofs.All.{first, all-weaken}
use Rattle.sort.proofs.Cases.{in_order}
use Rattle.sort.proofs.Ascending.{Ascends, drop-ascends}
use Rattle.length_adjust.specs.Marks.{mark, below, place_for, found, own_keys, bytes_to}
use Rattle.length_adjust.proofs.Passed.{below-stop, below_on, none_below, not-below, own-ascends, own-from, own-before}
use Rattle.length_adjust.proofs.Firsts.{first_of, first-late, first-kept, up_from, found-firsts}

-- ---- one byte: what is left of it with the keys of later bytes

-- keys below b are passed
found-skip : (n b m : ℕ) {keys : List ℕ} → Ascends keys → found n (drop (below b keys) keys) b m ≡ found n keys b m
unfolding found
found-skip n b zero a = refl
found-skip n b (suc m) a = rw (none_below b (not-below b a))

bytes-skip : (b : ℕ) (keys : List ℕ) → bytes_to b (drop (below b keys) keys) ≡ bytes_to b keys
unfolding find_idx bytes_to
bytes-skip b [] = refl
bytes-skip b (key ∷ keys) =
    let more = bytes-skip b keys in
    in_order b (key / 65536) (λ h. rw (below-stop b key keys h)) (λ h. rw (below_on b key keys h, more) (omega arith))

-- there is none, or one less at the next byte
bytes_next : (b : ℕ) {keys : List ℕ} → All (λ key. b ≤ key / 65536) keys → ((bytes_to b keys ≡ 0) × (bytes_to (b + 1) keys ≡ 0)) ⊎ (bytes_to b keys ≡ suc (bytes_to (b + 1) keys))
unfolding bytes_to
bytes_next b All.none = inl (refl, refl)
bytes_next b (All.more h hs) = inr (⊎_elim (λ e. omega (arith, h, e)) (λ e. omega (arith, h, e)) (bytes_next b hs))

bytes-some : (b key : ℕ) {keys : List ℕ} → All (λ j. b ≤ j / 65536) (key ∷ keys) → bytes_to b (key ∷ keys) ≡ suc (bytes_to (b + 1) (key ∷ keys))
unfolding bytes_to
bytes-some b key l = ⊎_elim (λ e. absurd (omega (arith, first l, e.0))) (λ e. e) (bytes_next b l)

found_some : (n b key : ℕ) {keys : List ℕ} → All (λ j. b ≤ j / 65536) (key ∷ keys) → (m : ℕ) → found n (key ∷ keys) b (suc m) ≡ place_for n b (key ∷ []) ∷ found n (key ∷ keys) (b + 1) m
unfolding found place_for
found_some n b key l m = rw (none_below b l)

-- a turn at byte b, of the first key and the keys that it leaves
pub record Turned (n b key : ℕ) (keys left : List ℕ) : Type 0 where
  pub fewer : length left ≤ length keys
  pub ascends : Ascends left
  pub from : All (λ j. b + 1 ≤ j / 65536) left
  pub bytes : bytes_to b keys ≡ suc (bytes_to (b + 1) left)
  pub finds : found n keys b (bytes_to b keys) ≡ place_for n b (key ∷ []) ∷ found n left (b + 1) (bytes_to (b + 1) left)

next-turn : (n b : ℕ) {key : ℕ} {later : List ℕ} → Ascends (key ∷ later) → All (λ j. b ≤ j / 65536) (key ∷ later)
    → Turned n b key (key ∷ later) (drop (below (b + 1) (key ∷ later)) (key ∷ later))
next-turn n b {key} {later} a l =
    let keys = key ∷ later in
    let left = drop (below (b + 1) keys) keys in
    let bytes : bytes_to b keys ≡ suc (bytes_to (b + 1) left) = bytes-some b key l ∙ ap suc (sym (bytes-skip (b + 1) keys)) in
    let m = bytes_to (b + 1) left in
    record {
      fewer = rw length-drop (omega arith);
      ascends = drop-ascends (below (b + 1) keys) a;
      from = not-below (b + 1) a;
      bytes = bytes;
      finds = ap (found n keys b) bytes ∙ found_some n b key l m ∙ ap {B = List ℕ} (λ r. place_for n b (key ∷ []) ∷ r) (sym (found-skip n (b + 1) m a));
    }

begins : (keys : List ℕ) {key : ℕ} → Some key ≡ slice_get keys 0 → keys ≡ key ∷ drop 1 keys
begins [] e = absurd (let z : ◌≡◌ {A = ℕ} 0 1 = cc in omega arith)
begins (k ∷ ks) e = cc

pub none-left : (keys : List ℕ) → None ≡ slice_get keys 0 → keys ≡ []
none-left [] e = refl
none-left (k ∷ ks) e = absurd (let z : ◌≡◌ {A = ℕ} 0 1 = cc in omega arith)

pub turn : (n b : ℕ) {key : ℕ} {keys left : List ℕ} → Some key ≡ slice_get keys 0 → Ascends keys → All (λ j. b ≤ j / 65536) keys → left ≡ drop (below (b + 1) keys) keys
    → Turned n b key keys left
turn n b {key} {keys} {left} e a l q =
    let f = begins keys e in
    rw q (subst (λ (ks : List ℕ). Turned n b key ks (drop (below (b + 1) ks) ks)) (sym f) (next-turn n b (subst Ascends f a) (subst (All (λ j. b ≤ j / 65536)) f l)))

bytes_most : (b e : ℕ) {keys : List ℕ} → All (λ key. key / 65536 < e) keys → bytes_to b keys ≤ e - b
unfolding bytes_to
bytes_most b e All.none = omega arith
bytes_most b e (All.more h hs) = omega (arith, h, bytes_most b e hs)

all-fit : (keys : List ℕ) → ((i : ℕ) → get_or keys i 0 < 4294967296) → All (λ key. key / 65536 < 65536) keys
all-fit [] h = All.none
all-fit (key ∷ keys) h = let first-fits = h 0 in All.more (omega arith) (all-fit keys (λ i. h (suc i)))

pub bytes-few : (b : ℕ) (keys : List ℕ) → ((i : ℕ) → get_or keys i 0 < 4294967296) → bytes_to b keys ≤ 65536 - b
bytes-few b keys h = bytes_most b 65536 (all-fit keys h)

-- a key that is left is a byte that is left
pub bytes-left : {b : ℕ} (keys : List ℕ) {key : ℕ} → Some key ≡ slice_get keys 0 → All (λ j. b ≤ j / 65536) keys → 0 < bytes_to b keys
bytes-left {b} keys {key} e l = omega (arith, ap (bytes_to b) (begins keys e) ∙ bytes-some b key (subst (All (λ j. b ≤ j / 65536)) (begins keys e) l))

-- the first key is not below b, and where its byte index is another, none is passed
not-past : {b : ℕ} (keys : List ℕ) {key : ℕ} → Some key ≡ slice_get keys 0 → All (λ j. b ≤ j / 65536) keys → b ≤ key / 65536
not-past {b} keys e l = first (subst (All (λ j. b ≤ j / 65536)) (begins keys e) l)

pub stays : (b : ℕ) (keys : List ℕ) {key : ℕ} → Some key ≡ slice_get keys 0 → All (λ j. b ≤ j / 65536) keys → (key / 65536 ≡ b → ⊥)
    → drop (below (b + 1) keys) keys ≡ keys
stays b keys {key} e l apart =
    let f = begins keys e in
    let past = not-past keys e l in
    ap (λ (k : ℕ). drop k keys) (ap (below (b + 1)) f ∙ below-stop (b + 1) key (drop 1 keys) (in_order (b + 1) (key / 65536) (λ h. h) (λ h. absurd (apart (omega arith)))))

-- ---- all bytes of a span: those behind its last cluster mark nothing

mark-length : (ms ps : List ℕ) → length (mark ms ps) ≡ length ms
mark-length ms [] = refl
mark-length ms (p ∷ ps) = mark-length (set ms p 1) ps ∙ length-set ms p 1

up_same : (f g : ℕ → ℕ) (b m : ℕ) → ((c : ℕ) → b ≤ c → c < b + m → f c ≡ g c) → up_from f b m ≡ up_from g b m
up_same f g b zero h = refl
up_same f g b (suc m) h = ap₂ {C = List ℕ} (λ x xs. x ∷ xs) (h b (omega arith) (omega arith)) (up_same f g (b + 1) m (λ c l r. h c (omega arith) (omega arith)))

mark-split : (f : ℕ → ℕ) (ms : List ℕ) (b m q : ℕ) → mark ms (up_from f b (m + q)) ≡ mark (mark ms (up_from f b m)) (up_from f (b + m) q)
mark-split f ms b zero q = let e : 0 + q ≡ q = omega arith in let d : b + 0 ≡ b = omega arith in rw (e, d)
mark-split f ms b (suc m) q =
    let e : suc m + q ≡ suc (m + q) = omega arith in
    let d : b + suc m ≡ b + 1 + m = omega arith in
    rw (e, d) (mark-split f (set ms (f b) 1) (b + 1) m q)

mark-none : (f : ℕ → ℕ) (ms : List ℕ) (b m : ℕ) → ((c : ℕ) → b ≤ c → c < b + m → f c ≡ length ms) → mark ms (up_from f b m) ≡ ms
mark-none f ms b zero h = refl
mark-none f ms b (suc m) h =
    rw (h b (omega arith) (omega arith), set_out ms (length ms) 1 (omega arith)) (mark-none f ms (b + 1) m (λ c l r. h c (omega arith) (omega arith)))

module _ (n c : ℕ) where
  first-take : (e : ℕ) → c < e → {keys : List ℕ} → Ascends keys → first_of n c (take (below e keys) keys) ≡ first_of n c keys
  unfolding find_idx first_of
  first-take e g Ascends.end = refl
  first-take e g (Ascends.step {k = key} l a) =
      let more = first-take e g a in
      in_order e (key / 65536)
      (λ h. rw (below-stop e key _ h) (sym (first-late n c (All.more {x = key} (omega arith) (all-weaken (λ j p. omega arith) l)))))
      (λ h. rw (below_on e key _ h, more))

  first_past : (b : ℕ) {keys : List ℕ} → All (λ key. b ≤ key / 65536) keys → b + bytes_to b keys ≤ c → first_of n c keys ≡ n
  unfolding bytes_to first_of
  first_past b All.none g = refl
  first_past b (All.more {x = key} h hs) g = rw (ne_eqb (key / 65536) c (λ e. omega (arith, h, g, e))) (first_past b hs (omega (arith, g)))

module _ (n : ℕ) (s : Span) {keys : List ℕ} (a : Ascends keys) where
  -- the first cluster of a byte index, among the span's own keys and among all
  abbrev own_first : ℕ → ℕ
  own_first c = first_of n c (own_keys s keys)

  abbrev any_first : ℕ → ℕ
  any_first c = first_of n c keys

  abbrev looked : ℕ
  looked = bytes_to s.start (own_keys s keys)

  looked-most : looked ≤ s.end - s.start
  looked-most = bytes_most s.start s.end (own-before s a)

  same_first : (c : ℕ) → s.start ≤ c → c < s.end → own_first c ≡ any_first c
  same_first c h g = first-take n c s.end g (drop-ascends (below s.start keys) a) ∙ first-kept n s.start c h keys

  no-first : (c : ℕ) → s.start + looked ≤ c → c < s.end → any_first c ≡ n
  no-first c h g = sym (same_first c (omega (arith, h)) g) ∙ first_past n c s.start (own-from s a) h

  found-own : found n (own_keys s keys) s.start looked ≡ up_from any_first s.start looked
  found-own =
      found-firsts n own_first looked s.start (own-ascends s a) (λ c g. refl)
      ∙ up_same own_first any_first s.start looked (λ c l g. same_first c l (omega (arith, looked-most, g)))

  pub search-marks : (ms : List ℕ) → length ms ≡ n
      → mark ms (found n (own_keys s keys) s.start looked) ≡ mark ms (found n keys s.start (s.end - s.start))
  search-marks ms e =
      let q = s.end - s.start - looked in
      let all : looked + q ≡ s.end - s.start = omega (arith, looked-most) in
      let done = mark ms (up_from any_first s.start looked) in
      let nothing : mark done (up_from any_first (s.start + looked) q) ≡ done =
      mark-none any_first done (s.start + looked) q (λ c l g. no-first c l (omega (arith, looked-most, g)) ∙ sym (mark-length ms (up_from any_first s.start looked) ∙ e)) in
      ap (mark ms) found-own ∙ sym nothing ∙ sym (mark-split any_first ms s.start looked q) ∙ ap (λ (m : ℕ). mark ms (up_from any_first s.start m)) all
      ∙ ap (mark ms) (sym (found-firsts n any_first (s.end - s.start) s.start a (λ c g. refl)))
