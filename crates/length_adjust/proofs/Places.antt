-- The range in which keys have their places: the marks that a search sets are all there. Assumes nothing.
use Prim.Native.Nat.{ℕ, zero, suc, ◌+◌, ◌-◌, ◌/◌, ◌%◌, ◌≤◌, ◌<◌, min, max}
use mathlib.Core.Path.{◌≡◌, refl, sym, ap, ◌∙◌}
use mathlib.Core.Logic.{◌⊎◌, inl, inr, ⊎_elim}
use mathlib.Core.Bool.{true}
use mathlib.Core.List.{List, [], ◌∷◌, foldl}
use native.Mathlib.Omega.{arith}
use lib.ListN.{length, set, take, drop, replicate, length-set, length-replicate}
use lib.Dec.{eqb, ltb}
use borrow.Author.Tests.{ltb-true}
use lib.Seq.{set_out, take-set-le, drop-set-lt, take-set-lt, drop-set-add, drop-drop}
use Rattle.spec_laws.proofs.All.{all-weaken, true-all, both, cond-keeps, all_take, all_drop}
use Rattle.spec.specs.Lists.{all, All}
use Rattle.spec.specs.declared.Span.{Span}
use Rattle.sort.proofs.Cases.{in_order}
use Rattle.sort.proofs.Ascending.{Ascends}
use Rattle.length_adjust.specs.declared.range.Range.{Range}
use Rattle.length_adjust.specs.Marks.{marked_from, marked, segment, marked_in, mark, place_for, found, below, own_keys, bytes_to, places_of, taking_part}
use Rattle.length_adjust.proofs.Passed.{own-all}
use Rattle.length_adjust.proofs.Search.{search-marks}

-- ---- the range

abbrev lower-key : ℕ → ℕ → ℕ
lower-key low key = min low (key % 65536)

abbrev higher-key : ℕ → ℕ → ℕ
higher-key high key = max high (key % 65536 + 1)

abbrev pub lowest : ℕ → List ℕ → ℕ
lowest low keys = foldl lower-key low keys

abbrev pub past : ℕ → List ℕ → ℕ
past high keys = foldl higher-key high keys

low-most : (n : ℕ) (keys : List ℕ) → lowest n keys ≤ n
low-most n [] = omega arith
low-most n (key ∷ keys) = omega (arith, low-most (min n (key % 65536)) keys)

past-least : (n : ℕ) (keys : List ℕ) → n ≤ past n keys
past-least n [] = omega arith
past-least n (key ∷ keys) = omega (arith, past-least (max n (key % 65536 + 1)) keys)

all-low : (n : ℕ) (keys : List ℕ) → All (λ key. lowest n keys ≤ key % 65536) keys
all-low n [] = All.none
all-low n (key ∷ keys) = let m = min n (key % 65536) in All.more {x = key} (omega (arith, low-most m keys)) (all-low m keys)

all_past : (n : ℕ) (keys : List ℕ) → All (λ key. key % 65536 < past n keys) keys
all_past n [] = All.none
all_past n (key ∷ keys) = let m = max n (key % 65536 + 1) in All.more {x = key} (omega (arith, past-least m keys)) (all_past m keys)

past-most : (most n : ℕ) {keys : List ℕ} → n ≤ most → All (λ key. key % 65536 < most) keys → past n keys ≤ most
past-most most n h All.none = h
past-most most n h (All.more {x = key} g gs) = past-most most (max n (key % 65536 + 1)) (omega arith) gs

range-most : (most : ℕ) {keys : List ℕ} → All (λ key. key % 65536 < most) keys → (places_of keys).to ≤ most
range-most most l = past-most most 0 (omega arith) l

-- that of a span's clusters ends within the marks
pub own-ends : (s : Span) (keys : List ℕ) {n : ℕ} → all (λ (key : ℕ). ltb (key % 65536) n) keys ≡ true → (places_of (own_keys s keys)).to ≤ n
own-ends s keys {n} e = range-most n (own-all s (all-weaken (λ key t. ltb-true (key % 65536) n t) (true-all _ keys e)))

-- ---- what a search finds is there, or past the marks

-- a place of the range, or none of n marks
abbrev Inside : Range → ℕ → ℕ → Type 0
Inside r n p = ((r.from ≤ p) × (p < r.to)) ⊎ (p ≡ n)

place_inside : (r : Range) (n b : ℕ) {keys : List ℕ} → All (λ key. Inside r n (key % 65536)) keys → Inside r n (place_for n b keys)
unfolding place_for
place_inside r n b All.none = inr refl
place_inside r n b (All.more {x = key} p ps) = cond-keeps (Inside r n) (eqb (key / 65536) b) p (inr refl)

all_found : (r : Range) (n b m : ℕ) {keys : List ℕ} → All (λ key. Inside r n (key % 65536)) keys → All (Inside r n) (found n keys b m)
unfolding found
all_found r n b zero l = All.none
all_found r n b (suc m) {keys} l = let left = all_drop (below b keys) l in All.more (place_inside r n b left) (all_found r n (b + 1) m left)

found_inside : (keys : List ℕ) (n b m : ℕ) → All (Inside (places_of keys) n) (found n keys b m)
found_inside keys n b m = all_found (places_of keys) n b m (both (λ key p q. inl (p, q)) (all-low 65536 keys) (all_past 0 keys))

-- ---- marks that are set only there

module _ (r : Range) (n : ℕ) where
  -- what no place of the range changes, nor one past the marks
  marks-keep : (view : List ℕ → List ℕ) → ((ms : List ℕ) (p : ℕ) → r.from ≤ p → p < r.to → view (set ms p 1) ≡ view ms)
      → (ms : List ℕ) → length ms ≡ n → {ps : List ℕ} → All (Inside r n) ps → view (mark ms ps) ≡ view ms
  marks-keep view h ms e All.none = refl
  marks-keep view h ms e (All.more {x = p} i is) =
      marks-keep view h (set ms p 1) (length-set ms p 1 ∙ e) is ∙ ⊎_elim (λ g. h ms p g.0 g.1) (λ g. ap view (set_out ms p 1 (omega arith))) i

  segment-set : (ms : List ℕ) (p : ℕ) → r.from ≤ p → p < r.to → segment r (set ms p 1) ≡ set (segment r ms) (p - r.from) 1
  segment-set ms p h g =
      let e : p ≡ r.from + (p - r.from) = omega arith in
      ap (λ (q : ℕ). segment r (set ms q 1)) e ∙ ap (take (r.to - r.from)) (drop-set-add r.from ms (p - r.from) 1)
      ∙ take-set-lt (r.to - r.from) (drop r.from ms) (p - r.from) 1 (omega arith)

  -- two lists of marks that are the same there stay the same there
  segment-marked : (ms ns : List ℕ) → length ms ≡ n → length ns ≡ n → segment r ms ≡ segment r ns → {ps : List ℕ} → All (Inside r n) ps
      → segment r (mark ms ps) ≡ segment r (mark ns ps)
  segment-marked ms ns d e q All.none = q
  segment-marked ms ns d e q (All.more {x = p} i is) =
      segment-marked (set ms p 1) (set ns p 1) (length-set ms p 1 ∙ d) (length-set ns p 1 ∙ e)
      (⊎_elim
      (λ g. segment-set ms p g.0 g.1 ∙ ap (λ (xs : List ℕ). set xs (p - r.from) 1) q ∙ sym (segment-set ns p g.0 g.1))
      (λ g. ap (segment r) (set_out ms p 1 (omega arith)) ∙ q ∙ sym (ap (segment r) (set_out ns p 1 (omega arith))))
      i)
      is

-- ---- zeros before it and behind it are not marked

abbrev Zeros : List ℕ → Type 0
Zeros ms = All (λ m. m ≡ 0) ms

none-marked : (k : ℕ) {ms : List ℕ} → Zeros ms → marked_from k ms ≡ []
unfolding marked_from
none-marked k All.none = refl
none-marked k (All.more z zs) = rw (z, none-marked (k + 1) zs)

past-zeros : (j k : ℕ) (ms : List ℕ) → Zeros (take j ms) → marked_from k ms ≡ marked_from (k + j) (drop j ms)
unfolding marked_from
past-zeros zero k ms z = let e : k + 0 ≡ k = omega arith in rw e
past-zeros (suc j) k [] z = refl
past-zeros (suc j) k (m ∷ ms) (All.more z zs) = let e : k + suc j ≡ k + 1 + j = omega arith in rw (z, e) (past-zeros j (k + 1) ms zs)

before-zeros : (j k : ℕ) (ms : List ℕ) → Zeros (drop j ms) → marked_from k (take j ms) ≡ marked_from k ms
unfolding marked_from
before-zeros zero k ms z = sym (none-marked k z)
before-zeros (suc j) k [] z = refl
before-zeros (suc j) k (m ∷ ms) z = rw (before-zeros j (k + 1) ms z)

marked-inside : (r : Range) (ms : List ℕ) → Zeros (take r.from ms) → Zeros (drop r.to ms) → marked_in r ms ≡ marked ms
marked-inside r ms front back =
    let zero-add : 0 + r.from ≡ r.from = omega arith in
    before-zeros (r.to - r.from) r.from (drop r.from ms) (rw (drop-drop (r.to - r.from) r.from ms) behind)
    ∙ sym (rw zero-add at (past-zeros r.from 0 ms front))
  where
    behind : Zeros (drop (r.from + (r.to - r.from)) ms)
    behind =
        in_order {C = Zeros (drop (r.from + (r.to - r.from)) ms)} r.from r.to
        (λ h. let e : r.from + (r.to - r.from) ≡ r.to = omega arith in rw e back)
        (λ h. let e : r.from + (r.to - r.from) ≡ r.to + (r.from - r.to) = omega arith in
        rw (e, ← (drop-drop (r.from - r.to) r.to ms)) (all_drop (r.from - r.to) back))

zeros : (n : ℕ) → Zeros (replicate n 0)
zeros zero = All.none
zeros (suc n) = All.more refl (zeros n)

take-zeros : (k n : ℕ) → k ≤ n → ◌≡◌ {A = List ℕ} (take k (replicate n 0)) (replicate k 0)
take-zeros zero n h = refl
take-zeros (suc k) zero h = absurd (omega arith)
take-zeros (suc k) (suc n) h = ap {B = List ℕ} (λ r. 0 ∷ r) (take-zeros k n (omega arith))

drop-zeros : (k n : ℕ) → ◌≡◌ {A = List ℕ} (drop k (replicate n 0)) (replicate (n - k) 0)
drop-zeros zero n = let e : n - 0 ≡ n = omega arith in rw e
drop-zeros (suc k) zero = let e : 0 - suc k ≡ 0 = omega arith in rw e
drop-zeros (suc k) (suc n) = let e : suc n - suc k ≡ n - k = omega arith in rw e (drop-zeros k n)

-- ---- marks that were cleared there: those set are as if all had been cleared
marks-inside : (r : Range) (ms : List ℕ) → r.to ≤ length ms → segment r ms ≡ replicate (r.to - r.from) 0 → {ps : List ℕ} → All (Inside r (length ms)) ps
    → marked_in r (mark ms ps) ≡ marked (mark (replicate (length ms) 0) ps)
marks-inside r ms h e {ps} l =
    let n = length ms in
    let clean : List ℕ = replicate n 0 in
    let long : length clean ≡ n = length-replicate n 0 in
    let there : segment r clean ≡ replicate (r.to - r.from) 0 =
    ap (take (r.to - r.from)) (drop-zeros r.from n) ∙ take-zeros (r.to - r.from) (n - r.from) (omega arith) in
    let front = marks-keep r n (take r.from) (λ xs p g k. take-set-le r.from xs p 1 g) clean long l in
    let back = marks-keep r n (drop r.to) (λ xs p g k. drop-set-lt r.to xs p 1 k) clean long l in
    ap (marked_from r.from) (segment-marked r n ms clean refl long (e ∙ sym there) l)
    ∙ marked-inside r (mark clean ps) (rw front (all_take r.from (zeros n))) (rw back (all_drop r.to (zeros n)))

-- ---- a search among cleared marks
pub search-marked : (s : Span) {keys : List ℕ} → Ascends keys → (ms : List ℕ) (r : Range) → r ≡ places_of (own_keys s keys) → r.to ≤ length ms
    → segment r ms ≡ replicate (r.to - r.from) 0
    → marked_in r (mark ms (found (length ms) (own_keys s keys) s.start (bytes_to s.start (own_keys s keys)))) ≡ marked (taking_part s keys (length ms))
search-marked s {keys} a ms r e h z =
    let n = length ms in
    let own = own_keys s keys in
    let places = found n own s.start (bytes_to s.start own) in
    let inside : All (Inside r n) places = rw e (found_inside own n s.start (bytes_to s.start own)) in
    marks-inside r ms h z inside ∙ ap marked (search-marks n s a (replicate n 0) (length-replicate n 0))
