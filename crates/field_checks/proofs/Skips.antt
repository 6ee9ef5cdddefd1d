-- UTF-8 from place to place: past ASCII bytes, and past the bytes that a character expects. Assumes nothing.
use Prim.Native.Nat.{ℕ, zero, suc, ◌+◌, ◌-◌, ◌<◌, ◌≤◌}
use mathlib.Core.Path.{◌≡◌, refl, sym, ap, ◌∙◌}
use mathlib.Core.Bool.{Bool, true, false, cond, ◌&&◌, and_assoc, and-false, false≢true}
use mathlib.Core.List.{List, [], ◌∷◌, ◌++◌, foldl}
use native.Mathlib.Omega.{arith}
use lib.ListN.{length, get_or, take, drop, take-append-drop, length-append, length-drop, get_or-append}
use lib.Seq.{drop-drop, drop-append_seam}
use Rattle.std.proofs.Common.{get_or-drop}
use Rattle.std.specs.Prelude.{Option, MatchOption}
use Rattle.std.specs.Bool.{then_some}
use Rattle.std.specs.List.{list_all}
use native.Mathlib.Nat.{add-zero, eq-or-lt_of_le}
use mathlib.Core.Logic.{inl, inr}
use lib.Dec.{ltb}
use borrow.Author.Tests.{ltb-true, lt-ltb, ne_eqb}
use Rattle.spec.specs.declared.Utf8State.{Utf8State}
use Rattle.spec.specs.declared.Utf8State.TheVariants.{Malformed, Expecting}
use Rattle.spec.specs.Utf8.{boundary, within, lead, next, is_boundary, is_utf8}
use Rattle.spec.proofs.Loops.{fold-turn, fold_done}
use Rattle.field_checks.specs.Skips.{Skips, utf8_after}

-- ---- a state

-- read on in it, the bytes end between two characters
abbrev ends : Utf8State → List ℕ → Bool
ends state bytes = is_boundary (foldl next state bytes)

malformed-stays : (bytes : List ℕ) → ends Malformed bytes ≡ false
unfolding next is_boundary
malformed-stays [] = refl
malformed-stays (b ∷ bytes) = malformed-stays bytes

taken : (t : Bool) (state : Utf8State) (bytes : List ℕ) → ends (cond t state Malformed) bytes ≡ (t && ends state bytes)
taken true state bytes = refl
taken false state bytes = malformed-stays bytes

next-expected : (n low high b : ℕ) → 0 < n → next (Expecting n low high) b ≡ cond (within low high b) (Expecting (n - 1) 0x80 0xbf) Malformed
unfolding next
next-expected n low high b some = rw (ne_eqb n 0 (λ e. omega arith)) refl

-- ---- bytes that a character expects

-- none
ends-here : (low high : ℕ) (bytes : List ℕ) → utf8_after 0 low high bytes ≡ is_utf8 bytes
unfolding utf8_after is_utf8 is_boundary next
ends-here low high [] = refl
ends-here low high (b ∷ bytes) = refl

pub expects-none : (low high : ℕ) (bytes rest : List ℕ) → length bytes < 1 → utf8_after (length bytes) low high (bytes ++ rest) ≡ is_utf8 rest
expects-none low high [] rest h = ends-here low high rest
expects-none low high (b ∷ bytes) rest h = absurd (omega arith)

-- one more
expects-next : (n low high b : ℕ) (bytes : List ℕ) → utf8_after (suc n) low high (b ∷ bytes) ≡ (within low high b && utf8_after n 0x80 0xbf bytes)
unfolding utf8_after
expects-next n low high b bytes =
    let less : suc n - 1 ≡ n = omega arith in
    rw (next-expected (suc n) low high b (omega arith), less) (taken (within low high b) (Expecting n 0x80 0xbf) bytes)

-- the next of a text, of which it is asked whether it is right
module _ (n low high : ℕ) (text : List ℕ) (i j : ℕ) (r : Bool)
    (some : 0 < n) (h : i < length text) (q : j ≡ i + 1) (e : r ≡ within low high (get_or text i 0)) where
  asked-next : utf8_after n low high (drop i text) ≡ (r && utf8_after (n - 1) 0x80 0xbf (drop j text))
  unfolding utf8_after
  asked-next =
      rw (q, e, ← fold-turn next (Expecting n low high) text i 0 h, next-expected n low high (get_or text i 0) some, taken) refl

  pub expects-right : r ≡ true → utf8_after n low high (drop i text) ≡ utf8_after (n - 1) 0x80 0xbf (drop j text)
  expects-right t = asked-next ∙ rw t refl

  pub expects-wrong : r ≡ false → utf8_after n low high (drop i text) ≡ false
  expects-wrong t = asked-next ∙ rw t refl

-- these bytes, and then the rest
expects-these : (bytes rest : List ℕ) → utf8_after (length bytes) 0x80 0xbf (bytes ++ rest) ≡ (list_all (within 0x80 0xbf) bytes && is_utf8 rest)
expects-these [] rest = ends-here 0x80 0xbf rest
expects-these (b ∷ bytes) rest =
    expects-next (length bytes) 0x80 0xbf b (bytes ++ rest) ∙ ap (λ t. within 0x80 0xbf b && t) (expects-these bytes rest)
    ∙ sym (and_assoc (within 0x80 0xbf b) (list_all (within 0x80 0xbf) bytes) (is_utf8 rest))

pub expects-first : (low high : ℕ) (bytes rest : List ℕ) → 0 < length bytes
    → utf8_after (length bytes) low high (bytes ++ rest) ≡ ((within low high (get_or bytes 0 0) && list_all (within 0x80 0xbf) (drop 1 bytes)) && is_utf8 rest)
expects-first low high [] rest h = absurd (omega arith)
expects-first low high (b ∷ bytes) rest h =
    expects-next (length bytes) low high b (bytes ++ rest) ∙ ap (λ t. within low high b && t) (expects-these bytes rest)
    ∙ sym (and_assoc (within low high b) (list_all (within 0x80 0xbf) bytes) (is_utf8 rest))

-- more than there are
pub ends-early : (n low high : ℕ) (bytes : List ℕ) → length bytes < n → utf8_after n low high bytes ≡ false
unfolding utf8_after is_boundary
ends-early n low high [] h = ne_eqb n 0 (λ e. omega arith)
ends-early n low high (b ∷ bytes) h =
    let t = within low high b in
    let rest = Expecting (n - 1) 0x80 0xbf in
    rw (next-expected n low high b (omega arith), taken t rest bytes, ends-early (n - 1) 0x80 0xbf bytes (omega arith)) (and-false t)

-- ---- after a character's first byte

after_first : (text : List ℕ) (i : ℕ) → i < length text → is_utf8 (drop i text) ≡ ends (lead (get_or text i 0)) (drop (i + 1) text)
unfolding is_utf8 next
after_first text i h = ap is_boundary (sym (fold-turn next boundary text i 0 h))

module _ (text : List ℕ) (i : ℕ) (h : i < length text) where
  pub after-malformed : lead (get_or text i 0) ≡ Malformed → is_utf8 (drop i text) ≡ false
  after-malformed e = after_first text i h ∙ rw e (malformed-stays (drop (i + 1) text))

  pub after-expecting : (n low high : ℕ) → lead (get_or text i 0) ≡ Expecting n low high → is_utf8 (drop i text) ≡ utf8_after n low high (drop (i + 1) text)
  unfolding utf8_after
  after-expecting n low high e = after_first text i h ∙ rw e refl

-- ---- skips

pub no-skip : (text : List ℕ) (i : ℕ) → i ≤ length text → Skips text i i
no-skip text i h = record { onward = omega arith; inside = h; same = refl }

pub two-skips : {text : List ℕ} {i j k : ℕ} → Skips text i j → Skips text j k → Skips text i k
two-skips a b = record { onward = omega arith; inside = b.inside; same = b.same ∙ a.same }

lead-ascii : (b : ℕ) → b < 0x80 → lead b ≡ boundary
unfolding lead
lead-ascii b a = rw (lt-ltb b 0x80 a) refl

pub ascii-skip : (text : List ℕ) (i : ℕ) → i < length text → get_or text i 0 < 0x80 → Skips text i (i + 1)
unfolding is_utf8
ascii-skip text i h a =
    record {
      onward = omega arith;
      inside = omega arith;
      same = sym (after_first text i h ∙ rw (lead-ascii _ a) refl);
    }

-- n bytes that are ASCII
pub ascii-skips : (text : List ℕ) (i j n : ℕ) → Skips text i j → j + n ≤ length text
    → ((k : ℕ) → k < n → get_or (drop j text) k 0 < 0x80) → Skips text i (j + n)
ascii-skips text i j zero s h a = rw add-zero s
ascii-skips text i j (suc n) s h a =
    let low = rw get_or-drop at (a n (omega arith)) in
    let on : j + suc n ≡ j + n + 1 = omega arith in
    rw on (two-skips (ascii-skips text i j n s (omega arith) (λ k l. a k (omega arith))) (ascii-skip text (j + n) (omega arith) low))

-- where a flag says of the first k bytes that they are ASCII, one more
pub ascii_more : (ascii : Bool) (bytes : List ℕ) (n : ℕ) → (ascii ≡ true → (k : ℕ) → k < n → get_or bytes k 0 < 0x80)
    → (ascii && ltb (get_or bytes n 0) 0x80) ≡ true → (k : ℕ) → k < n + 1 → get_or bytes k 0 < 0x80
ascii_more true bytes n low e k h =
    let within : k ≤ n = omega arith in
    elim (eq-or-lt_of_le within) [ inl at ↦ rw at (ltb-true _ _ e) | inr l ↦ low refl k l ]
ascii_more false bytes n low e k h = absurd (false≢true e)

-- a block of ASCII, after which the rest is left
pub block_skip : {text : List ℕ} {start i n : ℕ} (block rest : List ℕ) → Skips text start i → drop i text ≡ block ++ rest → length block ≡ n
    → ((k : ℕ) → k < length block → get_or block k 0 < 0x80) → Skips text start (i + n) × (rest ≡ drop (i + n) text)
block_skip {text} {start} {i} {n} block rest s e size low =
    let long = ap length e in
    let fits : i + length block ≤ length text = omega (arith, long, length-append block rest, length-drop i text) in
    let skips = ascii-skips text start i (length block) s fits (λ k l. rw (e, get_or-append block rest 0 k l) (low k l)) in
    rw (← size) (skips, sym (drop-append_seam block rest) ∙ ap (drop (length block)) (sym e) ∙ drop-drop (length block) i text)

-- n bytes, and what follows them
pub with_rest : (text : List ℕ) (i n : ℕ) {bytes : List ℕ} → bytes ≡ take n (drop i text) → bytes ++ drop (i + n) text ≡ drop i text
with_rest text i n e = rw (e, ← drop-drop n i text) (take-append-drop n (drop i text))

-- a character, which is there where the bytes that it expects are right
pub past_character : (text : List ℕ) (i j n low high : ℕ) (right : Bool) {end : Option ℕ} → i < length text → lead (get_or text i 0) ≡ Expecting n low high
    → i < j → j ≤ length text → utf8_after n low high (drop (i + 1) text) ≡ (right && is_utf8 (drop j text)) → end ≡ then_some right j
    → MatchOption end (is_utf8 (drop i text) ≡ false) (λ k. Skips text i k × (i < k))
past_character text i j n low high true h e l m f q =
    rw q (record { onward = omega arith; inside = m; same = sym (after-expecting text i h n low high e ∙ f) }, l)
past_character text i j n low high false h e l m f q = rw q (after-expecting text i h n low high e ∙ f)

-- nothing is left
pub at-end : {text : List ℕ} {i j : ℕ} → Skips text i j → length text ≤ j → is_utf8 (drop i text) ≡ true
unfolding is_utf8 is_boundary
at-end {text} {i} {j} s h = sym s.same ∙ ap is_boundary (fold_done next boundary text j h)
