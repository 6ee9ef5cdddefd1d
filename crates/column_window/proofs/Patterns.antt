-- Patterns below an infinity's are those of the floats that are finite with the sign clear, and have the order of these floats. Assumes nothing.
use Prim.Native.Nat.{ℕ, zero, suc, ◌+◌, ◌*◌, ◌/◌, ◌%◌, ◌^◌, ◌≤◌, ◌<◌}
use native.Mathlib.Nat.{le_of_mul-le-mul_right, mul-le-mul_right, mul-le-mul_left, mul-lt-mul_of_pos_right, lt_of_lt_of_le, le_trans, le_of_lt, not-le_of_lt, div-lt_iff_lt-mul, div-add-mod', mod-lt, mod-eq_of_lt, pow-suc, le_of_suc-le-suc, eq-or-lt_of_le, le_of_eq}
use native.Mathlib.Omega.{arith}
use mathlib.Core.Path.{◌≡◌, refl, sym, ap, ◌∙◌, subst}
use mathlib.Core.Logic.{inl, inr}
use mathlib.Core.Bool.{Bool, true, false, cond, true≢false}
use lib.Dec.{T, ltb, eqb}
use lib.Pow.{pow_pos, pow_mono}
use lib.Ieee.{Float, nan, inf, fin, binary32, low, down, of_bits, of_fields, odd, lt}
use lib.Ieee.Exact.{HasValue, odd_sign}
use lib.Ieee.Fits.{down_pos}
use lib.Ieee.Order.{transfer}
use borrow.Author.Tests.{lt-leb, le-leb, ne_eqb, ltb-true, ltb-false}
use Rattle.column_window.specs.State.{is_extent}

-- ---- a test of numbers, and of floats by their values

same_test : (x y a b : ℕ) → (y ≤ x → b ≤ a) → (b ≤ a → y ≤ x) → ltb x y ≡ ltb a b
same_test x y a b f g = by (ltb x y) (ltb a b) refl refl
  where
    never : {i j : ℕ} → i < j → j ≤ i → ⊥
    never h k = omega arith

    by : (t u : Bool) → ltb x y ≡ t → ltb a b ≡ u → t ≡ u
    by true true p q = refl
    by false false p q = refl
    by true false p q = absurd (never (ltb-true x y p) (g (ltb-false a b q)))
    by false true p q = absurd (never (ltb-true a b q) (f (ltb-false x y p)))

lt-values : (x y : Float) (a b c : ℕ) → 0 < c → HasValue x false a c → HasValue y false b c → lt x y ≡ ltb a b
unfolding lt
lt-values nan y a b c p h k = absurd h
lt-values (inf s) y a b c p h k = absurd h
lt-values (fin s m e) nan a b c p h k = absurd k
lt-values (fin s m e) (inf t) a b c p h k = absurd k
lt-values (fin true m e) (fin t n d) a b c p h k = absurd (true≢false h.0)
lt-values (fin false m e) (fin true n d) a b c p h k = absurd (true≢false k.0)
lt-values (fin false m e) (fin false n d) a b c p h k =
    same_test _ _ a b
    (λ l. le_of_mul-le-mul_right (transfer b a c c _ _ (down d) (down e) (down_pos d) (down_pos e) (sym k.1) (sym h.1) l) p)
    (λ l. transfer _ _ (down d) (down e) b a c c p p k.1 h.1 (mul-le-mul_right c l))

-- ---- the value of a pattern, in units of the smallest float: of its exponent's field and its digits

abbrev units : ℕ → ℕ → ℕ
units zero t = t * 2 ^ 0
units (suc x) t = (8388608 + t) * 2 ^ x

abbrev size : ℕ → ℕ
size b = units (b / 8388608) (b % 8388608)

fields_value : (x t : ℕ) → x < 255 → HasValue (of_fields binary32 false x t) false (units x t) (2 ^ low binary32)
unfolding of_fields
fields_value zero t h = odd_sign 24 false t 0 149
fields_value (suc x) t h = rw (ne_eqb (suc x) 255 (omega arith)) (odd_sign 24 false (8388608 + t) x 149)

bits-value : (b : ℕ) → b < 2139095040 → HasValue (of_bits binary32 b) false (size b) (2 ^ low binary32)
unfolding of_bits
bits-value b h =
    let l : b < 2147483648 = omega arith in
    let x : b / 8388608 < 255 = (div-lt_iff_lt-mul {k = 8388608} {x = b} {y = 255} (omega arith)).1 (omega arith) in
    rw (lt-leb 2147483648 b l, mod-eq_of_lt l) (fields_value (b / 8388608) (b % 8388608) x)

-- ---- it rises with the pattern

top-unit : (x t : ℕ) → t < 8388608 → units x t < 8388608 * 2 ^ x
top-unit zero t h = mul-lt-mul_of_pos_right h (pow_pos 0)
top-unit (suc x) t h =
    let m : (8388608 + t) * 2 ^ x < 16777216 * 2 ^ x = mul-lt-mul_of_pos_right (omega arith) (pow_pos x) in
    let e : 16777216 * 2 ^ x ≡ 8388608 * 2 ^ suc x = rw (pow-suc 2 x) (omega arith) in
    subst (λ (k : ℕ). (8388608 + t) * 2 ^ x < k) e m

later : (x t y u : ℕ) → t < 8388608 → x < y → units x t < units y u
later x t zero u h l = absurd (never l)
  where
    never : x < 0 → ⊥
    never l = omega arith
later x t (suc z) u h l =
    lt_of_lt_of_le (top-unit x t h) (le_trans (mul-le-mul_left 8388608 (pow_mono (le_of_suc-le-suc l))) (mul-le-mul_right (2 ^ z) (omega arith)))

same : (x t u : ℕ) → t < u → units x t < units x u
same zero t u l = mul-lt-mul_of_pos_right l (pow_pos 0)
same (suc x) t u l = mul-lt-mul_of_pos_right (omega arith) (pow_pos x)

size-rises : (a b : ℕ) → a < b → size a < size b
size-rises a b l =
    let p = div-add-mod' a 8388608 in
    let q = div-add-mod' b 8388608 in
    let r : a % 8388608 < 8388608 = mod-lt a (omega arith) in
    let s : b % 8388608 < 8388608 = mod-lt b (omega arith) in
    by (ltb (a / 8388608) (b / 8388608)) refl p q r s
  where
    by : (t : Bool) → ltb (a / 8388608) (b / 8388608) ≡ t → a / 8388608 * 8388608 + a % 8388608 ≡ a → b / 8388608 * 8388608 + b % 8388608 ≡ b
        → a % 8388608 < 8388608 → b % 8388608 < 8388608 → size a < size b
    by true d p q r s = later (a / 8388608) (a % 8388608) (b / 8388608) (b % 8388608) r (ltb-true _ _ d)
    by false d p q r s =
        let g : b / 8388608 ≤ a / 8388608 = ltb-false _ _ d in
        let e : b / 8388608 ≡ a / 8388608 = omega arith in
        let h : a % 8388608 < b % 8388608 = omega arith in
        rw e (same (a / 8388608) (a % 8388608) (b % 8388608) h)

size-grows : (a b : ℕ) → a ≤ b → size a ≤ size b
size-grows a b l = elim (eq-or-lt_of_le l) [ inl e ↦ le_of_eq (ap (λ (k : ℕ). size k) e) | inr h ↦ le_of_lt (size-rises a b h) ]

size_back : (a b : ℕ) → size a ≤ size b → a ≤ b
size_back a b l = by (ltb b a) refl
  where
    by : (t : Bool) → ltb b a ≡ t → a ≤ b
    by true d = absurd (not-le_of_lt (size-rises b a (ltb-true b a d)) l)
    by false d = ltb-false b a d

pub pattern-order : (a b : ℕ) → is_extent a ≡ true → is_extent b ≡ true → lt (of_bits binary32 a) (of_bits binary32 b) ≡ ltb a b
pattern-order a b p q =
    lt-values (of_bits binary32 a) (of_bits binary32 b) (size a) (size b) (2 ^ low binary32) (pow_pos 149) (bits-value a (ltb-true a 2139095040 p)) (bits-value b (ltb-true b 2139095040 q))
    ∙ same_test (size a) (size b) a b (size_back b a) (size-grows b a)

-- ---- any other pattern is that of a float that is not finite or has its sign set

abbrev pub unsigned : Float → Bool
unsigned nan = false
unsigned (inf s) = false
unsigned (fin true m e) = false
unsigned (fin false m e) = true

negative-odd : (t k : ℕ) → T (unsigned (odd 24 true t k 149)) → ⊥
unfolding odd
negative-odd zero k p = p
negative-odd (suc t) k p = p

negative-cond : (b c : Bool) (t k : ℕ) → T (unsigned (cond b (cond c (inf true) nan) (odd 24 true t k 149))) → ⊥
negative-cond true true t k p = p
negative-cond true false t k p = p
negative-cond false c t k p = negative-odd t k p

negative : (x t : ℕ) → T (unsigned (of_fields binary32 true x t)) → ⊥
unfolding of_fields
negative zero t p = negative-odd t 0 p
negative (suc x) t p = negative-cond (eqb (suc x) 255) (eqb t 0) (8388608 + t) x p

endless-cond : (c : Bool) → T (unsigned (cond c (inf false) nan)) → ⊥
endless-cond true p = p
endless-cond false p = p

endless : (t : ℕ) → T (unsigned (of_fields binary32 false 255 t)) → ⊥
unfolding of_fields
endless t p = endless-cond (eqb t 0) p

signed-out : (a : ℕ) → 2147483648 ≤ a → T (unsigned (of_bits binary32 a)) → ⊥
unfolding of_bits
signed-out a h p = negative (a % 2147483648 / 8388608) (a % 8388608) (rw (le-leb 2147483648 a h) at p)

endless-out : (a : ℕ) → 2139095040 ≤ a → a < 2147483648 → T (unsigned (of_bits binary32 a)) → ⊥
unfolding of_bits
endless-out a h l p =
    let u : a / 8388608 < 256 = (div-lt_iff_lt-mul {k = 8388608} {x = a} {y = 256} (omega arith)).1 (omega arith) in
    let q = div-add-mod' a 8388608 in
    let r : a % 8388608 < 8388608 = mod-lt a (omega arith) in
    let e : a / 8388608 ≡ 255 = omega arith in
    endless (a % 8388608) (rw (lt-leb 2147483648 a l, mod-eq_of_lt l, e) at p)

pub unsigned-pattern : (a : ℕ) → T (unsigned (of_bits binary32 a)) → is_extent a ≡ true
unsigned-pattern a p = by (ltb a 2139095040) refl (ltb a 2147483648) refl
  where
    by : (t : Bool) → ltb a 2139095040 ≡ t → (u : Bool) → ltb a 2147483648 ≡ u → ltb a 2139095040 ≡ true
    by true d u e = d
    by false d true e = absurd (endless-out a (ltb-false a 2139095040 d) (ltb-true a 2147483648 e) p)
    by false d false e = absurd (signed-out a (ltb-false a 2147483648 e) p)
