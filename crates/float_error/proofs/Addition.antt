-- Sums, differences and negation of floats. Negation is exact; a sum is within 2 ^ -24 of the exact one, which is a whole number of units, and a
-- difference is a sum. Assumes nothing.
use mathlib.Core.Path.{◌≡◌, refl, ap, ◌∙◌, sym}
use mathlib.Core.Bool.{Bool, true, false, not, ◌&&◌, cond}
use Prim.Native.Nat.{ℕ, ◌+◌, ◌-◌, ◌*◌, ◌/◌, ◌≤◌, ◌<◌}
use native.Mathlib.Nat.{mul-pos, mul_comm, mul-sub, mul-le-mul_right, le_of_mul-le-mul_right}
use native.Mathlib.Omega.{arith}
use lib.Dec.{T, ltb, ltb→lt, nltb→le}
use lib.Ieee.{Float, nan, inf, fin, binary32, up, down, round, sum, add, sub, neg}
use lib.Ieee.Fits.{down_pos}
use Rattle.float_error.proofs.Nearest.{Within}
use Rattle.float_error.proofs.Units.{unit, limit, pos_of, neg_of, pos_part, neg_part, InUnits, common}
use Rattle.float_error.proofs.RoundedTo.{RoundedTo, rounded-as, round_whole}

-- ---- ±a / c + ±b / c, where a / c is A units and b / c is B units
module _ (a b c A B M : ℕ) (C : 0 < c) (p : a * unit ≡ A * c) (q : b * unit ≡ B * c) (h : M < limit) where
  together : (a + b) * unit ≡ (A + B) * c
  together = omega arith

  apart : (a b A B : ℕ) → a * unit ≡ A * c → b * unit ≡ B * c → (b - a) * unit ≡ (B - A) * c
  apart a b A B p q =
      mul_comm (b - a) unit ∙ mul-sub unit b a
      ∙ ap (λ (x : ℕ). x - unit * a) (mul_comm unit b ∙ q ∙ mul_comm B c)
      ∙ ap (λ (x : ℕ). c * B - x) (mul_comm unit a ∙ p ∙ mul_comm A c)
      ∙ sym (mul-sub c B A) ∙ mul_comm c (B - A)

  ordered : (a b A B : ℕ) → a * unit ≡ A * c → b * unit ≡ B * c → a ≤ b → A ≤ B
  ordered a b A B p q h =
      let k : a * unit ≤ b * unit = mul-le-mul_right unit h in
      let l : A * c ≤ B * c = omega arith in
      le_of_mul-le-mul_right l C

  same_sign : (s : Bool) → A + B ≤ M → RoundedTo (round binary32 s (a + b) c) 1 (pos_of s A + pos_of s B) (neg_of s A + neg_of s B) M
  same_sign s k = rounded-as (pos_of s A + pos_of s B) (neg_of s A + neg_of s B) M (go s) k (round_whole s (a + b) c (A + B) C together (omega arith))
    where
      go : (s : Bool) → pos_of s (A + B) + (neg_of s A + neg_of s B) ≡ pos_of s A + pos_of s B + neg_of s (A + B)
      go true = omega arith
      go false = omega arith

  -- the second is the larger
  rising : (s : Bool) → A ≤ B → B ≤ A + M
      → RoundedTo (round binary32 (not s) (b - a) c) 1 (pos_of s A + pos_of (not s) B) (neg_of s A + neg_of (not s) B) M
  rising s l k =
      rounded-as (pos_of s A + pos_of (not s) B) (neg_of s A + neg_of (not s) B) M (go s) (omega arith)
      (round_whole (not s) (b - a) c (B - A) C (apart a b A B p q) (omega arith))
    where
      go : (s : Bool) → pos_of (not s) (B - A) + (neg_of s A + neg_of (not s) B) ≡ pos_of s A + pos_of (not s) B + neg_of (not s) (B - A)
      go true = omega arith
      go false = omega arith

  -- the first is; a zero may have either sign
  falling : (s r : Bool) → B ≤ A → A ≤ B + M → (T (not r) → A ≤ B)
      → RoundedTo (round binary32 (s && r) (a - b) c) 1 (pos_of s A + pos_of (not s) B) (neg_of s A + neg_of (not s) B) M
  falling s r l k z =
      rounded-as (pos_of s A + pos_of (not s) B) (neg_of s A + neg_of (not s) B) M (go s r z) (omega arith)
      (round_whole (s && r) (a - b) c (A - B) C (apart b a B A q p) (omega arith))
    where
      go : (s r : Bool) → (T (not r) → A ≤ B)
          → pos_of (s && r) (A - B) + (neg_of s A + neg_of (not s) B) ≡ pos_of s A + pos_of (not s) B + neg_of (s && r) (A - B)
      go true true z = omega arith
      go true false z =
          let e : A ≤ B = z tt in
          omega arith
      go false r z = omega arith

  mixed : (s : Bool) → Within (pos_of s A + pos_of (not s) B) (neg_of s A + neg_of (not s) B) M
      → RoundedTo (cond (ltb a b) (round binary32 (not s) (b - a) c) (round binary32 (s && ltb b a) (a - b) c)) 1
      (pos_of s A + pos_of (not s) B) (neg_of s A + neg_of (not s) B) M
  mixed s m = go (ltb a b) (ltb→lt a b) (nltb→le a b) (sizes s m)
    where
      less : (x y : ℕ) → x < y → x ≤ y
      less x y h = omega arith

      sizes : (s : Bool) → Within (pos_of s A + pos_of (not s) B) (neg_of s A + neg_of (not s) B) M → Within A B M
      sizes true m = omega arith
      sizes false m = omega arith

      go : (o : Bool) → (T o → a < b) → (T (not o) → b ≤ a) → Within A B M
          → RoundedTo (cond o (round binary32 (not s) (b - a) c) (round binary32 (s && ltb b a) (a - b) c)) 1
          (pos_of s A + pos_of (not s) B) (neg_of s A + neg_of (not s) B) M
      go true f g w = rising s (ordered a b A B p q (less a b (f tt))) w.1
      go false f g w = falling s (ltb b a) (ordered b a B A q p (g tt)) w.0 (λ n. ordered a b A B p q (nltb→le b a n))

  sum_near : (s t : Bool) → Within (pos_of s A + pos_of t B) (neg_of s A + neg_of t B) M
      → RoundedTo (sum binary32 s a t b c) 1 (pos_of s A + pos_of t B) (neg_of s A + neg_of t B) M
  unfolding sum
  sum_near true true m = same_sign true (omega arith)
  sum_near true false m = mixed true m
  sum_near false true m = mixed false m
  sum_near false false m = same_sign false (omega arith)

-- ---- M bounds the size of the exact result, and is far below the largest floats
pub add-near : (x y : Float) (M : ℕ) → InUnits x → InUnits y → Within (pos_part x + pos_part y) (neg_part x + neg_part y) M → M < limit
    → RoundedTo (add binary32 x y) 1 (pos_part x + pos_part y) (neg_part x + neg_part y) M
unfolding add
add-near nan y M gx gy w h = absurd gx
add-near (inf s) y M gx gy w h = absurd gx
add-near (fin s m e) nan M gx gy w h = absurd gy
add-near (fin s m e) (inf t) M gx gy w h = absurd gy
add-near (fin s m e) (fin t n d) M gx gy w h =
    let A = m * up e * unit / down e in
    let B = n * up d * unit / down d in
    let c = common (m * up e) (down e) A (n * up d) (down d) B gx gy in
    sum_near (m * up e * down d) (n * up d * down e) (down e * down d) A B M (mul-pos (down_pos e) (down_pos d)) c.0 c.1 h s t w

-- ---- the two parts change places
pub record Negated (x : Float) : Type 0 where
  pub whole : InUnits (neg x)
  pub plus : pos_part (neg x) ≡ neg_part x
  pub minus : neg_part (neg x) ≡ pos_part x

pub negated : (x : Float) → InUnits x → Negated x
unfolding neg
negated nan g = absurd g
negated (inf s) g = absurd g
negated (fin true m e) g = record { whole = g; plus = refl; minus = refl }
negated (fin false m e) g = record { whole = g; plus = refl; minus = refl }

-- a difference is the sum with the negated
pub sub-near : (x y : Float) (M : ℕ) → InUnits x → InUnits y → Within (pos_part x + neg_part y) (neg_part x + pos_part y) M → M < limit
    → RoundedTo (sub binary32 x y) 1 (pos_part x + neg_part y) (neg_part x + pos_part y) M
unfolding sub
sub-near x y M gx gy w h =
    let v : Negated y = negated y gy in
    rw (v.plus, v.minus) at (add-near x (neg y) M gx v.whole (rw (v.plus, v.minus) w) h)
