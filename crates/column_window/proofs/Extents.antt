-- Which floats pass as extents, and what is kept of one. Assumes nothing.
use Prim.Native.Nat.{ℕ, ◌*◌}
use mathlib.Core.Path.{◌≡◌, refl, sym, ◌∙◌, subst}
use mathlib.Core.Bool.{Bool, true, false, cond, ◌&&◌, ◌||◌}
use lib.Dec.{T, eqb, eqb→eq}
use lib.IntN.{ℤ, pos}
use lib.Ieee.{Float, nan, inf, fin, up, down, binary32, lt, le, eq, fits, of_bits, to_bits}
use lib.Ieee.Scale.{finite}
use lib.Ieee.Bits.{of_bits-to_bits, of_bits-fits}
use lib.Ieee.Fits.{and_l, and_r}
use borrow.Author.Tests.{eq-eqb}
use Rattle.std.specs.Float.{float_is_finite}
use Rattle.spec.specs.Single.{+0}
use Rattle.column_window.specs.Window.{extent_ok, plain}
use Rattle.column_window.specs.Words.{pattern_of}
use Rattle.column_window.specs.State.{is_extent}
use Rattle.column_window.proofs.Patterns.{unsigned, unsigned-pattern}

pub finite_same : (x : Float) → float_is_finite x ≡ finite x
unfolding float_is_finite
finite_same nan = refl
finite_same (inf s) = refl
finite_same (fin s m k) = refl

-- ---- the pattern that is kept

pub pattern_zero : (x : Float) → eq x +0 ≡ true → pattern_of x ≡ 0
unfolding pattern_of plain to_bits of_bits
pattern_zero x e = rw e refl

-- of the floats with their sign set, minus zero alone passes
level-both : (a b : ℕ) → T (eqb a b && (false || eqb a 0)) → (eqb b a && (false || eqb b 0)) ≡ true
level-both a b t =
    let e : a ≡ b = eqb→eq a b (and_l (eqb a b) (eqb a 0) t) in
    let z : a ≡ 0 = eqb→eq a 0 (and_r (eqb a b) (eqb a 0) t) in
    rw (eq-eqb b a (sym e), eq-eqb b 0 (sym e ∙ z)) refl

minus-zero : (m : ℕ) (e : ℤ) → T (extent_ok (fin true m e)) → eq (fin true m e) +0 ≡ true
unfolding extent_ok eq le lt of_bits
minus-zero m e t = level-both (0 * up (pos 0) * down e) (m * up e * down (pos 0)) t

passes-unsigned : (x : Float) → T (extent_ok x) → eq x +0 ≡ false → T (unsigned x)
unfolding extent_ok
passes-unsigned nan t e = t
passes-unsigned (inf s) t e = t
passes-unsigned (fin true m k) t e = subst T (sym (minus-zero m k t) ∙ e) tt
passes-unsigned (fin false m k) t e = tt

-- what is kept of an extent that passes is its own float, and below the pattern of an infinity
module _ (x : Float) (holds : T (fits binary32 x)) where
  pub kept_back : of_bits binary32 (pattern_of x) ≡ plain x
  unfolding pattern_of plain
  kept_back = by (eq x +0)
    where
      by : (t : Bool) → of_bits binary32 (to_bits binary32 (cond t +0 x)) ≡ cond t +0 x
      by true = of_bits-to_bits binary32 +0 (of_bits-fits binary32 0)
      by false = of_bits-to_bits binary32 x holds

  pub kept-extent : extent_ok x ≡ true → is_extent (pattern_of x) ≡ true
  unfolding pattern_of plain to_bits of_bits
  kept-extent ok = by (eq x +0) refl
    where
      by : (t : Bool) → eq x +0 ≡ t → is_extent (to_bits binary32 (cond t +0 x)) ≡ true
      by true e = refl
      by false e =
          unsigned-pattern (to_bits binary32 x)
          (subst (λ (z : Float). T (unsigned z)) (sym (of_bits-to_bits binary32 x holds)) (passes-unsigned x (subst T (sym ok) tt) e))
