-- Rust's f32: the operations of `lib.Ieee` at binary32, each rounded once, to the nearest, ties to even. Definitions only.
use Rattle.std.specs.Prelude.{ℕ, Bool, ◌&&◌, eqb, pos, Float}
use Rattle.std.specs.Float.{binary32}
use Rattle.std.specs.Float.Ieee.{add, sub, mul, div, lt, le, eq, of_int, of_bits, to_bits}

infixl 75 ◌+ᶠ◌ ◌-ᶠ◌
infixl 80 ◌*ᶠ◌ ◌/ᶠ◌
abbrev pub ◌+ᶠ◌ : Float → Float → Float
x +ᶠ y = add binary32 x y

abbrev pub ◌-ᶠ◌ : Float → Float → Float
x -ᶠ y = sub binary32 x y

abbrev pub ◌*ᶠ◌ : Float → Float → Float
x *ᶠ y = mul binary32 x y

abbrev pub ◌/ᶠ◌ : Float → Float → Float
x /ᶠ y = div binary32 x y

-- `n as f32`
abbrev pub of_nat : ℕ → Float
of_nat n = of_int binary32 (pos n)

-- ---- constants, by their patterns, as a literal in code has them

abbrev pub +0 : Float
+0 = of_bits binary32 0x00000000

abbrev pub half : Float
half = of_bits binary32 0x3f000000

abbrev pub two : Float
two = of_bits binary32 0x40000000

-- the f32 that is nearest to 0.8, and to 0.001
abbrev pub four_fifths : Float
four_fifths = of_bits binary32 0x3f4ccccd

abbrev pub thousandth : Float
thousandth = of_bits binary32 0x3a83126f

-- 2 ^ -20 and 2 ^ 20, between which the size of a job's float lies
abbrev pub smallest : Float
smallest = of_bits binary32 0x35800000

abbrev pub largest : Float
largest = of_bits binary32 0x49800000

-- 1/16 and 4,096, between which a font size lies
abbrev pub smallest_size : Float
smallest_size = of_bits binary32 0x3d800000

abbrev pub largest_size : Float
largest_size = of_bits binary32 0x45800000

-- ---- tests

-- zero of either sign
abbrev pub is_zero : Float → Bool
is_zero x = eq x +0

abbrev pub is_positive : Float → Bool
is_positive x = lt +0 x

-- from a to b
abbrev pub between : Float → Float → Float → Bool
between a b x = le a x && le x b

-- its four bytes are zero
unfoldable pub is_zero_bits : Float → Bool
is_zero_bits x = eqb (to_bits binary32 x) 0
