-- The text form of an answer, which the program platelist prints. Definitions only.
use Rattle.std.specs.Prelude.{ℕ, zero, suc, ◌+◌, ◌/◌, ◌%◌, cond, length, ltb, Float}
use Prim.Native.String.{String}
use Prim.Native.String as S
use Prim.Native.Char.{code}
use mathlib.Core.List.{List, [], ◌∷◌, ◌++◌, flat_map}
use Rattle.std.specs.Float.{binary32}
use Rattle.std.specs.Float.Ieee.{to_bits}
use Rattle.spec.specs.Outcome.{Outcome, refused, given}
use Rattle.spec.specs.Decoration.{Run}
use Rattle.spec.specs.Answer.{ClusterRow, SpanRow, ChunkRow, read_answer}
use Rattle.spec.specs.Layout.{layout_of}

-- ---- words and numbers

-- a word's bytes
unfoldable pub ascii : String → List ℕ
ascii S.[] = []
ascii (S.◌∷◌ c s) = code c ∷ ascii s

-- n in decimal, of at most k digits
unfoldable pub digits : ℕ → ℕ → List ℕ
digits zero n = []
digits (suc k) n = let rest = digits k (n / 10) in cond (ltb n 10) ((48 + n) ∷ []) (rest ++ ((48 + n % 10) ∷ []))

-- 20 digits hold every number of 64 bits
abbrev pub decimal : ℕ → List ℕ
decimal n = digits 20 n

-- the last k hexadecimal digits of n, in small letters
unfoldable pub hexadecimal : ℕ → ℕ → List ℕ
hexadecimal zero n = []
hexadecimal (suc k) n = let d = n % 16 in hexadecimal k (n / 16) ++ (cond (ltb d 10) (48 + d) (87 + d) ∷ [])

-- a float as the eight digits of its pattern
abbrev pub pattern : Float → List ℕ
pattern x = hexadecimal 8 (to_bits binary32 x)

-- ---- lines: a word, then each field after a space

unfoldable pub line : String → List (List ℕ) → List ℕ
line word fields = ascii word ++ (flat_map (λ (f : List ℕ). 32 ∷ f) fields ++ (10 ∷ []))

-- the lines of some rows, of which the first has index k
unfoldable pub indexed : {A : Type 0} → (ℕ → A → List ℕ) → ℕ → List A → List ℕ
indexed show k [] = []
indexed show k (x ∷ xs) = show k x ++ indexed show (k + 1) xs

-- index, byte index, flags, width, advance, shift x
unfoldable pub cluster_line : ℕ → ClusterRow → List ℕ
cluster_line k c =
    line "cluster" (decimal k ∷ decimal c.index ∷ decimal c.flags ∷ pattern c.width ∷ pattern c.advance ∷ pattern c.x ∷ [])

-- span, first cluster, width
unfoldable pub run_line : ℕ → Run → List ℕ
run_line span r = line "run" (decimal span ∷ decimal r.first ∷ pattern r.width ∷ [])

-- index, baseline shift, thickness, under offset; then its runs
unfoldable pub span_lines : SpanRow → List ℕ
span_lines s =
    line "span" (decimal s.index ∷ pattern s.baseline ∷ pattern s.thickness ∷ pattern s.under ∷ [])
    ++ flat_map (run_line s.index) s.runs

-- index, clusters, pen x, pen y; then its clusters, then its spans
unfoldable pub chunk_lines : ℕ → ChunkRow → List ℕ
chunk_lines k c =
    line "chunk" (decimal k ∷ decimal (length c.clusters) ∷ pattern c.pen_x ∷ pattern c.pen_y ∷ [])
    ++ (indexed cluster_line 0 c.clusters ++ flat_map span_lines c.spans)

-- ---- what is printed

-- of a refused job the number alone
unfoldable pub text_form : Outcome (List ℕ) → List ℕ
text_form (refused n) = line "refused" (decimal n ∷ [])
text_form (given answer) = indexed chunk_lines 0 (read_answer answer)

-- the program lends 65,536 bytes
unfoldable pub platelist : List ℕ → List ℕ
platelist job = text_form (layout_of job 65536)
