-- UTF-8 (the Unicode Standard, table 3-7), byte by byte. Definitions only.
pub use Rattle.spec.specs.declared.Utf8State.{Utf8State}
use Rattle.spec.specs.declared.Utf8State.TheVariants.{Malformed, Expecting}
use Rattle.std.specs.Prelude.{ℕ, ◌+◌, ◌-◌, ◌*◌, ◌%◌, Bool, false, not, cond, ◌&&◌, get_or, take, length, leb, ltb, eqb}
use mathlib.Core.List.{List, [], ◌∷◌, foldl}

abbrev pub within : ℕ → ℕ → ℕ → Bool
within a b n = leb a n && leb n b

-- between two characters
abbrev pub boundary : Utf8State
boundary = Expecting 0 0 0

-- after a character's first byte
unfoldable pub lead : ℕ → Utf8State
lead b =
    cond (ltb b 0x80) boundary
    (cond (within 0xc2 0xdf b) (Expecting 1 0x80 0xbf)
    (cond (eqb b 0xe0) (Expecting 2 0xa0 0xbf)
    (cond (eqb b 0xed) (Expecting 2 0x80 0x9f)
    (cond (within 0xe1 0xef b) (Expecting 2 0x80 0xbf)
    (cond (eqb b 0xf0) (Expecting 3 0x90 0xbf)
    (cond (within 0xf1 0xf3 b) (Expecting 3 0x80 0xbf)
    (cond (eqb b 0xf4) (Expecting 3 0x80 0x8f) Malformed)))))))

-- after the next byte
unfoldable pub next : Utf8State → ℕ → Utf8State
next Malformed b = Malformed
next (Expecting n low high) b = cond (eqb n 0) (lead b) (cond (within low high b) (Expecting (n - 1) 0x80 0xbf) Malformed)

unfoldable pub is_boundary : Utf8State → Bool
is_boundary Malformed = false
is_boundary (Expecting n low high) = eqb n 0

-- the text is UTF-8
unfoldable pub is_utf8 : List ℕ → Bool
is_utf8 text = is_boundary (foldl next boundary text)

-- ---- in UTF-8 text

-- a byte that continues a character
abbrev pub continues : ℕ → Bool
continues b = within 0x80 0xbf b

-- how many characters start in the bytes
unfoldable pub characters : List ℕ → ℕ
characters [] = 0
characters (b ∷ bs) = cond (continues b) 0 1 + characters bs

-- a character starts at byte i
unfoldable pub starts_at : List ℕ → ℕ → Bool
starts_at text i = ltb i (length text) && not (continues (get_or text i 0))

-- the number of the character that starts at byte i (`code_point_at`)
unfoldable pub code_point_at : List ℕ → ℕ → ℕ
code_point_at text i = characters (take i text)

-- the character that the bytes begin with, as its code point (`char_from`)
unfoldable pub code_point : List ℕ → ℕ
code_point bs =
    let a = get_or bs 0 0 in
    let b = get_or bs 1 0 % 64 in
    let c = get_or bs 2 0 % 64 in
    let d = get_or bs 3 0 % 64 in
    cond (ltb a 0x80) a
    (cond (ltb a 0xe0) (a % 32 * 64 + b)
    (cond (ltb a 0xf0) ((a % 16 * 64 + b) * 64 + c) (((a % 8 * 64 + b) * 64 + c) * 64 + d)))
