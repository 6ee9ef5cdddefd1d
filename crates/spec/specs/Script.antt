-- What depends on a cluster's script or character: letter spacing, and word separators. Definitions only.
use Rattle.std.specs.Prelude.{ℕ, Bool, not, List, [], ◌∷◌, drop}
use Rattle.spec.specs.Lists.{elem}
use Rattle.spec.specs.Utf8.{code_point}
use Rattle.spec.specs.Script.Tag.{tag}
pub mod Tag

-- the tags without letter spacing: document 01's, and document 02's Rohg
unfoldable pub unspaced : List ℕ
unspaced =
    tag "Arab" ∷ tag "Syrc" ∷ tag "Nkoo" ∷ tag "Mani" ∷ tag "Phlp" ∷ tag "Mand" ∷ tag "Mong" ∷ tag "Phag"
    ∷ tag "Deva" ∷ tag "Beng" ∷ tag "Guru" ∷ tag "Modi" ∷ tag "Shrd" ∷ tag "Sylo" ∷ tag "Tirh" ∷ tag "Ogam"
    ∷ tag "Rohg" ∷ []

unfoldable pub script_supports_letter_spacing : ℕ → Bool
script_supports_letter_spacing t = not (elem t unspaced)

-- the word separators of CSS Text 3
unfoldable pub word_separators : List ℕ
word_separators = 0x0020 ∷ 0x00a0 ∷ 0x1361 ∷ 0x10100 ∷ 0x10101 ∷ 0x1039f ∷ 0x1091f ∷ []

-- the character that starts at byte i of the text separates words
unfoldable pub is_word_separator_at : List ℕ → ℕ → Bool
is_word_separator_at text i = elem (code_point (drop i text)) word_separators
