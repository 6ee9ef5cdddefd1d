-- Clusters that are marked, and those that a walk along the text order finds. Definitions only.
use Rattle.std.specs.Prelude.{ℕ, zero, suc, ◌+◌, ◌-◌, ◌/◌, ◌%◌, min, max, cond, take, drop, set, replicate, leb, eqb}
use mathlib.Core.List.{List, [], ◌∷◌, foldl}
use Rattle.spec.specs.Lists.{find_idx}
use Rattle.spec.specs.declared.Span.{Span}
use Rattle.length_adjust.specs.declared.range.Range.{Range}

-- ---- the places of the marks that are 1, where the first mark is that of place k
unfoldable pub marked_from : ℕ → List ℕ → List ℕ
marked_from k [] = []
marked_from k (m ∷ ms) = let rest = marked_from (k + 1) ms in cond (eqb m 1) (k ∷ rest) rest

abbrev pub marked : List ℕ → List ℕ
marked marks = marked_from 0 marks

-- the elements of a range, and the places that are marked there
abbrev pub segment : Range → List ℕ → List ℕ
segment r xs = take (r.to - r.from) (drop r.from xs)

abbrev pub marked_in : Range → List ℕ → List ℕ
marked_in r marks = marked_from r.from (segment r marks)

-- 1 at each of the places
abbrev pub mark : List ℕ → List ℕ → List ℕ
mark marks places = foldl (λ (ms : List ℕ) (p : ℕ). set ms p 1) marks places

-- ---- keys in text order: byte index and place of a cluster in one number

-- how many keys stand before the first whose byte index is not below b
abbrev pub below : ℕ → List ℕ → ℕ
below b keys = find_idx (λ (key : ℕ). leb b (key / 65536)) keys

-- the first key's place, if its byte index is b; n if it is not
unfoldable pub place_for : ℕ → ℕ → List ℕ → ℕ
place_for n b [] = n
place_for n b (key ∷ keys) = cond (eqb (key / 65536) b) (key % 65536) n

-- for each of m byte indexes from b on the place of its first cluster, n where there is none: a walk that only goes forward
unfoldable pub found : ℕ → List ℕ → ℕ → ℕ → List ℕ
found n keys b zero = []
found n keys b (suc m) = let rest = drop (below b keys) keys in place_for n b rest ∷ found n rest (b + 1) m

-- of keys that ascend, those of the clusters that the span covers: none is below its start, and all are below its end
abbrev pub own_keys : Span → List ℕ → List ℕ
own_keys s keys = let rest = drop (below s.start keys) keys in take (below s.end rest) rest

-- how many bytes there are from b up to the highest byte index of the keys
unfoldable pub bytes_to : ℕ → List ℕ → ℕ
bytes_to b [] = 0
bytes_to b (key ∷ keys) = max (key / 65536 + 1 - b) (bytes_to b keys)

-- from the lowest place of the keys to the highest
abbrev pub places_of : List ℕ → Range
places_of keys =
    record {
      from = foldl (λ (low key : ℕ). min low (key % 65536)) 65536 keys;
      to = foldl (λ (high key : ℕ). max high (key % 65536 + 1)) 0 keys;
    }

-- the marks of n clusters, with those marked that the walk finds for a span
abbrev pub taking_part : Span → List ℕ → ℕ → List ℕ
taking_part s keys n = mark (replicate n 0) (found n keys s.start (s.end - s.start))
