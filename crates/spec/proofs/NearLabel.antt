-- Demand 3, computed at some labels: what the definition asks is not empty, and holds there; and an answer that is further off than the distance
-- allowed is not near. (That demand 3 holds of every accepted job is proved in the crate error_bound.) Assumes nothing.
use Prim.Native.Nat.{ℕ, ◌/◌, ◌%◌}
use mathlib.Core.Path.{◌≡◌, refl}
use mathlib.Core.Bool.{Bool, true, false, not, cond, ◌&&◌}
use mathlib.Core.List.{List, [], ◌∷◌}
use lib.Dec.{T, eqb, eqb→eq}
use lib.Ieee.Fits.{and_l, and_r}
use lib.Ieee.Scale.{finite as is_finite}
use Rattle.float_error.specs.Fraction.{Frac, ◌-ᵠ◌, absᵠ, leᵠ, value_of}
use Rattle.spec.specs.Check.{checked}
use Rattle.spec.specs.Script.Tag.{tag}
use Rattle.spec.specs.Answer.{ClusterRow}
use Rattle.spec.specs.Layout.{layout_of, buffer_after}
use Rattle.spec.specs.Exact.{ExactCluster, AllPairs, Near, NearAnswer}
use Rattle.spec.proofs.Compute.{computed}
use Rattle.spec.proofs.Seen.{whole, below, shown}
use Rattle.spec.proofs.Jobs.{wide_row, letter_row, plain_span, chunk_row, plain_job, label_at, plain_variant, length_variant, thirds, mixed, built}

-- ---- whether a row is near, as a computation

is_same : Bool → Bool → Bool
is_same a b = cond a b (not b)

is_near : Frac → ClusterRow → ExactCluster → Bool
unfolding is_same
is_near b row q =
    eqb row.index q.group.first.index && is_same (eqb (row.flags / 32 % 2) 1) q.collapsed && is_finite row.x
    && leᵠ (absᵠ (value_of row.x -ᵠ q.x)) b

are_near : Frac → List ClusterRow → List ExactCluster → Bool
unfolding is_near
are_near b [] [] = true
are_near b [] (q ∷ qs) = false
are_near b (row ∷ rows) [] = false
are_near b (row ∷ rows) (q ∷ qs) = is_near b row q && are_near b rows qs

same_of : (a b : Bool) → T (is_same a b) → a ≡ b
unfolding is_same
same_of true true t = refl
same_of false false t = refl
same_of false true t = elim t [ ]
same_of true false t = elim t [ ]

four : (a b c d : Bool) → T (a && b && c && d) → T a × T b × T c × T d
four true true true true t = (tt, tt, tt, tt)
four false b c d t = elim t [ ]
four true false c d t = elim t [ ]
four true true false d t = elim t [ ]
four true true true false t = elim t [ ]

near_of : (b : Frac) (row : ClusterRow) (q : ExactCluster) → T (is_near b row q) → Near b row q
unfolding is_near
near_of b row q t =
    let k =
    four (eqb row.index q.group.first.index) (is_same (eqb (row.flags / 32 % 2) 1) q.collapsed) (is_finite row.x) (leᵠ (absᵠ (value_of row.x -ᵠ q.x)) b) t in
    record {
      index = eqb→eq row.index q.group.first.index k.0;
      collapsed = same_of (eqb (row.flags / 32 % 2) 1) q.collapsed k.1;
      finite = k.2;
      distance = k.3;
    }

all_near : (b : Frac) (rows : List ClusterRow) (qs : List ExactCluster) → T (are_near b rows qs) → AllPairs (Near b) rows qs
unfolding are_near
all_near b [] [] t = AllPairs.none
all_near b [] (q ∷ qs) t = elim t [ ]
all_near b (row ∷ rows) [] t = elim t [ ]
all_near b (row ∷ rows) (q ∷ qs) t =
    AllPairs.more (near_of b row q (and_l (is_near b row q) (are_near b rows qs) t)) (all_near b rows qs (and_r (is_near b row q) (are_near b rows qs) t))

-- ---- labels

answer_to : List ℕ → List ℕ
answer_to job = buffer_after (layout_of job 65536) []

-- the answer to the one job is near the exact layout of the other
AnswerNear : List ℕ → List ℕ → Type 0
unfolding answer_to
AnswerNear job other = NearAnswer (checked other) (answer_to job)

-- the label with some letter spacing and anchor
label_with : ℕ → ℕ → List ℕ
label_with letter anchor = label_at anchor (plain_variant (tag "Latn") letter)

-- the label anchored at its start, with a text length (flag, value, adjust) and a dx list
lengthened : ℕ → ℕ → ℕ → List ℕ → List ℕ
lengthened fixed target adjust dx = label_at 0 (length_variant fixed target adjust dx)

unfoldable seen : Unit {0}
unfolding is_same is_near are_near answer_to AnswerNear label_with lengthened shown
seen = tt

-- ---- without a text length

-- the label itself
label-near : AnswerNear (label_with (whole 1) 2) (label_with (whole 1) 2)
unfolding computed built seen
label-near = (all_near _ _ _ tt, tt)

-- its first two clusters collapse
collapsed-near : AnswerNear (label_with (below 11) 2) (label_with (below 11) 2)
unfolding computed built seen
collapsed-near = (all_near _ _ _ tt, tt)

-- in a script without letter spacing none does, of the exact clusters neither
joined : List ℕ
joined = label_at 2 (plain_variant (tag "Rohg") (below 11))

joined-near : AnswerNear joined joined
unfolding computed built seen joined
joined-near = (all_near _ _ _ tt, tt)

-- anchored in the middle
middle-near : AnswerNear (label_with (whole 1) 1) (label_with (whole 1) 1)
unfolding computed built seen
middle-near = (all_near _ _ _ tt, tt)

-- two glyphs without width, shifted by 2 ^ 20 and by 2 ^ -20 more, which rounding loses: T is what the shifts add
shifts : List ℕ
shifts = plain_job (0x49800000 ∷ 0x35800000 ∷ []) [] (chunk_row 0 (65 ∷ 66 ∷ []) (plain_span 0 2 (wide_row 1 0 1 0 ∷ wide_row 2 1 1 0 ∷ []) ∷ []) ∷ [])

shifts-near : AnswerNear shifts shifts
unfolding computed built seen shifts
shifts-near = (all_near _ _ _ tt, tt)

-- two chunks: the dx of the second one's character is the job's second
chunks : List ℕ
chunks =
    plain_job (0 ∷ whole 3 ∷ []) [] (chunk_row 0 (65 ∷ []) (plain_span 0 1 (letter_row 1 0 1 ∷ []) ∷ []) ∷ chunk_row 1 (66 ∷ []) (plain_span 0 1 (letter_row 2 0 1 ∷ []) ∷ []) ∷ [])

chunks-near : AnswerNear chunks chunks
unfolding computed built seen chunks
chunks-near = (all_near _ _ _ tt, (all_near _ _ _ tt, tt))

-- ---- with a text length

-- Spacing to 54, SpacingAndGlyphs to 48, the natural length to 54
spaced-near : AnswerNear (lengthened 1 (whole 54) 0 []) (lengthened 1 (whole 54) 0 [])
unfolding computed built seen
spaced-near = (all_near _ _ _ tt, tt)

scaled-near : AnswerNear (lengthened 1 (whole 48) 1 []) (lengthened 1 (whole 48) 1 [])
unfolding computed built seen
scaled-near = (all_near _ _ _ tt, tt)

natural-near : AnswerNear (lengthened 1 (whole 54) 2 []) (lengthened 1 (whole 54) 2 [])
unfolding computed built seen
natural-near = (all_near _ _ _ tt, tt)

-- exact offsets that no float is: by Spacing, and by all three in one chunk
thirds-near : AnswerNear thirds thirds
unfolding computed built seen
thirds-near = (all_near _ _ _ tt, tt)

mixed-near : AnswerNear mixed mixed
unfolding computed built seen
mixed-near = (all_near _ _ _ tt, tt)

-- ---- the edge: an answer whose last cluster stands elsewhere, by a dx that the label does not have

last : {A B : Type 0} {R : A → B → Type 0} {a b c : A} {p q r : B} → AllPairs R (a ∷ b ∷ c ∷ []) (p ∷ q ∷ r ∷ []) → R c r
last (AllPairs.more x (AllPairs.more y (AllPairs.more z AllPairs.none))) = z

-- without a text length 6 × 33 ÷ 2 ^ 20 are allowed: 99 × 2 ^ -19 off is near, 100 is not
plain-edge : AnswerNear (lengthened 0 0 0 (0 ∷ 0 ∷ 0x39460000 ∷ [])) (lengthened 0 0 0 [])
unfolding computed built seen
plain-edge = (all_near _ _ _ tt, tt)

plain-past : AnswerNear (lengthened 0 0 0 (0 ∷ 0 ∷ 0x39480000 ∷ [])) (lengthened 0 0 0 []) → ⊥
unfolding computed built seen
plain-past h = (last h.0).distance

-- with one, SpacingAndGlyphs to 48, it is 6 × 81 ÷ 2 ^ 18: 972 × 2 ^ -19 off is near, 973 is not
scaled-edge : AnswerNear (lengthened 1 (whole 48) 1 (0 ∷ 0 ∷ 0x3af30000 ∷ [])) (lengthened 1 (whole 48) 1 [])
unfolding computed built seen
scaled-edge = (all_near _ _ _ tt, tt)

scaled-past : AnswerNear (lengthened 1 (whole 48) 1 (0 ∷ 0 ∷ 0x3af34000 ∷ [])) (lengthened 1 (whole 48) 1 []) → ⊥
unfolding computed built seen
scaled-past h = (last h.0).distance
