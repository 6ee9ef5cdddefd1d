-- Step 6 goes to the places of the clusters that take part. The same, cluster by cluster: a mark for each that says whether it does.
-- For any arithmetic. Assumes nothing.
use Prim.Native.Nat.{ℕ, ◌+◌}
use mathlib.Core.Path.{◌≡◌, refl, sym, ap, ◌∙◌, subst}
use mathlib.Core.Bool.{Bool, true, false, not, cond, ◌&&◌}
use mathlib.Core.List.{List, [], ◌∷◌, ◌++◌, map, foldl}
use native.Mathlib.Omega.{arith}
use lib.ListN.{length, length-append}
use lib.Seq.{append_snoc}
use Rattle.spec.specs.declared.Span.{Span}
use Rattle.spec.specs.Lists.{elem, modify, get_map_or}
use Rattle.spec.specs.Merge.{span_contains}
use Rattle.spec.specs.Arithmetic.{Arithmetic, indexes}
use Rattle.spec.specs.LengthAdjust.{places_from, cluster_indexes, spacing_factor, taken_of, stretched_by, adjust_spacing_of}

-- which of the byte indexes take part; `seen` came before
abbrev pub marks_from : Span → List ℕ → List ℕ → List Bool
marks_from s seen [] = []
marks_from s seen (i ∷ is) = (span_contains s i && not (elem i seen)) ∷ marks_from s (i ∷ seen) is

-- how many are marked
abbrev pub marked : List Bool → ℕ
marked [] = 0
marked (b ∷ bs) = cond b 1 0 + marked bs

module _ {C : Type 0} where
  -- the marked ones, and f at each of them
  abbrev pub pick : List Bool → List C → List C
  pick [] cs = []
  pick (b ∷ bs) [] = []
  pick (b ∷ bs) (c ∷ cs) = cond b (c ∷ pick bs cs) (pick bs cs)

  abbrev pub at_marks : (C → C) → List Bool → List C → List C
  at_marks f [] cs = cs
  at_marks f (b ∷ bs) [] = []
  at_marks f (b ∷ bs) (c ∷ cs) = cond b (f c) c ∷ at_marks f bs cs

  modify-at : (f : C → C) (before : List C) (c : C) (cs : List C) (k : ℕ) → length before ≡ k → modify f (before ++ c ∷ cs) k ≡ before ++ f c ∷ cs
  unfolding modify
  modify-at f [] c cs k e = subst (λ (k : ℕ). modify f (c ∷ cs) k ≡ f c ∷ cs) e refl
  modify-at f (b ∷ bs) c cs k e =
      subst (λ (k : ℕ). modify f (b ∷ (bs ++ c ∷ cs)) k ≡ b ∷ (bs ++ f c ∷ cs)) e (ap (λ (l : List C). b ∷ l) (modify-at f bs c cs (length bs) refl))

  at_here : {N : Type 0} (d : N) (x : C → N) (before : List C) (c : C) (cs : List C) (k : ℕ) → length before ≡ k → get_map_or d x (before ++ c ∷ cs) k ≡ x c
  unfolding get_map_or
  at_here d x [] c cs k e = subst (λ (k : ℕ). get_map_or d x (c ∷ cs) k ≡ x c) e refl
  at_here d x (b ∷ bs) c cs k e = subst (λ (k : ℕ). get_map_or d x (b ∷ (bs ++ c ∷ cs)) k ≡ x c) e (at_here d x bs c cs (length bs) refl)

  one_more : (before : List C) (c : C) (k : ℕ) → length before ≡ k → length (before ++ (c ∷ [])) ≡ k + 1
  one_more before c k e = length-append before (c ∷ []) ∙ ap (λ (n : ℕ). n + 1) e

  module _ (index : C → ℕ) (s : Span) where
    modify-places : (f : C → C) (seen : List ℕ) (before cs : List C) (k : ℕ) → length before ≡ k
        → foldl (modify f) (before ++ cs) (places_from s seen k (map index cs)) ≡ before ++ at_marks f (marks_from s seen (map index cs)) cs
    unfolding places_from
    modify-places f seen before [] k e = refl
    modify-places f seen before (c ∷ cs) k e =
        go (span_contains s (index c) && not (elem (index c) seen)) (λ d. modify-places f (index c ∷ seen) (before ++ (d ∷ [])) cs (k + 1) (one_more before d k e))
      where
        later : List ℕ
        later = places_from s (index c ∷ seen) (k + 1) (map index cs)

        marks : List Bool
        marks = marks_from s (index c ∷ seen) (map index cs)

        go : (b : Bool) → ((d : C) → foldl (modify f) (before ++ (d ∷ []) ++ cs) later ≡ before ++ (d ∷ []) ++ at_marks f marks cs)
            → foldl (modify f) (before ++ c ∷ cs) (cond b (k ∷ later) later) ≡ before ++ cond b (f c) c ∷ at_marks f marks cs
        go true rest =
            ap (λ (l : List C). foldl (modify f) l later) (modify-at f before c cs k e ∙ sym (append_snoc before (f c) cs)) ∙ rest (f c)
            ∙ append_snoc before (f c) (at_marks f marks cs)
        go false rest = ap (λ (l : List C). foldl (modify f) l later) (sym (append_snoc before c cs)) ∙ rest c ∙ append_snoc before c (at_marks f marks cs)

    -- a number of each, added up over the places
    sum-places : {N : Type 0} (op : N → N → N) (d : N) (x : C → N) (seen : List ℕ) (before cs : List C) (k : ℕ) → length before ≡ k → (w : N)
        → foldl (λ (w : N) (i : ℕ). op w (get_map_or d x (before ++ cs) i)) w (places_from s seen k (map index cs))
        ≡ foldl (λ (w : N) (c : C). op w (x c)) w (pick (marks_from s seen (map index cs)) cs)
    unfolding places_from
    sum-places op d x seen before [] k e w = refl
    sum-places {N} op d x seen before (c ∷ cs) k e w =
        go (span_contains s (index c) && not (elem (index c) seen)) (sum-places op d x (index c ∷ seen) (before ++ (c ∷ [])) cs (k + 1) (one_more before c k e))
      where
        later : List ℕ
        later = places_from s (index c ∷ seen) (k + 1) (map index cs)

        marks : List Bool
        marks = marks_from s (index c ∷ seen) (map index cs)

        total : List C → N → List ℕ → N
        total l w is = foldl (λ (w : N) (i : ℕ). op w (get_map_or d x l i)) w is

        chosen : N → List C → N
        chosen w l = foldl (λ (w : N) (c : C). op w (x c)) w l

        go : (b : Bool) → ((w : N) → total (before ++ (c ∷ []) ++ cs) w later ≡ chosen w (pick marks cs))
            → total (before ++ c ∷ cs) w (cond b (k ∷ later) later) ≡ chosen w (cond b (c ∷ pick marks cs) (pick marks cs))
        go true rest =
            ap (λ (v : N). total (before ++ c ∷ cs) (op w v) later) (at_here d x before c cs k e)
            ∙ ap (λ (l : List C). total l (op w (x c)) later) (sym (append_snoc before c cs)) ∙ rest (op w (x c))
        go false rest = ap (λ (l : List C). total l w later) (sym (append_snoc before c cs)) ∙ rest w

    length-places : (seen : List ℕ) (k : ℕ) (is : List ℕ) → length (places_from s seen k is) ≡ marked (marks_from s seen is)
    unfolding places_from
    length-places seen k [] = refl
    length-places seen k (i ∷ is) = go (span_contains s i && not (elem i seen)) (length-places (i ∷ seen) (k + 1) is)
      where
        later : List ℕ
        later = places_from s (i ∷ seen) (k + 1) is

        go : (b : Bool) → length later ≡ marked (marks_from s (i ∷ seen) is) → length (cond b (k ∷ later) later) ≡ cond b 1 0 + marked (marks_from s (i ∷ seen) is)
        go true e = omega arith
        go false e = omega arith

-- ---- Spacing, cluster by cluster

module _ (K : Arithmetic) (s : Span) (cs : List K.Cluster) where
  abbrev pub marks_of : List Bool
  marks_of = marks_from s [] (indexes K cs)

  -- what each gets
  abbrev pub factor_of : K.Num
  factor_of = spacing_factor K s.length (foldl (λ (w : K.Num) (c : K.Cluster). K.◌⊕◌ w (taken_of K s c)) K.zero (pick marks_of cs)) (marked marks_of)

  pub adjusted-at : adjust_spacing_of K s cs ≡ at_marks (stretched_by K s factor_of) marks_of cs
  unfolding adjust_spacing_of
  adjusted-at =
      ap (λ (w : K.Num). foldl (modify (stretched_by K s (spacing_factor K s.length w (length (cluster_indexes K s cs))))) cs (cluster_indexes K s cs))
      (sum-places K.index s K.◌⊕◌ K.zero (taken_of K s) [] [] cs 0 refl K.zero)
      ∙ ap (λ (n : ℕ). foldl (modify (stretched_by K s (spacing_factor K s.length (foldl (λ (w : K.Num) (c : K.Cluster). K.◌⊕◌ w (taken_of K s c)) K.zero (pick marks_of cs)) n))) cs (cluster_indexes K s cs))
      (length-places K.index s [] 0 (indexes K cs))
      ∙ modify-places K.index s (stretched_by K s factor_of) [] [] cs 0 refl
