-- Step 6: advances and length spacing beside the exact ones, and what their masses and errors add up to over a chunk. Assumes nothing.
use Prim.Native.Nat.{ℕ, ◌+◌, ◌*◌, ◌^◌, ◌≤◌, ◌<◌}
use mathlib.Core.Path.{◌≡◌, refl, sym, ap, ap₂, ◌∙◌, subst}
use mathlib.Core.Bool.{Bool, true, false, not, cond, ◌&&◌}
use mathlib.Core.List.{List, [], ◌∷◌, map}
use native.Mathlib.Nat.{zero-add, le_refl, mul-le-mul_right}
use native.Mathlib.Omega.{arith}
use lib.ListN.{length}
use lib.Dec.{T, ltb, leb, eqb, ltb→lt, leb→le}
use lib.Ieee.{Float}
use lib.Ieee.Fits.{and_l, and_r}
use Rattle.float_error.specs.Fraction.{Frac, 0ᵠ}
use Rattle.float_error.proofs.Units.{unit}
use Rattle.float_error.proofs.Approx.{Absorbs, Absorbs.empty}
use Rattle.float_error.proofs.Quotients.{absorbs-add}
use Rattle.float_error.proofs.Track.{Track, track-weaken, track-lower, track-add}
use Rattle.float_error.proofs.Sums.{Terms}
use Rattle.spec.specs.declared.Font.{Font}
use Rattle.spec.specs.declared.Span.{Span}
use Rattle.spec.specs.declared.Cluster.{Cluster}
use Rattle.spec.specs.Single.{+0}
use Rattle.spec.specs.Lists.{elem, All}
use Rattle.spec.specs.Job.{span_at, adjust_natural}
use Rattle.spec.specs.Merge.{span_contains}
use Rattle.spec.specs.LengthAdjust.{taken_of, stretched_by}
use Rattle.spec.specs.Cluster.{rounded}
use Rattle.spec.specs.Exact.{ExactCluster, exact}
use Rattle.error_bound.proofs.Costs.{spaced_cost}
use Rattle.error_bound.proofs.Load.{load-zero}
use Rattle.error_bound.proofs.Formed.{Frame, glyphs-load}
use Rattle.error_bound.proofs.Spaced.{GroupIn, glyph_part, word_part, body}
use Rattle.error_bound.proofs.Places.{marks_from, marked, pick, at_marks}

-- ---- a cluster's masses: of its glyphs (A), with its spacing (B), and of its advance (a, with the error e); whether Spacing has set it

pub record Cell : Type 0 where
  pub A : ℕ
  pub B : ℕ
  pub a : ℕ
  pub e : ℕ
  pub done : Bool

-- sums over the cells
abbrev pub sum_of : (Cell → ℕ) → List Cell → ℕ
sum_of f [] = 0
sum_of f (k ∷ ks) = f k + sum_of f ks

-- over those that are set
abbrev pub set : (Cell → ℕ) → Cell → ℕ
set f k = cond k.done (f k) 0

-- a cluster beside the exact one, with its cell. A length spacing has at most the mass H and the error U. Those that are set have byte indexes below
-- `from`; the advance of one that is not is as steps 2 to 5 left it, and can be divided by K
pub record Beside (fonts : List Font) (spans : List Span) (K D S from H U : ℕ) (k : Cell) (c : Cluster) (q : ExactCluster) : Type 0 where
  pub group : GroupIn fonts spans q.group
  pub glyphs : k.A ≡ glyph_part fonts spans K D q.group
  pub body : k.B ≡ word_part fonts spans K D q.group
  pub index : c.index ≡ q.group.first.index
  pub collapsed : c.collapsed ≡ q.collapsed
  pub width : Track D S (K * 2) c.width q.width k.A (19 * k.A)
  pub advance : Track D S 2 c.advance q.advance k.a k.e
  pub spacing : Track D S 2 c.spacing q.spacing H U
  pub shift_x : (c.x ≡ +0) × (q.x ≡ 0ᵠ)
  pub shift_y : (c.y ≡ +0) × (q.y ≡ 0ᵠ)
  pub fresh : k.done ≡ false → (k.a ≡ k.B) × (k.e ≡ spaced_cost (length q.group.glyphs) * k.B) × Track D S (K * 2) c.advance q.advance k.a k.e
  pub past : k.done ≡ true → c.index < from

pub data Lined (fonts : List Font) (spans : List Span) (K D S from H U : ℕ) : List Cell → List Cluster → List ExactCluster → Type 0 where
  none : Lined fonts spans K D S from H U [] [] []
  more : {k : Cell} {c : Cluster} {q : ExactCluster} {ks : List Cell} {cs : List Cluster} {qs : List ExactCluster} → Beside fonts spans K D S from H U k c q
      → Lined fonts spans K D S from H U ks cs qs → Lined fonts spans K D S from H U (k ∷ ks) (c ∷ cs) (q ∷ qs)

-- ---- the cells that a span's text length sets: f is the mass of what each gets, E its error

-- the mass and the error of what is brought to the length
abbrev pub part : Span → Cell → ℕ
part s k = cond (eqb s.adjust adjust_natural) k.a k.A

abbrev pub cost : Span → Cell → ℕ
cost s k = cond (eqb s.adjust adjust_natural) k.e (19 * k.A)

abbrev pub set_cell : Span → ℕ → ℕ → Cell → Cell
set_cell s f E k = record { A = k.A; B = k.B; a = part s k + f; e = cost s k + E + 9 * (part s k + f); done = true }

-- no marked cell was set before
pub data Unset : List Bool → List Cell → Type 0 where
  nil : Unset [] []
  here : {k : Cell} {bs : List Bool} {ks : List Cell} → k.done ≡ false → Unset bs ks → Unset (true ∷ bs) (k ∷ ks)
  there : {k : Cell} {bs : List Bool} {ks : List Cell} → Unset bs ks → Unset (false ∷ bs) (k ∷ ks)

module _ (s : Span) (f E : ℕ) where
  pub set-A : {bs : List Bool} {ks : List Cell} → Unset bs ks
      → sum_of (set (λ k. k.a)) (at_marks (set_cell s f E) bs ks) ≡ sum_of (set (λ k. k.a)) ks + (sum_of (part s) (pick bs ks) + marked bs * f)
  set-A nil = omega arith
  set-A (here {k = k} {bs = bs} {ks = ks} e u) = rw e (omega (arith, set-A u))
  set-A (there {k = k} {bs = bs} {ks = ks} u) = omega (arith, set-A u)

  pub set-E : {bs : List Bool} {ks : List Cell} → Unset bs ks
      → sum_of (set (λ k. k.e)) (at_marks (set_cell s f E) bs ks) ≡ sum_of (set (λ k. k.e)) ks + (sum_of (cost s) (pick bs ks) + 9 * sum_of (part s) (pick bs ks) + marked bs * (E + 9 * f))
  set-E nil = omega arith
  set-E (here {k = k} {bs = bs} {ks = ks} e u) = rw e (omega (arith, set-E u))
  set-E (there {k = k} {bs = bs} {ks = ks} u) = omega (arith, set-E u)

  pub set-B : {bs : List Bool} {ks : List Cell} → Unset bs ks
      → sum_of (set (λ k. k.B)) (at_marks (set_cell s f E) bs ks) ≡ sum_of (set (λ k. k.B)) ks + sum_of (λ k. k.B) (pick bs ks)
  set-B nil = omega arith
  set-B (here {k = k} {bs = bs} {ks = ks} e u) = rw e (omega (arith, set-B u))
  set-B (there {k = k} {bs = bs} {ks = ks} u) = omega (arith, set-B u)

  pub same-B : {bs : List Bool} {ks : List Cell} → Unset bs ks → sum_of (λ k. k.B) (at_marks (set_cell s f E) bs ks) ≡ sum_of (λ k. k.B) ks
  same-B nil = refl
  same-B (here {k = k} e u) = ap (λ (n : ℕ). k.B + n) (same-B u)
  same-B (there {k = k} u) = ap (λ (n : ℕ). k.B + n) (same-B u)

marked-in : (s : Span) (i : ℕ) (b : Bool) → T (span_contains s i && b) → (s.start ≤ i) × (i < s.end)
marked-in s i b t =
    (leb→le s.start i (and_l (leb s.start i) (ltb i s.end) (and_l (span_contains s i) b t)), ltb→lt i s.end (and_r (leb s.start i) (ltb i s.end) (and_l (span_contains s i) b t)))

-- those that are set lie before the span
not_set : {fonts : List Font} {spans : List Span} {K D S from H U : ℕ} {k : Cell} {c : Cluster} {q : ExactCluster} (s : Span) → Beside fonts spans K D S from H U k c q → from ≤ s.start
    → s.start ≤ q.group.first.index → k.done ≡ false
not_set {k = k} {c = c} {q = q} s b h i = go k.done refl
  where
    go : (d : Bool) → k.done ≡ d → d ≡ false
    go true e = let z : ⊥ = omega (arith, b.past e, b.index) in absurd z
    go false e = refl

mark-unset : (s : Span) (i : ℕ) (seen : List ℕ) (k : Cell) (bs : List Bool) (ks : List Cell) → (s.start ≤ i → k.done ≡ false) → Unset bs ks
    → Unset ((span_contains s i && not (elem i seen)) ∷ bs) (k ∷ ks)
mark-unset s i seen k bs ks h u = go (span_contains s i && not (elem i seen)) refl
  where
    go : (m : Bool) → (span_contains s i && not (elem i seen)) ≡ m → Unset (m ∷ bs) (k ∷ ks)
    go true e = here (h (marked-in s i (not (elem i seen)) (subst T (sym e) tt)).0) u
    go false e = there u

pub unset : {fonts : List Font} {spans : List Span} {K D S from H U : ℕ} {ks : List Cell} {cs : List Cluster} {qs : List ExactCluster} (s : Span) (seen : List ℕ)
    → Lined fonts spans K D S from H U ks cs qs → from ≤ s.start → Unset (marks_from s seen (map exact.index qs)) ks
unset s seen Lined.none h = nil
unset s seen (Lined.more {q = q} b bs) h = mark-unset s q.group.first.index seen _ _ _ (not_set s b h) (unset s (q.group.first.index ∷ seen) bs h)

-- ---- the step, cluster by cluster

pub same-indexes : {fonts : List Font} {spans : List Span} {K D S from H U : ℕ} {ks : List Cell} {cs : List Cluster} {qs : List ExactCluster} → Lined fonts spans K D S from H U ks cs qs
    → map rounded.index cs ≡ map exact.index qs
same-indexes Lined.none = refl
same-indexes (Lined.more b bs) = ap₂ ◌∷◌ b.index (same-indexes bs)

-- the next span begins further on
module _ {fonts : List Font} {spans : List Span} {K D S from H U : ℕ} (to : ℕ) (h : from ≤ to) where
  later-one : {k : Cell} {c : Cluster} {q : ExactCluster} → Beside fonts spans K D S from H U k c q → Beside fonts spans K D S to H U k c q
  later-one b =
      record {
        group = b.group;
        glyphs = b.glyphs;
        body = b.body;
        index = b.index;
        collapsed = b.collapsed;
        width = b.width;
        advance = b.advance;
        spacing = b.spacing;
        shift_x = b.shift_x;
        shift_y = b.shift_y;
        fresh = b.fresh;
        past = λ e. omega (arith, b.past e);
      }

  pub later : {ks : List Cell} {cs : List Cluster} {qs : List ExactCluster} → Lined fonts spans K D S from H U ks cs qs → Lined fonts spans K D S to H U ks cs qs
  later Lined.none = Lined.none
  later (Lined.more b l) = Lined.more (later-one b) (later l)

module _ {fonts : List Font} {spans : List Span} {K D S : ℕ} (frame : Frame fonts K D S) where
  -- of one cluster's glyphs, with its spacing
  body-small : {from H U : ℕ} {k : Cell} {c : Cluster} {q : ExactCluster} → Beside fonts spans K D S from H U k c q → k.B ≤ 2 ^ 40 * (unit * D)
  body-small {k = k} {q = q} b = rw b.body (go (unit * D) _ _ (body spans frame q.group b.group).small)
    where
      go : (z l w : ℕ) → 0 + glyph_part fonts spans K D q.group + l + w ≤ (0 + length q.group.glyphs + 1 + 1) * (2 ^ 28 * z) → glyph_part fonts spans K D q.group + l + w ≤ 2 ^ 40 * z
      go z l w h = omega (arith, mul-le-mul_right (2 ^ 28 * z) b.group.few)

  glyphs-absorb : {from H U : ℕ} {k : Cell} {c : Cluster} {q : ExactCluster} → Beside fonts spans K D S from H U k c q → Absorbs D k.A k.A
  glyphs-absorb {k = k} {q = q} b =
      subst (λ (m : ℕ). Absorbs D m m) (zero-add _ ∙ sym b.glyphs)
      (glyphs-load frame (span_at spans q.group.span).size b.group.span.size (load-zero D) b.group.glyphs).absorbs

  body-absorb : {from H U : ℕ} {k : Cell} {c : Cluster} {q : ExactCluster} → Beside fonts spans K D S from H U k c q → Absorbs D k.B k.B
  body-absorb {k = k} {q = q} b = subst (λ (m : ℕ). Absorbs D m m) (omega (arith, b.body)) (body spans frame q.group b.group).absorbs

  -- what is brought to the length, of a cluster that is not set
  module _ (s : Span) {from H U : ℕ} {k : Cell} {c : Cluster} {q : ExactCluster} (b : Beside fonts spans K D S from H U k c q) (e : k.done ≡ false) where
    taken-track : Track D S (K * 2) (taken_of rounded s c) (taken_of exact s q) (part s k) (cost s k)
    taken-track = go (eqb s.adjust adjust_natural)
      where
        go : (y : Bool) → Track D S (K * 2) (cond y c.advance c.width) (cond y q.advance q.width) (cond y k.a k.A) (cond y k.e (19 * k.A))
        go true = (b.fresh e).2
        go false = b.width

    part-absorb : Absorbs D (part s k) (part s k)
    part-absorb = go (eqb s.adjust adjust_natural)
      where
        go : (y : Bool) → Absorbs D (cond y k.a k.A) (cond y k.a k.A)
        go true = subst (λ (m : ℕ). Absorbs D m m) (sym (b.fresh e).0) (body-absorb b)
        go false = glyphs-absorb b

    part-below : part s k ≤ k.B
    part-below = go (eqb s.adjust adjust_natural)
      where
        go : (y : Bool) → cond y k.a k.A ≤ k.B
        go true = omega (arith, (b.fresh e).0)
        go false = omega (arith, b.glyphs, b.body)

    cost-below : (g : ℕ) → length q.group.glyphs ≤ g → cost s k ≤ spaced_cost g * part s k
    cost-below g h = go (eqb s.adjust adjust_natural)
      where
        own : (m x y : ℕ) → m ≤ g → x ≡ y → spaced_cost m * y ≤ spaced_cost g * x
        own m x y i j = rw j (mul-le-mul_right y (omega arith))

        go : (y : Bool) → cond y k.e (19 * k.A) ≤ spaced_cost g * cond y k.a k.A
        go true = rw (b.fresh e).1 (own (length q.group.glyphs) k.a k.B h (b.fresh e).0)
        go false = omega arith

  -- over the marked clusters, none of which is set
  pub taken-terms : (s : Span) {from H U : ℕ} {bs : List Bool} {ks : List Cell} {cs : List Cluster} {qs : List ExactCluster} → Unset bs ks → Lined fonts spans K D S from H U ks cs qs
      → Terms D S (K * 2) (taken_of rounded s) (taken_of exact s) (pick bs cs) (pick bs qs) (sum_of (part s) (pick bs ks)) (sum_of (cost s) (pick bs ks)) (length (pick bs ks))
  taken-terms s nil Lined.none = Terms.none
  taken-terms s (here {bs = bs} e u) (Lined.more {k = k} {ks = ks} b l) =
      Terms.more (part s k + sum_of (part s) (pick bs ks)) (cost s k + sum_of (cost s) (pick bs ks)) (taken-track s b e) (taken-terms s u l) (le_refl (part s k + sum_of (part s) (pick bs ks))) (le_refl (cost s k + sum_of (cost s) (pick bs ks)))
  taken-terms s (there u) (Lined.more b l) = taken-terms s u l

  pub picked-absorb : (s : Span) {from H U : ℕ} {bs : List Bool} {ks : List Cell} {cs : List Cluster} {qs : List ExactCluster} → Unset bs ks → Lined fonts spans K D S from H U ks cs qs
      → Absorbs D (sum_of (part s) (pick bs ks)) (sum_of (part s) (pick bs ks))
  picked-absorb s nil Lined.none = empty refl
  picked-absorb s (here e u) (Lined.more b l) = absorbs-add (part-absorb s b e) (picked-absorb s u l)
  picked-absorb s (there u) (Lined.more b l) = picked-absorb s u l

  pub parts_below : (s : Span) {from H U : ℕ} {bs : List Bool} {ks : List Cell} {cs : List Cluster} {qs : List ExactCluster} → Unset bs ks → Lined fonts spans K D S from H U ks cs qs
      → sum_of (part s) (pick bs ks) ≤ sum_of (λ k. k.B) (pick bs ks)
  parts_below s nil Lined.none = le_refl 0
  parts_below s (here e u) (Lined.more b l) = omega (arith, parts_below s u l, part-below s b e)
  parts_below s (there u) (Lined.more b l) = parts_below s u l

  pub costs-below : (s : Span) (g : ℕ) {from H U : ℕ} {bs : List Bool} {ks : List Cell} {cs : List Cluster} {qs : List ExactCluster} → Unset bs ks → All (λ q. length q.group.glyphs ≤ g) qs → Lined fonts spans K D S from H U ks cs qs
      → sum_of (cost s) (pick bs ks) ≤ spaced_cost g * sum_of (part s) (pick bs ks)
  costs-below s g nil All.none Lined.none = omega arith
  costs-below s g nil (All.more p ps) l = elim l [ ]
  costs-below s g (here e u) All.none l = elim l [ ]
  costs-below s g (here {bs = bs} {ks = ks} e u) (All.more p ps) (Lined.more {k = k} b l) = go (part s k) (cost s k) (sum_of (part s) (pick bs ks)) (sum_of (cost s) (pick bs ks)) (cost-below s b e g p) (costs-below s g u ps l)
    where
      go : (m d m' d' : ℕ) → d ≤ spaced_cost g * m → d' ≤ spaced_cost g * m' → d + d' ≤ spaced_cost g * (m + m')
      go m d m' d' h i = omega arith
  costs-below s g (there u) All.none l = elim l [ ]
  costs-below s g (there u) (All.more p ps) (Lined.more b l) = costs-below s g u ps l

  -- what a marked cluster gets: mass f, error E
  module _ {from H U f E : ℕ} {x : Float} {y : Frac} (s : Span) (t : Track D S 2 x y f E) (f_h : f ≤ H) (EH : E ≤ U) (Ef : E ≤ 2 ^ 23 * f) (H-small : H ≤ 2 ^ 48 * (unit * D)) (before : from ≤ s.start) (order : s.start ≤ s.end) where
    set-one : {k : Cell} {c : Cluster} {q : ExactCluster} → Beside fonts spans K D S from H U k c q → k.done ≡ false → q.group.first.index < s.end
        → Beside fonts spans K D S s.end H U (set_cell s f E k) (stretched_by rounded s x c) (stretched_by exact s y q)
    set-one {k} {c} {q} b e h =
        record {
          group = b.group;
          glyphs = b.glyphs;
          body = b.body;
          index = b.index;
          collapsed = b.collapsed;
          width = b.width;
          advance = track-add (part s k + f) (track-lower 2 K (taken-track s b e)) t (le_refl (part s k + f)) (room (part s k) (cost s k) (cost-below s b e 1024 b.group.few)) (fits (part s k) (unit * D) (part-below s b e) (body-small b) H-small frame.scale.large);
          spacing = track-weaken H U f_h EH t;
          shift_x = b.shift_x;
          shift_y = b.shift_y;
          fresh = λ e. let z : ◌≡◌ {A = ℕ} 0 1 = cc in absurd (omega arith);
          past = λ e. subst (λ (n : ℕ). n < s.end) (sym b.index) h;
        }
      where
        room : (a d : ℕ) → d ≤ spaced_cost 1024 * a → d + E ≤ 2 ^ 24 * (a + f)
        room a d i = omega arith

        fits : (a z : ℕ) → a ≤ k.B → k.B ≤ 2 ^ 40 * z → H ≤ 2 ^ 48 * z → 2 ^ 50 * z ≤ S → a + f ≤ S
        fits a z i j m n = omega arith

    mark-one : {k : Cell} {c : Cluster} {q : ExactCluster} (seen : List ℕ) {ks : List Cell} {cs : List Cluster} {qs : List ExactCluster} → Beside fonts spans K D S from H U k c q → (bs : List Bool)
        → Lined fonts spans K D S s.end H U ks cs qs
        → (m : Bool) → (span_contains s q.group.first.index && not (elem q.group.first.index seen)) ≡ m
        → Lined fonts spans K D S s.end H U (cond m (set_cell s f E k) k ∷ ks) (cond m (stretched_by rounded s x c) c ∷ cs) (cond m (stretched_by exact s y q) q ∷ qs)
    mark-one {q = q} seen b bs l true e =
        let i = marked-in s q.group.first.index (not (elem q.group.first.index seen)) (subst T (sym e) tt) in
        Lined.more (set-one b (not_set s b before i.0) i.1) l
    mark-one seen b bs l false e = Lined.more (later-one s.end (omega arith) b) l

    pub set-lined : {ks : List Cell} {cs : List Cluster} {qs : List ExactCluster} (seen : List ℕ) → Lined fonts spans K D S from H U ks cs qs
        → Lined fonts spans K D S s.end H U (at_marks (set_cell s f E) (marks_from s seen (map exact.index qs)) ks) (at_marks (stretched_by rounded s x) (marks_from s seen (map exact.index qs)) cs)
        (at_marks (stretched_by exact s y) (marks_from s seen (map exact.index qs)) qs)
    set-lined seen Lined.none = Lined.none
    set-lined seen (Lined.more {q = q} b l) = mark-one seen b [] (set-lined (q.group.first.index ∷ seen) l) _ refl
